use Rattle.std.proofs.Common.{◌≡◌, ◌+◌, ◌<◌, ℕ, Bool, true, false, List, ◌∷◌, Some, sym, ap, ◌∙◌, get_or, length, drop, if◌then◌else◌}
use Rattle.std.proofs.lemmas.List.{drop_more}
use Rattle.chat_change.specs.Buffer.{Buffer}
use Rattle.chat_history.specs.Retention.{same_buffer}
use Rattle.chat_history.proofs.CallerLemmas.{same_buffer_from}
use Rattle.network_log.specs.NetworkState.{MarkerTold, last_told}
use Rattle.hosted_network.proofs.marks.last_told.Goals as goal

-- of the markers that are left, the first one is the buffer's or isn't
next-told : (markers : List MarkerTold) (at : ℕ) (m : MarkerTold) (buffer : Buffer) {same : Bool} → at < length markers → m ≡ get_or markers at m → same_buffer m.buffer buffer ≡ same
    → last_told (drop at markers) buffer ≡ (if same then Some m.at else last_told (drop (at + 1) markers) buffer)
next-told markers at m buffer within is same =
    ap (λ (l : List MarkerTold). last_told l buffer) (drop_more markers at m within ∙ ap (λ (q : MarkerTold). q ∷ drop (at + 1) markers) (sym is))
    ∙ ap (λ (b : Bool). if b then Some m.at else last_told (drop (at + 1) markers) buffer) same

pub returns-then-is_same : goal.returns-then-is_same
returns-then-is_same c =
    let buffer : Buffer = c.args.buffer.now in
    let same : same_buffer c.marker-item.result.buffer buffer ≡ true =
    ap (λ (q : MarkerTold). same_buffer q.buffer buffer) (sym c.marker.view_is) ∙ sym (same_buffer_from _ _ _ c.is_same.ensures) ∙ c.if-is_same.true in
    ap (λ (q : MarkerTold). Some q.at) c.marker.view_is
    ∙ sym (next-told c.args.markers.now c.loop-marker.marker-index c.marker-item.result buffer c.loop-marker-test.true c.marker-item.is same)
    ∙ c.loop-marker.invariant

pub loop-marker-preserved : goal.loop-marker-preserved
loop-marker-preserved c =
    let buffer : Buffer = c.args.buffer.now in
    let other : same_buffer c.marker-item.result.buffer buffer ≡ false =
    ap (λ (q : MarkerTold). same_buffer q.buffer buffer) (sym c.marker.view_is) ∙ sym (same_buffer_from _ _ _ c.is_same.ensures) ∙ c.if-is_same.false in
    sym (next-told c.args.markers.now c.loop-marker.marker-index c.marker-item.result buffer c.loop-marker-test.true c.marker-item.is other)
    ∙ c.loop-marker.invariant
