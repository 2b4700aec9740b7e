use Rattle.std.proofs.Common.{◌≡◌, ◌+◌, ◌<◌, ℕ, Bool, true, false, List, ◌∷◌, ◌++◌, [], sym, ap, ◌∙◌, get_or, length, take, drop, if◌then◌else◌, append_assoc, slice_set, arith}
use Rattle.std.proofs.lemmas.List.{drop_more, take_more, take-append-drop, take-set, drop-set, get_or_read}
use Rattle.chat_change.specs.Buffer.{Buffer}
use Rattle.chat_history.specs.Retention.{same_buffer}
use Rattle.chat_history.proofs.CallerLemmas.{same_buffer_from}
use Rattle.network_log.specs.NetworkState.{MarkerTold, with_told}
use Rattle.hosted_network.proofs.marks.note.Goals as goal

-- of the markers that are left, the first one is the buffer's or isn't
next-noted : (markers : List MarkerTold) (place : ℕ) (m : MarkerTold) (buffer : Buffer) (at : ℕ) {same : Bool} → place < length markers → m ≡ get_or markers place m
    → same_buffer m.buffer buffer ≡ same
    → with_told buffer at (drop place markers)
    ≡ (let n : MarkerTold = record m { at = at } in if same then n ∷ drop (place + 1) markers else m ∷ with_told buffer at (drop (place + 1) markers))
next-noted markers place m buffer at within is same =
    ap (with_told buffer at) (drop_more markers place m within ∙ ap (λ (q : MarkerTold). q ∷ drop (place + 1) markers) (sym is))
    ∙ ap (λ (b : Bool). let n : MarkerTold = record m { at = at } in if b then n ∷ drop (place + 1) markers else m ∷ with_told buffer at (drop (place + 1) markers)) same

-- it stands where the one before stood
in-place : (markers : List MarkerTold) (place : ℕ) (m : MarkerTold) → place < length markers → slice_set markers place m ≡ take place markers ++ m ∷ drop (place + 1) markers
in-place markers place m within =
    sym (take-append-drop place (slice_set markers place m))
    ∙ (λ i. take-set markers place m i ++ drop-set markers place m within i)

pub returns-then-is_same-clause-noted : goal.returns-then-is_same-clause-noted
returns-then-is_same-clause-noted c =
    let markers : List MarkerTold = c.loop-place.markers.items in
    let place = c.loop-place.place in
    let buffer : Buffer = c.args.buffer in
    let within : place < length markers = omega arith in
    let m : MarkerTold = c.index.result.now in
    let same : same_buffer m.buffer buffer ≡ true =
    ap (λ (q : MarkerTold). same_buffer q.buffer buffer) (sym c.behind-markers.view_is) ∙ sym (same_buffer_from _ _ _ c.is_same.ensures) ∙ c.if-is_same.true in
    let own : c.behind-markers-then-is_same.inside.buffer ≡ m.buffer =
    ap (λ (q : MarkerTold). q.buffer)
    (c.behind-markers-then-is_same.view_is ∙ get_or_read markers place c.index_mut.result.now within c.index_mut.ensures.value m ∙ sym c.index.ensures) in
    let n : MarkerTold = record m { at = c.args.at } in
    ap (λ (b : Buffer). let q : MarkerTold = record { buffer = b; at = c.args.at } in slice_set markers place q) own
    ∙ in-place markers place n within
    ∙ ap (λ (l : List MarkerTold). take place markers ++ l) (sym (next-noted markers place m buffer c.args.at within c.index.ensures same))
    ∙ c.loop-place.invariant.1

pub loop-place-preserved : goal.loop-place-preserved
loop-place-preserved c =
    let markers : List MarkerTold = c.loop-place.markers.items in
    let place = c.loop-place.place in
    let buffer : Buffer = c.args.buffer in
    let within : place < length markers = omega arith in
    let m : MarkerTold = c.index.result.now in
    let other : same_buffer m.buffer buffer ≡ false =
    ap (λ (q : MarkerTold). same_buffer q.buffer buffer) (sym c.behind-markers.view_is) ∙ sym (same_buffer_from _ _ _ c.is_same.ensures) ∙ c.if-is_same.false in
    let rest : List MarkerTold = with_told buffer c.args.at (drop (place + 1) markers) in (
      c.loop-place.invariant.0,
      ap (λ (l : List MarkerTold). l ++ rest) (take_more markers place m within ∙ ap (λ (q : MarkerTold). take place markers ++ q ∷ []) (sym c.index.ensures))
          ∙ append_assoc (take place markers) (m ∷ []) rest
          ∙ ap (λ (l : List MarkerTold). take place markers ++ l) (sym (next-noted markers place m buffer c.args.at within c.index.ensures other))
          ∙ c.loop-place.invariant.1,
      c.loop-place.invariant.2,
    )
