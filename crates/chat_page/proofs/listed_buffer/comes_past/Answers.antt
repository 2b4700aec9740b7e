use Rattle.std.proofs.Common.{◌≡◌, ◌∙◌, true, refl, sym, ap}
use Rattle.std.specs.Ordering.{is_ge, is_le}
use Rattle.chat_history.specs.Visible.{spot_cmp}
use Rattle.chat_history.proofs.CallerLemmas.{spot_total}
use Rattle.chat_page.proofs.KeptLemmas.{take_behind, last_before}
use Rattle.chat_page.proofs.listed_buffer.comes_past.Goals as goal

pub returns-in-Some : goal.returns-in-Some
returns-in-Some c t =
    let behind : is_ge (spot_cmp c.args.buffer.now c.in-Some.end.now) ≡ true = ap is_ge (sym c.cmp.ensures) ∙ sym c.is_ge.ensures ∙ t in
    rw c.if-forward.true (take_behind spot_total _ c.args.kept.now.keys c.args.buffer.now c.in-Some.end.now refl behind c.in-Some.ensures.all_up_to)

pub returns-in-Some-first : goal.returns-in-Some-first
returns-in-Some-first c t =
    let before : is_le (spot_cmp c.args.buffer.now c.in-Some-first.end.now) ≡ true = ap is_le (sym c.cmp-in-Some-first.ensures) ∙ sym c.is_le.ensures ∙ t in
    rw c.if-forward.false (last_before spot_cmp _ c.args.kept.now.keys c.args.buffer.now c.in-Some-first.end.now refl c.in-Some-first.ensures.first before)
