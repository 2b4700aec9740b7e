use Rattle.std.proofs.Common.{◌≡◌, ◌+◌, ℕ, List, [], ◌∷◌, ◌++◌, add-one, sym, ap, ◌∙◌, arith}
use Rattle.shared_node.specs.declared.entry.LogEntry.{LogEntry}
use Rattle.shared_node.specs.Passes.{PassValue, pass_value, newcomers}
use Rattle.shared_node.proofs.half.WritingHalf.seat_all.Goals as goal

one_more : (pushed seated : List PassValue) (n : ℕ) (pass : PassValue) (list : List LogEntry) → seated ≡ newcomers n → pass ≡ pass_value n 0 list list → list ≡ []
    → pushed ≡ seated ++ pass ∷ [] → pushed ≡ newcomers (n + 1)
one_more pushed seated n pass list all is none last =
    last ∙ (λ i. all i ++ (is ∙ ap (λ l. pass_value n 0 l l) none) i ∷ []) ∙ ap newcomers (sym (add-one n))

pub loop-number-preserved : goal.loop-number-preserved
loop-number-preserved g c =
    let loop = c.loop-number.invariant in
    let split = c.split_off-share.ensures in
    let pushed = c.push_reserved.ensures in
    (one_more _ _ c.loop-number.number _ _ loop.0 c.in_ok-pass.ensures.pass c.requires.0 pushed.items, omega (arith, split.parts_left, loop.1), omega (arith, split.amount_left, loop.2), omega (arith, pushed.len, loop.3), omega (arith, pushed.capacity, loop.4))
