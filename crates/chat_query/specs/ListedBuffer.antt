-- A buffer of a list of buffers is seen as its latest moment and its folded target.
use Rattle.std.specs.Prelude.{ℕ, List}
use Rattle.std.specs.Cmp.{IsTotalOrder, then_total, on_total, nat_cmp_total}
use Rattle.std.specs.Cmp.Lexicographic.{lists_total}
use Rattle.chat_history.specs.Visible.{spot_cmp}

pub listed_total : IsTotalOrder spot_cmp
listed_total =
    then_total (on_total (λ (s : ℕ × List ℕ). s.0) nat_cmp_total)
    (on_total (λ (s : ℕ × List ℕ). s.1) (lists_total nat_cmp_total))
