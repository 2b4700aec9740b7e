-- How the timers in the order of their moments agree with the map of moments.
use Rattle.std.specs.Prelude.{ℕ, ◌≡◌, nat_eq, Bool, false, Option, Some, None}
use Rattle.std.specs.BTreeMap as tree
use Rattle.std.specs.BTreeSet as sorted
use Rattle.bnc_work.specs.declared.timer.Timer.{Timer}
use Rattle.bnc_work.specs.declared.due.Due.{Due}
use Rattle.bnc_work.specs.Order.{timer_cmp, due_cmp}

abbrev pub Moments : Type 0
Moments = tree.BTreeMap Timer ℕ

abbrev pub Dues : Type 0
Dues = sorted.BTreeSet Due

abbrev pub due : ℕ → Timer → Due
due t k = record { at = t; timer = k }

-- the moment is that one
abbrev pub is_then : ℕ → Option ℕ → Bool
is_then t None = false
is_then t (Some u) = nat_eq t u

-- a timer stands at its moment, and nowhere else
abbrev pub Agree : Dues → Moments → Type 0
Agree order moments =
    (t : ℕ) (k : Timer) →
    sorted.contains due_cmp order (due t k) ≡ is_then t (tree.get timer_cmp moments k)
