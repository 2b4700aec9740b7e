-- Timers, each with the moment at which it is due.
use Rattle.std.specs.Prelude.{ℕ, ◌≡◌, ◌≤◌, ◌<◌, Some}
use Rattle.std.specs.Coded.{Coded, coded_ℕ}
use Rattle.std.specs.FinMap as finite
use Rattle.bnc_work.specs.declared.timer.Timer.{Timer}
use Rattle.bnc_work.specs.contracts.timer.Timer as timer
use Rattle.bnc_work.specs.Order.{timer_cmp}

-- from each timer that is set to its moment
abbrev pub Timers : Type 0
Timers = finite.FinMap timer_cmp ℕ

abbrev pub coded_timers : Coded Timers
coded_timers = finite.code (timer.the_row).coded coded_ℕ

-- no timer is due before that moment
abbrev pub IsFrom : ℕ → Timers → Type 0
IsFrom t timers = (k : Timer) (u : ℕ) → finite.get timers k ≡ Some u → t ≤ u

-- each timer is due after that moment
abbrev pub IsLaterThan : ℕ → Timers → Type 0
IsLaterThan t timers = (k : Timer) (u : ℕ) → finite.get timers k ≡ Some u → t < u

-- a timer is due then, and none before
abbrev pub IsEarliest : Timers → ℕ → Type 0
IsEarliest timers t = ((k : Timer) × (finite.get timers k ≡ Some t)) × IsFrom t timers

-- a timer that is due by now, and none of which is due before it, was taken out
pub record TakesDue (old : Timers) (now : ℕ) (k : Timer) (new : Timers) : Type 0 where
  pub at : ℕ
  pub was : finite.get old k ≡ Some at
  pub due : at ≤ now
  pub earliest : IsFrom at old
  pub left : new ≡ finite.remove old k
