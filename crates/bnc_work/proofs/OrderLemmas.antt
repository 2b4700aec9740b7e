-- The orders of timers, and of timers at moments, tell all apart.
use Rattle.std.proofs.Common.{◌≡◌, refl, sym, ◌∙◌, ap, ℕ, nat_eq, Bool, true, ◌&&◌}
use Rattle.std.specs.Ordering.{eq_by_cmp, is_eq, nat_cmp}
use Rattle.std.specs.Cmp.{IsTotalOrder, Equal-is, tied_then, unsigned_tied}
use Rattle.std.proofs.lemmas.Cmp.{tied_itself}
use Rattle.std.proofs.lemmas.Map.Lookups.{CmpEqualImpliesEq, exact_unsigned}
use Rattle.bnc_work.specs.contracts.timer.TimerOrd.TheImpl.Laws as timer_laws
use Rattle.bnc_work.specs.declared.timer.Timer.{Timer}
use Rattle.bnc_work.specs.declared.timer.Timer.TheVariants.{Server, Newcomer, Client, Peers, Floors, Publish}
use Rattle.bnc_work.specs.Agreement.{due}
use Rattle.bnc_work.specs.Order.{timer_cmp, due_cmp}

pub timer_total : IsTotalOrder timer_cmp
timer_total = timer_laws.total-law

pub timer_exact : CmpEqualImpliesEq timer_cmp
timer_exact (Server i) (Server j) e = ap Server (exact_unsigned i j e)
timer_exact (Newcomer i) (Newcomer j) e = ap Newcomer (exact_unsigned i j e)
timer_exact (Client i) (Client j) e = ap Client (exact_unsigned i j e)
timer_exact Peers Peers e = refl
timer_exact Floors Floors e = refl
timer_exact Publish Publish e = refl
timer_exact _ _ e = cc e

-- one timer is another
abbrev pub same_timer : Timer → Timer → Bool
same_timer = eq_by_cmp timer_cmp

pub same_timer_is : (j k : Timer) → same_timer j k ≡ true → j ≡ k
same_timer_is j k e = timer_exact j k ((Equal-is (timer_cmp j k)).0 e)

pub same_timer_itself : (k : Timer) → same_timer k k ≡ true
same_timer_itself k = ap is_eq (tied_itself timer_total k)

pub same_due : (t u : ℕ) (j k : Timer) → eq_by_cmp due_cmp (due t j) (due u k) ≡ (nat_eq t u && same_timer j k)
same_due t u j k = sym (tied_then (nat_cmp t u) (timer_cmp j k)) ∙ ap (λ b. b && same_timer j k) (unsigned_tied t u)
