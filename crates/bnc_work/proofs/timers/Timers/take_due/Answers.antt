use Rattle.std.proofs.Common.{rules, ◌≡◌, ◌<◌, ◌≤◌, ◌∙◌, sym, ap, subst, false, true, arith}
use Rattle.std.specs.FinMap as map
use Rattle.ordered_maps.proofs.CallerLemmas.{removed}
use Rattle.bnc_work.specs.Timers.{Timers, IsFrom, IsLaterThan}
use Rattle.bnc_work.proofs.OrderLemmas.{timer_total, timer_exact}
use Rattle.bnc_work.proofs.AgreementLemmas.{found, its_moment, from_least, gone_agree, later_of_none}
use Rattle.bnc_work.proofs.timers.Timers.take_due.Goals as goal

pub returns-in_err-first-clause-none : goal.returns-in_err-first-clause-none
returns-in_err-first-clause-none c _ =
    subst (IsLaterThan c.args.now) c.self.view_is
    (later_of_none c.self.inside.order c.self.inside.moments c.self.invariant (λ h. let is : false ≡ true = c.in_err-first.ensures.variant.1 h in cc is) c.args.now)

pub returns-then-now-first-clause-none : goal.returns-then-now-first-clause-none
returns-then-now-first-clause-none c _ k u e =
    let first = c.in_ok-first.field-0.now in
    let early : c.args.now < first.at = search rules in
    let from : first.at ≤ u =
    subst (IsFrom first.at) c.self.view_is (from_least c.self.inside.order c.self.inside.moments c.self.invariant first c.in_ok-first.ensures.least) k u e in
    omega (arith, early, from)

pub invariant_of-self : goal.invariant_of-self
invariant_of-self c =
    let order = c.self.inside.order in
    let moments = c.self.inside.moments in
    let first = c.in_ok-first.field-0.now in
    gone_agree order c.remove.new.self moments c.remove-2.new.self c.self.invariant first.timer first.at c.remove.ensures.updates.0
    (its_moment order moments c.self.invariant first.at first.timer c.in_ok-first.ensures.member) c.remove-2.ensures.updates.0

pub returns-clause-taken : goal.returns-clause-taken
returns-clause-taken c =
    let order = c.self.inside.order in
    let moments = c.self.inside.moments in
    let first = c.in_ok-first.field-0.now in
    let is_due : first.at ≤ c.args.now = search rules in
    record {
      at = first.at;
      was = sym (found moments c.args.self.now first.timer c.self.view_is) ∙ its_moment order moments c.self.invariant first.at first.timer c.in_ok-first.ensures.member;
      due = is_due;
      earliest = subst (IsFrom first.at) c.self.view_is (from_least order moments c.self.invariant first c.in_ok-first.ensures.least);
      left = removed timer_total timer_exact moments.entries c.remove-2.new.self.entries first.timer c.remove-2.ensures.updates.0 ∙ ap (λ (s : Timers). map.remove s first.timer) c.self.view_is;
    }
