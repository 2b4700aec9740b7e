use Rattle.std.proofs.Common.{◌≡◌, ◌∙◌, sym, subst, false, true}
use Rattle.bnc_work.specs.Timers.{IsFrom}
use Rattle.bnc_work.proofs.AgreementLemmas.{found, its_moment, from_least, empty_of}
use Rattle.bnc_work.proofs.timers.Timers.next.Goals as goal

pub returns-in-Some-clause-earliest : goal.returns-in-Some-clause-earliest
returns-in-Some-clause-earliest c =
    let order = c.self.inside.order in
    let moments = c.self.inside.moments in
    let first = c.in-Some.due.now in (
      (first.timer, sym (found moments c.args.self.now first.timer c.self.view_is) ∙ its_moment order moments c.self.invariant first.at first.timer c.in-Some.ensures.member),
      subst (IsFrom first.at) c.self.view_is (from_least order moments c.self.invariant first c.in-Some.ensures.least),
    )

pub returns-in-None-clause-none : goal.returns-in-None-clause-none
returns-in-None-clause-none c _ =
    sym c.self.view_is ∙ empty_of c.self.inside.order c.self.inside.moments c.self.invariant (λ h. let is : false ≡ true = c.in-None.ensures.variant.1 h in cc is)
