use Rattle.std.proofs.Common.{rules, ◌≡◌, ◌∙◌, ap, sym, Some, false, nat_eq}
use Rattle.std.specs.FinMap as map
use Rattle.ordered_maps.proofs.CallerLemmas.{inserted}
use Rattle.bnc_work.specs.Timers.{Timers}
use Rattle.bnc_work.proofs.OrderLemmas.{timer_total, timer_exact}
use Rattle.bnc_work.proofs.AgreementLemmas.{found, first_agree, same_agree, moved_agree}
use Rattle.bnc_work.proofs.timers.Timers.set.Goals as goal

pub invariant_of-self-then-before-at : goal.invariant_of-self-then-before-at
invariant_of-self-then-before-at c =
    let moments = c.self.inside.moments in
    let apart : nat_eq c.in-Some.before c.args.at ≡ false = search rules in
    moved_agree c.self.inside.order c.insert.new.self moments c.insert-2.new.self c.self.invariant c.args.timer c.args.at
    (c.in-Ok.ensures.updates.0) (c.in-Ok-insert.ensures.updates.0) c.remove-then-before-at.new.self c.in-Some.before apart c.remove-then-before-at.ensures.updates.0
    (found moments c.args.self.now c.args.timer c.self.view_is ∙ sym c.moment-before.ensures ∙ c.in-Some.is)

pub invariant_of-self-else-before-at : goal.invariant_of-self-else-before-at
invariant_of-self-else-before-at c =
    let moments = c.self.inside.moments in
    same_agree c.self.inside.order c.insert.new.self moments c.insert-2.new.self c.self.invariant c.args.timer c.args.at
    (c.in-Ok.ensures.updates.0) (c.in-Ok-insert.ensures.updates.0)
    (found moments c.args.self.now c.args.timer c.self.view_is ∙ sym c.moment-before.ensures ∙ c.in-Some.is ∙ ap Some c.if-before-at.false)

pub invariant_of-self-in_default-before : goal.invariant_of-self-in_default-before
invariant_of-self-in_default-before c =
    let moments = c.self.inside.moments in
    first_agree c.self.inside.order c.insert.new.self moments c.insert-2.new.self c.self.invariant c.args.timer c.args.at
    (c.in-Ok.ensures.updates.0) (c.in-Ok-insert.ensures.updates.0)
    (found moments c.args.self.now c.args.timer c.self.view_is ∙ sym c.moment-before.ensures ∙ c.in_default-before.is)

pub returns-then-before-at-clause-set : goal.returns-then-before-at-clause-set
returns-then-before-at-clause-set c =
    inserted timer_total timer_exact c.self.inside.moments.entries c.insert-2.new.self.entries c.args.timer c.args.at c.in-Ok-insert.ensures.updates.0
    ∙ ap (λ (s : Timers). map.insert s c.args.timer c.args.at) c.self.view_is

pub returns-else-before-at-clause-set : goal.returns-else-before-at-clause-set
returns-else-before-at-clause-set c =
    inserted timer_total timer_exact c.self.inside.moments.entries c.insert-2.new.self.entries c.args.timer c.args.at c.in-Ok-insert.ensures.updates.0
    ∙ ap (λ (s : Timers). map.insert s c.args.timer c.args.at) c.self.view_is

pub returns-in_default-before-clause-set : goal.returns-in_default-before-clause-set
returns-in_default-before-clause-set c =
    inserted timer_total timer_exact c.self.inside.moments.entries c.insert-2.new.self.entries c.args.timer c.args.at c.in-Ok-insert.ensures.updates.0
    ∙ ap (λ (s : Timers). map.insert s c.args.timer c.args.at) c.self.view_is
