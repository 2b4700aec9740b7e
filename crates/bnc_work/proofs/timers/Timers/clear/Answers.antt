use Rattle.std.proofs.Common.{◌∙◌, ap, sym}
use Rattle.std.specs.FinMap as map
use Rattle.ordered_maps.proofs.CallerLemmas.{removed}
use Rattle.bnc_work.specs.Timers.{Timers}
use Rattle.bnc_work.proofs.OrderLemmas.{timer_total, timer_exact}
use Rattle.bnc_work.proofs.AgreementLemmas.{gone_agree}
use Rattle.bnc_work.proofs.timers.Timers.clear.Goals as goal

pub invariant_of-self : goal.invariant_of-self
invariant_of-self c =
    gone_agree c.self.inside.order c.remove-in-Some.new.self c.self.inside.moments c.remove.new.self c.self.invariant c.args.timer c.in-Some.before
    c.remove-in-Some.ensures.updates.0 (sym c.remove.ensures.value ∙ c.in-Some.is) c.remove.ensures.updates.0

pub returns-in-Some : goal.returns-in-Some
returns-in-Some c =
    removed timer_total timer_exact c.self.inside.moments.entries c.remove.new.self.entries c.args.timer c.remove.ensures.updates.0
    ∙ ap (λ (s : Timers). map.remove s c.args.timer) c.self.view_is

pub returns-in_default : goal.returns-in_default
returns-in_default c =
    removed timer_total timer_exact c.self.inside.moments.entries c.remove.new.self.entries c.args.timer c.remove.ensures.updates.0
    ∙ ap (λ (s : Timers). map.remove s c.args.timer) c.self.view_is
