use Rattle.std.proofs.Common.{◌∙◌}
use Rattle.bnc_work.proofs.AgreementLemmas.{found}
use Rattle.bnc_work.proofs.timers.Timers.moment.Goals as goal

pub returns : goal.returns
returns c = c.copied.ensures ∙ c.get.ensures.value ∙ found c.self.inside.moments c.args.self.now c.args.timer c.self.view_is
