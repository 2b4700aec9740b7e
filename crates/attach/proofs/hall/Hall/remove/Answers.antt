use Rattle.std.proofs.Common.{sym, ◌∙◌}
use Rattle.attach.proofs.HallLemmas.{found_at, takes_out_at}
use Rattle.attach.proofs.hall.Hall.remove.Goals as goal

pub returns-clause-removed : goal.returns-clause-removed
returns-clause-removed g c = c.try_remove.ensures.value ∙ sym (found_at c.self.inside.attachments c.args.key c.args.self.now c.self.view_is)

pub returns-clause-left : goal.returns-clause-left
returns-clause-left g c = takes_out_at c.self.inside.attachments c.try_remove.new.self c.args.key c.args.self.now c.self.view_is c.try_remove.ensures.updates
