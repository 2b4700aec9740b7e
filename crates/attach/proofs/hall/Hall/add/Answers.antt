use Rattle.std.proofs.Common.{◌∙◌}
use Rattle.attach.proofs.HallLemmas.{found_at, puts_at}
use Rattle.attach.proofs.hall.Hall.add.Goals as goal
use Rattle.attach.proofs.hall.Hall.add.Goals.{in-Ok, in-Err}

pub returns-clause-vacant : goal.returns-clause-vacant
returns-clause-vacant g c = elim c.match-insert.branch [
  | in-Ok w ↦ rw w.result-is (found_at c.self.inside.attachments w.in-Ok.key c.args.self.now c.self.view_is ∙ w.in-Ok.ensures.was_vacant)
  | in-Err w ↦ rw w.result-is tt
]

pub returns-clause-added : goal.returns-clause-added
returns-clause-added g c = elim c.match-insert.branch [
  | in-Ok w ↦ rw w.result-is (puts_at c.self.inside.attachments c.insert.new.self w.in-Ok.key c.args.attachment c.args.self.now c.self.view_is w.in-Ok.ensures.updates)
  | in-Err w ↦ rw w.result-is tt
]
