use Rattle.std.proofs.Common.{◌∙◌}
use Rattle.shared_node.proofs.CallerLemmas.{taken_all}
use Rattle.shared_node.proofs.node_taker.NodeTakerTaker.take.Goals as goal

pub returns-in-Ok-clause-all : goal.returns-in-Ok-clause-all
returns-in-Ok-clause-all g c =
    let put = c.in-Ok.ensures.receipt in
    taken_all c.args.self.now.pass c.put.new.self.pass c.args.self.now.pass.number c.args.changes.now put.0 put.1.0 (c.in-Ok.ensures.list ∙ put.2)
