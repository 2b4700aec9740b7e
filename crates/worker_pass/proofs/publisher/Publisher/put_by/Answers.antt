use Rattle.worker_pass.proofs.PassLemmas.{prefix_trans, put_behind}
use Rattle.worker_pass.proofs.publisher.Publisher.put_by.Goals as goal

pub returns-in-Ok-clause-published : goal.returns-in-Ok-clause-published
returns-in-Ok-clause-published g c =
    let put = c.in-Ok.ensures.receipt in
    let seen = c.args.view.now.seen in
    put_behind g.C.Connection.facts put.0 c.in-Ok.receipt c.learn.new.self.number c.args.changes.now put.2 c.is_held.ensures seen
    (prefix_trans seen c.learn.new.self.told put.0 c.learn.ensures.told.0 put.1.1)
