use Rattle.std.proofs.Common.{subst, sym, ◌∙◌}
use Rattle.worker_pass.proofs.PassLemmas.{AreHeld, put_behind}
use Rattle.worker_pass.proofs.pass.WorkerPassNodePass.put_floors.Goals as goal

pub returns-clause-published : goal.returns-clause-published
returns-clause-published g c =
    let facts = g.C.Connection.facts in
    let told = c.in_ok-receipt.ensures in
    let put = told.receipt in
    let pass = c.args.self.now.publisher.taker.pass in
    put_behind facts put.0 c.put_all.new.self.taker.pass.list pass.number c.args.floors.now (told.list ∙ put.2)
    (subst (AreHeld facts) (sym told.list) c.is_held.ensures) pass.list put.1.0
