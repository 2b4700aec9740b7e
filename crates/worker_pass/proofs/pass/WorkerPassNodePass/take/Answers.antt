use Rattle.worker_pass.proofs.PassLemmas.{put_into}
use Rattle.worker_pass.proofs.pass.WorkerPassNodePass.take.Goals as goal

pub returns-clause-taken : goal.returns-clause-taken
returns-clause-taken g c =
    let put = c.in_ok-receipt.ensures.receipt in
    put_into g.C.Connection.facts put.0 c.in_ok-receipt.receipt c.note_marks.new.self.taker.pass.number c.args.changes.now put.2 c.is_held.ensures
