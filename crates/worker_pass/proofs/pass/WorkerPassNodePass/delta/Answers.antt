use Rattle.worker_pass.proofs.PassLemmas.{delta_seen}
use Rattle.worker_pass.proofs.pass.WorkerPassNodePass.delta.Goals as goal

pub returns-clause-seen : goal.returns-clause-seen
returns-clause-seen g c =
    let told = c.delta-delta.ensures in
    delta_seen c.args.self.now.publisher.taker.pass c.delta-delta.new.self c.delta-delta.result told.seen told.no_entry
