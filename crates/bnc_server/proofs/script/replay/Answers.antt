use Rattle.std.proofs.Common.{arith}
use Rattle.bnc_server.proofs.ProgressLemmas.{not_begun, none_read, read_in_all}
use Rattle.bnc_server.proofs.script.replay.Goals as goal

pub returns-in_default-clause-fault : goal.returns-in_default-clause-fault
returns-in_default-clause-fault g c = not_begun _ _ _

pub returns-in_default-new-clause-fault : goal.returns-in_default-new-clause-fault
returns-in_default-new-clause-fault g c = not_begun _ _ _

pub returns-clause-script : goal.returns-clause-script
returns-clause-script g c = c.replay_from.ensures.script _ c.in-Ok-new.ensures

pub returns-in_default-clause-reads : goal.returns-in_default-clause-reads
returns-in_default-clause-reads g c = read_in_all 0 _ _ (none_read _) (omega arith)

pub returns-in_default-new-clause-reads : goal.returns-in_default-new-clause-reads
returns-in_default-new-clause-reads g c = read_in_all 0 _ _ (none_read _) (omega arith)
