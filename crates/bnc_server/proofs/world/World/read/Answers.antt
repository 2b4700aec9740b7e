use Rattle.change_lines.specs.ChangeLine.{read_change}
use Rattle.change_lines.proofs.CallerLemmas.{own_fault}
use Rattle.bnc_server.proofs.RequestLemmas.{fault_of_line}
use Rattle.bnc_server.proofs.world.World.read.Goals as goal

pub returns-in-Err-clause-refused : goal.returns-in-Err-clause-refused
returns-in-Err-clause-refused c = fault_of_line (read_change c.args.text.now) c.in-Err.fault (own_fault c.args.text.now) c.in-Err.ensures.refused
