use Rattle.peer_lines.proofs.ChangeLemmas.{spells_change}
use Rattle.peer_lines.proofs.peer_line.read_change_line.Goals as goal

pub returns-in-Err-NoMemory : goal.returns-in-Err-NoMemory
returns-in-Err-NoMemory c = spells_change c.args.bytes.now (let f = c.in-Err-NoMemory.ensures.refused in (cc))
