use Rattle.peer_lines.proofs.GatherLemmas.{packet_answers, packet_empties, packet_lines, refusal_empties}
use Rattle.peer_lines.proofs.laws.packets_arrive.Goals as goal

pub returns-clause-lines : goal.returns-clause-lines
returns-clause-lines c = packet_lines

pub returns-clause-arrives : goal.returns-clause-arrives
returns-clause-arrives c = λ p is. packet_answers p is.head.some

pub returns-clause-whole : goal.returns-clause-whole
returns-clause-whole c = λ p is. packet_empties p is.head.some

pub returns-clause-refused : goal.returns-clause-refused
returns-clause-refused c = refusal_empties
