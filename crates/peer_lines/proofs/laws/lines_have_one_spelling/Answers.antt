use Rattle.peer_lines.proofs.LineLemmas.{one_line}
use Rattle.peer_lines.proofs.laws.lines_have_one_spelling.Goals as goal

pub returns : goal.returns
returns c = one_line
