use Rattle.change_lines.proofs.ReadBackLemmas.{read_back}
use Rattle.change_lines.proofs.laws.changes_read_back.Goals as goal

pub returns : goal.returns
returns c = read_back
