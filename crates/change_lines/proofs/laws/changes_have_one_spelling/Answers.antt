use Rattle.change_lines.proofs.SpellingLemmas.{one_spelling}
use Rattle.change_lines.proofs.laws.changes_have_one_spelling.Goals as goal

pub returns : goal.returns
returns c = record { spelling = λ line change h. (one_spelling line change h).0; lawful = λ line change h. (one_spelling line change h).1 }
