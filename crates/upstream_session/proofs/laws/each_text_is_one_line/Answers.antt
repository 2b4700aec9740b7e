use Rattle.upstream_session.proofs.LinesLemmas.{start_from_new, lines_from_new}
use Rattle.upstream_session.proofs.laws.each_text_is_one_line.Goals as goal

pub returns : goal.returns
returns c = record { start = start_from_new; later = lines_from_new }
