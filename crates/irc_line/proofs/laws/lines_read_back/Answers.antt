use Rattle.irc_line.proofs.LinesLemmas.{lines_cut, lines_read}
use Rattle.irc_line.proofs.laws.lines_read_back.Goals as goal

pub returns : goal.returns
returns c = record { cut = lines_cut; read = lines_read }
