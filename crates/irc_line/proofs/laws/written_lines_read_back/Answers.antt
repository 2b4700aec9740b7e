use Rattle.irc_line.proofs.TextLemmas.{cut, reads, reads_back, some_parts}
use Rattle.irc_line.proofs.laws.written_lines_read_back.Goals as goal

pub returns : goal.returns
returns c = record { cut = λ limit parts can rest. cut limit parts rest can; reads = reads; read = reads_back; some = some_parts }
