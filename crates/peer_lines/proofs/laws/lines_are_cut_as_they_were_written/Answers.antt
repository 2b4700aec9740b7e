use Rattle.peer_lines.proofs.CutLemmas.{line_cut, packet_cut, line_fits}
use Rattle.peer_lines.proofs.laws.lines_are_cut_as_they_were_written.Goals as goal

pub returns-clause-line : goal.returns-clause-line
returns-clause-line c = line_cut

pub returns-clause-packet : goal.returns-clause-packet
returns-clause-packet c = packet_cut

pub returns-clause-within : goal.returns-clause-within
returns-clause-within c = line_fits
