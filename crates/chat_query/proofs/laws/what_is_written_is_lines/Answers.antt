use Rattle.chat_query.proofs.LinesLemmas.{history_lines, targets_lines, live_lines}
use Rattle.chat_query.proofs.laws.what_is_written_is_lines.Goals as goal

pub returns : goal.returns
returns c = record {
  history = λ caps cluster reference given records name is. history_lines cluster reference name is caps given records;
  targets = λ limit caps cluster reference buffers name is. targets_lines limit cluster reference name is caps buffers;
  live = λ caps r is. live_lines caps r is;
}
