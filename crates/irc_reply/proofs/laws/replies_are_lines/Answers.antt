use Rattle.irc_reply.proofs.ReplyLemmas.{unknown_line, too_long_line, fail_line, mark_line}
use Rattle.irc_reply.proofs.laws.replies_are_lines.Goals as goal

pub returns : goal.returns
returns c = record {
  unknown = λ limit cluster nick word is. unknown_line limit cluster is nick word;
  too_long = λ limit cluster nick is. too_long_line limit cluster is nick;
  fail = λ limit cluster command code context text is. fail_line limit cluster is command code context text;
  mark = mark_line;
}
