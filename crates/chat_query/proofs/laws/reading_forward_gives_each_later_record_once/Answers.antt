use Rattle.std.proofs.Common.{length, arith}
use Rattle.chat_query.proofs.WalkLemmas.{follow_all, follow_ends}
use Rattle.chat_query.proofs.laws.reading_forward_gives_each_later_record_once.Goals as goal

pub returns : goal.returns
returns c = record {
  gives = λ changes scope target limit earlier later r some most e pages w. follow_all changes scope target limit (omega arith) earlier later r e pages w;
  ends = λ changes scope target limit earlier later r some most e. follow_ends changes scope target limit (omega arith) (length later) earlier later r (omega arith) e;
}
