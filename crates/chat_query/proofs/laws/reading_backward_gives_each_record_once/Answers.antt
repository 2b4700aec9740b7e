use Rattle.std.proofs.Common.{arith}
use Rattle.chat_query.proofs.WalkLemmas.{latest_all, latest_ends}
use Rattle.chat_query.proofs.laws.reading_backward_gives_each_record_once.Goals as goal

pub returns : goal.returns
returns c = record {
  gives = λ changes scope target limit some most pages w. latest_all changes scope target limit (omega arith) pages w;
  ends = λ changes scope target limit some most. latest_ends changes scope target limit (omega arith);
}
