use Rattle.std.proofs.Common.{arith}
use Rattle.chat_query.proofs.ListingLemmas.{between, is_listing, first_page, last_page, no_page}
use Rattle.chat_query.proofs.laws.targets_lists_buffers_by_their_latest.Goals as goal

pub returns : goal.returns
returns c = record {
  list = λ changes scope t u. (between changes scope t u, is_listing changes scope t u);
  rising = λ changes scope t u limit found rises is. first_page changes scope t u limit found rises is;
  falling = λ changes scope t u limit found falls is. last_page changes scope t u limit found (omega arith) is;
  equal = no_page;
}
