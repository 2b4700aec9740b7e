use Rattle.chat_query.proofs.PostedLemmas.{page_posted}
use Rattle.chat_query.proofs.laws.pages_are_of_posts.Goals as goal

pub returns : goal.returns
returns c = page_posted
