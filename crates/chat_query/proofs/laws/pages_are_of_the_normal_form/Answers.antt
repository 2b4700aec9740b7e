use Rattle.std.proofs.Common.{ap}
use Rattle.chat_history.proofs.CallerLemmas.{norm-changes_of}
use Rattle.chat_query.specs.Page.{page_in}
use Rattle.chat_query.proofs.laws.pages_are_of_the_normal_form.Goals as goal

pub returns : goal.returns
returns c = record {
  same = λ a b scope query e. ap (λ h. page_in h scope query) e;
  normal = λ a scope query. ap (λ h. page_in h scope query) (norm-changes_of a);
}
