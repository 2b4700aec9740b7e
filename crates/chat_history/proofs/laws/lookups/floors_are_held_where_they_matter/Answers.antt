use Rattle.chat_history.proofs.NormReadLemmas.{account_held, account_not_held, buffer_held, buffer_not_held}
use Rattle.chat_history.proofs.laws.lookups.floors_are_held_where_they_matter.Goals as goal

pub returns : goal.returns
returns c = record { account = account_held; buffer = buffer_held; none_of_account = account_not_held; none_of_buffer = buffer_not_held }
