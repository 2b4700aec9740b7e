use Rattle.chat_history.proofs.StandingLemmas.{account_floor_bound, account_floor_set, floor_around_bound, floor_bound, floor_set}
use Rattle.chat_history.proofs.laws.lookups.floor_is_the_greatest.Goals as goal

pub returns : goal.returns
returns c = record { account_bound = account_floor_bound; account_set = account_floor_set; around = floor_around_bound; bound = floor_bound; set = floor_set }
