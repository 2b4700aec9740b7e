use Rattle.chat_history.proofs.NormLemmas.{mark-norm, floor-norm, account_floor-norm}
use Rattle.chat_history.proofs.NormReadLemmas.{gone-norm, position-norm, position_in-norm, kept-norm}
use Rattle.chat_history.proofs.laws.lookups.normal_form_reads_alike.Goals as goal

pub returns : goal.returns
returns c = record { mark = mark-norm; floor = floor-norm; account_floor = account_floor-norm; gone = gone-norm; position = position-norm; position_in = position_in-norm; kept = kept-norm }
