use Rattle.chat_change.proofs.FaultsLemmas.{bad_name-told, bad_buffer_target-told, bad_id-told}
use Rattle.chat_change.proofs.laws.makers_of_keys_tell_the_first_fault.Goals as goal

pub returns : goal.returns
returns c = record { bad_name = bad_name-told; bad_target = bad_buffer_target-told; bad_id = bad_id-told }
