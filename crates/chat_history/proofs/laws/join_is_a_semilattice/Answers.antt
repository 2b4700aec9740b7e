use Rattle.chat_history.proofs.SetLemmas.{norm_swap, join_assoc, norm_twice}
use Rattle.chat_history.proofs.laws.join_is_a_semilattice.Goals as goal

pub returns : goal.returns
returns c = record { commutative = norm_swap; associative = join_assoc; idempotent = norm_twice }
