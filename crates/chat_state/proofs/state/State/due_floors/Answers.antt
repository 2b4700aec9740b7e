use Rattle.chat_state.proofs.StateLemmas.{keyed}
use Rattle.chat_state.proofs.state.State.due_floors.Goals as goal

pub floors_at-requires : goal.floors_at-requires
floors_at-requires c = keyed c.self.inside.store c.self.invariant.normal
