use Rattle.std.proofs.Math.Logic.{∥∥₁_map}
use Rattle.network_client.proofs.NewcomerLemmas.{falls}
use Rattle.network_client.proofs.newcomer.Newcomer.fall.Goals as goal

pub invariant_of-self : goal.invariant_of-self
invariant_of-self g c = ∥∥₁_map c.self.invariant (falls c.fall.ensures)
