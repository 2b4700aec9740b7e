use Rattle.std.proofs.Math.Logic.{∥∥₁_map}
use Rattle.network_client.proofs.NewcomerLemmas.{same_or_falls}
use Rattle.network_client.proofs.newcomer.Newcomer.network_named.Goals as goal

pub invariant_of-self : goal.invariant_of-self
invariant_of-self g c = ∥∥₁_map c.self.invariant (same_or_falls c.network_named.result c.network_named.ensures.same c.network_named.ensures.fell)
