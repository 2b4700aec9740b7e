use Rattle.std.proofs.Math.Logic.{∥∥₁_map}
use Rattle.network_client.proofs.NewcomerLemmas.{same_or_falls}
use Rattle.network_client.proofs.newcomer.Newcomer.is_for.Goals as goal

pub invariant_of-self : goal.invariant_of-self
invariant_of-self g c = ∥∥₁_map c.self.invariant (same_or_falls c.is_for.result c.is_for.ensures.same c.is_for.ensures.fell)
