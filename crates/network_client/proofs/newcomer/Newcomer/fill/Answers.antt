use Rattle.std.proofs.Math.Logic.{∥∥₁_map₂}
use Rattle.network_client.proofs.NewcomerLemmas.{fills}
use Rattle.network_client.proofs.newcomer.Newcomer.fill.Goals as goal

pub invariant_of-self : goal.invariant_of-self
invariant_of-self g c = ∥∥₁_map₂ c.fill.ensures c.self.invariant fills
