use Rattle.std.proofs.Math.Logic.{∥∥₁_map}
use Rattle.network_client.proofs.NewcomerLemmas.{alike, is_told}
use Rattle.network_client.proofs.newcomer.Newcomer.pump.Goals as goal

pub pump-requires : goal.pump-requires
pump-requires g c = ∥∥₁_map c.self.invariant is_told

pub invariant_of-self : goal.invariant_of-self
invariant_of-self g c = ∥∥₁_map c.self.invariant (alike c.pump.ensures)
