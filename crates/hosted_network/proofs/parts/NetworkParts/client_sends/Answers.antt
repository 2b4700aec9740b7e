use Rattle.std.proofs.Math.Logic.{∥∥₁_map}
use Rattle.hosted_network.proofs.GuestLemmas.{only_fell, same, to_client, unchanged}
use Rattle.hosted_network.proofs.parts.NetworkParts.client_sends.Goals as goal

pub pump-requires : goal.pump-requires
pump-requires g c = ∥∥₁_map c.requires.reached (to_client c.self.view_is c.requires.place c.index_mut.ensures.value)

pub returns-in_default-clause-leads : goal.returns-in_default-clause-leads
returns-in_default-clause-leads g c = ∣ same c.self.view_is c.requires.place c.index_mut.ensures.value c.pump.ensures ∣₁

pub returns-then-eq-clause-alone : goal.returns-then-eq-clause-alone
returns-then-eq-clause-alone g c =
    only_fell (unchanged c.self.view_is c.requires.place c.index_mut.ensures.value c.pump.ensures) c.requires.place c.client_falls.ensures.falls

pub returns-else-eq-clause-leads : goal.returns-else-eq-clause-leads
returns-else-eq-clause-leads g c = ∣ same c.self.view_is c.requires.place c.index_mut.ensures.value c.pump.ensures ∣₁
