use Rattle.std.proofs.Math.Logic.{∥∥₁_map}
use Rattle.hosted_network.proofs.GuestLemmas.{filled}
use Rattle.hosted_network.proofs.parts.NetworkParts.client_reads.Goals as goal

pub returns-clause-leads : goal.returns-clause-leads
returns-clause-leads g c = ∥∥₁_map c.fill.ensures (filled c.self.view_is c.requires c.index_mut.ensures.value)
