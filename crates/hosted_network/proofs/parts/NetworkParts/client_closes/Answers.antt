use Rattle.std.proofs.Common.{sym, ◌∙◌}
use Rattle.hosted_network.proofs.GuestLemmas.{closed}
use Rattle.hosted_network.proofs.parts.NetworkParts.client_closes.Goals as goal

pub returns-clause-leads : goal.returns-clause-leads
returns-clause-leads g c =
    ∣ closed c.self.view_is c.requires c.index_mut-client.ensures.value (sym c.is_gone.ensures ∙ c.if-is_gone.false) c.close.ensures.closes ∣₁
