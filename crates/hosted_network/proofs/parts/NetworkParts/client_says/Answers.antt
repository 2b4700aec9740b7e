use Rattle.std.proofs.Common.{sym, ◌∙◌}
use Rattle.hosted_network.proofs.GuestLemmas.{said_or_gone}
use Rattle.hosted_network.proofs.parts.NetworkParts.client_says.Goals as goal

pub returns-clause-leads : goal.returns-clause-leads
returns-clause-leads g c =
    ∣ said_or_gone c.say_all.new.self c.say_all.result c.self.view_is c.requires c.index_mut-client.ensures.value (sym c.is_gone.ensures ∙ c.if-is_gone.false)
    c.say_all.ensures.said c.say_all.ensures.fell ∣₁
