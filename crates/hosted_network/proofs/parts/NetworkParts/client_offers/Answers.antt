use Rattle.hosted_network.proofs.GuestLemmas.{offers_or_gone}
use Rattle.hosted_network.proofs.parts.NetworkParts.client_offers.Goals as goal

pub returns-clause-leads : goal.returns-clause-leads
returns-clause-leads g c =
    offers_or_gone c.offer.new.self c.offer.result c.self.view_is c.requires c.index_mut.ensures.value c.offer.ensures.offered c.offer.ensures.whole c.offer.ensures.there
    c.offer.ensures.fell
