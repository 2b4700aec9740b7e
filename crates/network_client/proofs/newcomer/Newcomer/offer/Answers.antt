use Rattle.network_client.proofs.NewcomerLemmas.{offers_or_falls}
use Rattle.network_client.proofs.newcomer.Newcomer.offer.Goals as goal

pub invariant_of-self : goal.invariant_of-self
invariant_of-self g c =
    offers_or_falls c.offer.result c.offer.ensures.offered c.offer.ensures.whole c.offer.ensures.there c.offer.ensures.fell c.self.invariant
