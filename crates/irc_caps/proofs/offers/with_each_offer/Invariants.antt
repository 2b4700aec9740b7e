use Rattle.std.proofs.Common.{◌≡◌, map, drop}
use Rattle.irc_caps.specs.Offers.{with_offers}
use Rattle.irc_caps.proofs.offers.with_each_offer.Given as goal

abbrev pub invariant-loop-offer : goal.invariant-loop-offer
invariant-loop-offer l = with_offers l.offered (map (λ w. w.now) (drop l.offer-index l.offers)) ≡ with_offers l.fn.caps (map (λ w. w.now) l.offers)
