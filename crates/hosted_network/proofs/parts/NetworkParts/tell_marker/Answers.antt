use Rattle.std.proofs.Math.Logic.{∥∥₁_map}
use Rattle.hosted_network.proofs.InformingLemmas.{may_rise, not_noted, risen}
use Rattle.hosted_network.proofs.parts.NetworkParts.tell_marker.Goals as goal

pub tell_all-requires-clause-may : goal.tell_all-requires-clause-may
tell_all-requires-clause-may g c = may_rise c.args.target c.self.view_is c.requires.risen c.requires.buffer c.requires.reached

pub returns : goal.returns
returns g c =
    ∥∥₁_map c.tell_all.ensures.told (risen c.args.target c.self.view_is c.requires.risen c.requires.buffer c.in-Ok.ensures.noted c.tell_all.ensures.rest)

pub returns-in_default : goal.returns-in_default
returns-in_default g c = ∣ not_noted c.self.view_is c.in_default.ensures.err ∣₁
