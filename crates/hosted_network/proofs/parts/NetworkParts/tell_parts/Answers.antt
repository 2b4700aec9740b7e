use Rattle.std.proofs.Math.Logic.{∥∥₁_map₂}
use Rattle.hosted_network.proofs.PuttingLemmas.{told_seen}
use Rattle.hosted_network.proofs.parts.NetworkParts.tell_parts.Goals as goal

pub returns-clause-told : goal.returns-clause-told
returns-clause-told g c =
    ∥∥₁_map₂ c.read_mark-mark.ensures.seen c.tell_all.ensures.told (told_seen c.read_mark-mark.ensures.rest c.tell_all.ensures.rest)
