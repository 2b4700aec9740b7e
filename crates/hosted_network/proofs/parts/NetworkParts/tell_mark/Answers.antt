use Rattle.std.proofs.Common.{refl}
use Rattle.std.proofs.Math.Logic.{∥∥₁_map, ∥∥₁_map₂}
use Rattle.hosted_network.proofs.PutMarkLemmas.{nobody, others_told}
use Rattle.hosted_network.proofs.parts.NetworkParts.tell_mark.Goals as goal

pub returns-in_default-clause-told : goal.returns-in_default-clause-told
returns-in_default-clause-told g c =
    ∥∥₁_map c.marker.ensures.seen
    (nobody _ c.args.place c.args.buffer c.args.target c.self.view_is c.marker.ensures.place c.marker.ensures.puts refl)

pub returns-in_default-note_if-clause-told : goal.returns-in_default-note_if-clause-told
returns-in_default-note_if-clause-told g c =
    ∥∥₁_map c.marker.ensures.seen
    (nobody _ c.args.place c.args.buffer c.args.target c.self.view_is c.marker.ensures.place c.marker.ensures.puts c.in_default-note_if.ensures.err)

pub returns-clause-told : goal.returns-clause-told
returns-clause-told g c =
    ∥∥₁_map₂ c.marker.ensures.seen c.tell_others.ensures.told
    (others_told _ c.args.place c.args.target c.self.view_is c.marker.ensures.place c.marker.ensures.puts
    c.in-Ok.ensures.marker c.in-Ok-note_if.ensures.noted c.tell_others.ensures.rest)
