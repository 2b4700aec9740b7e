use Rattle.std.proofs.Common.{◌≡◌, ◌+◌, refl, ap, ◌∙◌, rules}
use Rattle.std.proofs.Math.Logic.{∥∥₁_map₂}
use Rattle.network_log.specs.NetworkState.{NetworkState}
use Rattle.hosted_network.specs.Parts.{serial_of}
use Rattle.hosted_network.proofs.ServerLemmas.{begins, comes}
use Rattle.hosted_network.proofs.parts.NetworkParts.server_begins.Goals as goal

pub returns-clause-leads : goal.returns-clause-leads
returns-clause-leads g c =
    let one_more : c.in-Some.joins ≡ c.self.inside.joins + 1 = search rules in
    let from_there : c.serial-first.result ≡ serial_of c.self.inside.ended = search rules in
    ∥∥₁_map₂ c.in-Ok.ensures.came c.in-Ok.ensures.joined
    (comes
    (begins g.C.Connection.facts (g.C.Connection.serial c.args.fresh.connection) c.self.view_is c.place.ensures one_more from_there refl c.in-Ok.ensures.host)
    c.requires.none
    (c.place.ensures ∙ ap (λ (v : NetworkState). v.place) c.self.view_is)
    (ap (λ (v : NetworkState). v.joins) c.self.view_is))
