use Rattle.std.proofs.Common.{ap}
use Rattle.network_log.specs.NetworkState.{NetworkState}
use Rattle.hosted_network.proofs.ArrivingLemmas.{arrives_at, by_node}
use Rattle.hosted_network.proofs.parts.NetworkParts.newcomer_enters.Goals as goal

pub enter-requires-clause-directory : goal.enter-requires-clause-directory
enter-requires-clause-directory g c =
    by_node g.C.Connection.facts c.args.self.now c.args.accounts.now c.in-Ok.directory c.args.newcomer
    c.a_network_is_as_configured.ensures.is c.requires.reached c.requires.accounts c.in-Ok.ensures c.requires.named

pub client_comes-requires-clause-arrived : goal.client_comes-requires-clause-arrived
client_comes-requires-clause-arrived g c =
    let arrived = rw c.in-Ok-Ok.field-0-is at c.in-Ok-Ok.ensures.arrived in
    arrives_at g.C.Connection.facts c.args.self.now c.self.inside.config.now c.args.accounts.now c.in-Ok.directory c.args.newcomer c.in-Ok-Ok.client
    (ap (λ (w : NetworkState). w.config) c.self.view_is) c.requires.accounts c.in-Ok.ensures c.requires.named arrived
