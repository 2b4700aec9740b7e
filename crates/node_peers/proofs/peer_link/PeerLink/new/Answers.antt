use Rattle.std.proofs.Common.{rules, ◌≡◌, Some}
use Rattle.cluster_directory.specs.Terms.{index_of}
use Rattle.node_peers.proofs.LinkLemmas.{link-made}
use Rattle.node_peers.proofs.peer_link.PeerLink.new.Goals as goal

pub invariant_of-result : goal.invariant_of-result
invariant_of-result g c =
    let found : index_of c.args.terms.now c.args.name.now ≡ Some c.args.place = search rules in
    ∣ link-made g.C.Connection.facts c.args.terms.now c.args.name.now c.args.place c.in-Ok.link c.requires found c.in-Ok.ensures ∣₁
