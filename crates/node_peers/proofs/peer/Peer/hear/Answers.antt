use Rattle.std.proofs.Common.{rules, ◌≡◌}
use Rattle.std.proofs.Math.Logic.{∥∥₁_map}
use Rattle.gossip_link.specs.declared.heard.Heard.TheVariants.{Nothing}
use Rattle.node_peers.specs.Served.{IsHeardSo}
use Rattle.node_peers.proofs.ServedLemmas.{hears-so}
use Rattle.node_peers.proofs.peer.Peer.hear.Goals as goal

pub invariant_of-self : goal.invariant_of-self
invariant_of-self g c =
    let idle : c.self.inside.dialogue.brought ≡ Nothing = search rules in
    let k : IsHeardSo c.args.turn.now.terms.now c.args.turn.now.at c.self.inside.input c.hear_next.new.input c.self.inside.dialogue c.hear_next.new.dialogue = search rules in (
      c.self.invariant.0,
      c.self.invariant.1,
      c.self.invariant.2,
      λ e. ∥∥₁_map (c.self.invariant.3 e) (hears-so c.args.turn.now.terms.now c.args.turn.now.at c.args.turn.now.are_own idle k),
    )
