use Rattle.std.proofs.Math.Logic.{∥∥₁_map}
use Rattle.node_peers.proofs.LinkLemmas.{link-kept}
use Rattle.node_peers.proofs.ServedLemmas.{makes}
use Rattle.node_peers.proofs.peer.Peer.advance.Goals as goal
use Rattle.node_peers.proofs.peer.Peer.advance.Goals.{in-Err, in_default}

pub invariant_of-self : goal.invariant_of-self
invariant_of-self g c =
    elim c.match-advance.branch [
      | in-Err w ↦ rw w.self-inside-is (c.self.invariant.0, c.self.invariant.1, c.self.invariant.2, λ e. absurd (cc e))
      | in_default w ↦ rw w.self-inside-is (
        c.self.invariant.0,
        c.self.invariant.1,
        c.self.invariant.2,
        λ e. ∥∥₁_map (c.self.invariant.3 e) (makes c.args.turn.now.at c.advance.new.self w.in_default.ensures.made),
      )
    ]

pub invariant_of-link : goal.invariant_of-link
invariant_of-link g c = ∥∥₁_map c.link.invariant (link-kept c.advance.new.link c.advance.ensures.name)
