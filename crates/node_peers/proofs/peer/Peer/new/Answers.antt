use Rattle.std.proofs.Common.{refl}
use Rattle.node_peers.proofs.ServedLemmas.{came-still, opens}
use Rattle.node_peers.proofs.peer.Peer.new.Goals as goal

pub invariant_of-result : goal.invariant_of-result
invariant_of-result g c = (
  c.requires.origin,
  c.requires.peer,
  came-still g.C.Connection.facts _ _ _ _ _ _ refl refl c.args.fresh.none_received c.args.fresh.it_came,
  λ _. ∣ opens g.C.Connection.facts c.args.side c.args.turn.now.at c.args.turn.now.terms.now _ _ _ _
      c.args.fresh.none_received c.args.fresh.none_sent c.new-2.ensures c.args.turn.now.are_own c.in_ok-dialogue.ensures ∣₁,
)
