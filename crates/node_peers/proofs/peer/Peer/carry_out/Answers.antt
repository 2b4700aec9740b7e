use Rattle.std.proofs.Common.{rules, ◌≡◌, None, Some, Ok, ap, subst}
use Rattle.std.proofs.Math.Logic.{∥∥₁_map, ∥∥₁_map₂}
use Rattle.std.specs.Prelude.{IfSome}
use Rattle.node_peers.specs.PeerState.{PeerState, talked}
use Rattle.node_peers.specs.PeerTie.{PeerTie}
use Rattle.node_peers.specs.Talk.{IsCarriedOut, Talk, place_of}
use Rattle.node_peers.proofs.LinkLemmas.{link-kept}
use Rattle.node_peers.proofs.ServedLemmas.{brought-by, carried-so, carries-any}
use Rattle.node_peers.proofs.peer.Peer.carry_out.Goals as goal
use Rattle.node_peers.proofs.peer.Peer.carry_out.Goals.{in-Ok, in-Err}

pub carry_out-requires : goal.carry_out-requires
carry_out-requires g c = λ place arrived is.
    let kept : c.self.inside.loss ≡ None = search rules in
    ∥∥₁_map₂ c.self.invariant.2 (c.self.invariant.3 kept) (brought-by _ _ place arrived c.self.invariant.0 is)

pub invariant_of-self : goal.invariant_of-self
invariant_of-self g c =
    let from : place_of c.self.inside.dialogue.brought ≡ Some c.link.inside.place = search rules in
    elim c.match-carry_out.branch [
      | in-Ok w ↦ rw w.self-inside-is (
        c.self.invariant.0,
        c.self.invariant.1,
        c.self.invariant.2,
        λ e. carries-any c.link.inside.place c.link.inside.link w.in-Ok.carried c.args.turn.now.at c.carry_out.new.self from c.link.invariant
            w.in-Ok.ensures.carried (λ none. w.in-Ok.ensures.none (ap Ok none)) (c.self.invariant.3 e),
      )
      | in-Err w ↦ rw w.self-inside-is (c.self.invariant.0, c.self.invariant.1, c.self.invariant.2, λ e. absurd (cc e))
    ]

pub invariant_of-link : goal.invariant_of-link
invariant_of-link g c = ∥∥₁_map c.link.invariant (link-kept c.carry_out.new.link c.carry_out.ensures.name)

pub returns-clause-carried : goal.returns-clause-carried
returns-clause-carried g c =
    let facts = g.C.Connection.facts in
    let inside = c.self.inside in
    let after = c.carry_out.new.self in
    let here : PeerState = record {
      side = inside.side;
      serial = g.C.Connection.serial inside.connection;
      received = g.C.Connection.received inside.connection;
      unread = inside.input;
      sent = g.C.Connection.sent inside.connection;
      talk = inside.dialogue;
      heard_at = inside.heard_at;
      loss = inside.loss;
    } in
    elim c.match-carry_out.branch [
      | in-Ok w ↦ rw (w.result-is, w.self-inside-is)
          (subst (λ (l : PeerTie). IfSome w.in-Ok.carried (λ k. (t : Talk) × (talked after here ≡ talked t c.args.self.now)
          × IsCarriedOut facts l.link k.message k.outcome c.args.turn.now.at c.args.self.now.talk t)) c.link.view_is
          (subst (λ (p : PeerState). IfSome w.in-Ok.carried (λ k. (t : Talk) × (talked after here ≡ talked t p)
          × IsCarriedOut facts c.link.inside.link k.message k.outcome c.args.turn.now.at p.talk t)) c.self.view_is
          (carried-so facts c.link.inside.link c.args.turn.now.at here w.in-Ok.carried after w.in-Ok.ensures.carried)))
      | in-Err w ↦ rw w.result-is tt
    ]
