use Rattle.std.proofs.Common.{rules, ◌≡◌, ℕ, List, ◌++◌, None, sym, ◌∙◌, subst}
use Rattle.std.proofs.Math.Logic.{∥∥₁_map, ∥∥₁_map₂}
use Rattle.network_log.specs.Telling.{MayBeTold}
use Rattle.node_peers.proofs.ServedLemmas.{came-still, may, sends-some}
use Rattle.node_peers.proofs.peer.Peer.send.Goals as goal

pub send-requires : goal.send-requires
send-requires g c =
    let C = g.C.Connection in
    let connection = c.self.inside.connection in
    let kept : c.self.inside.loss ≡ None = search rules in
    subst (λ (l : List ℕ). ∥ MayBeTold C.facts (C.origin connection) (C.serial connection) (C.received connection) (C.sent connection ++ l) ∥₁) (sym c.owed.ensures)
    (∥∥₁_map₂ c.self.invariant.1 (c.self.invariant.3 kept) (may (C.origin connection) (C.serial connection) c.self.invariant.0))

pub invariant_of-self : goal.invariant_of-self
invariant_of-self g c = (
  c.send.ensures.origin ∙ c.self.invariant.0,
  c.self.invariant.1,
  came-still g.C.Connection.facts _ _ _ _ _ _ c.send.ensures.origin c.send.ensures.serial c.send.ensures.received c.self.invariant.2,
  λ e. ∥∥₁_map (c.self.invariant.3 e) (sends-some _ _ c.owed.result.now c.in-Ok.count c.take_sent.new.self c.send.ensures.received c.owed.ensures c.in-Ok.ensures.sent c.take_sent.ensures),
)
