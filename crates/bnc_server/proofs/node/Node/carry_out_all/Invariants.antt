use Rattle.std.proofs.Common.{◌≡◌, drop}
use Rattle.bnc_server.specs.Node.{Node}
use Rattle.bnc_server.specs.HeldNode.{held_node}
use Rattle.bnc_server.proofs.NodeLemmas.{HasDone}
use Rattle.bnc_server.proofs.node.Node.carry_out_all.Given as goal

abbrev pub invariant-loop-effect : goal.invariant-loop-effect
invariant-loop-effect g l =
    (node : Node) → l.fn.self ≡ held_node node
    → HasDone (g.W.Write.contents l.fn.writer) (g.W.Write.contents l.writer) node l.effects (drop l.effect-index l.effects) l.self
