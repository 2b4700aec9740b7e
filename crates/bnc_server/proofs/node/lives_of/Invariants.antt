use Rattle.std.proofs.Common.{◌≡◌, map, take}
use Rattle.bnc_server.specs.HeldNode.{HeldNode}
use Rattle.bnc_server.proofs.node.lives_of.Given as goal

abbrev pub invariant-loop-node : goal.invariant-loop-node
invariant-loop-node l = l.lives.items ≡ map (λ (node : HeldNode). node.life) (take l.node-index l.nodes)
