use Rattle.std.proofs.Common.{◌≡◌, List, ◌++◌, map, take, drop}
use Rattle.bnc_server.specs.Node.{Node}
use Rattle.bnc_server.specs.Links.{hearing}
use Rattle.bnc_server.specs.HeldNode.{held_node}
use Rattle.bnc_server.proofs.node.all_hear.Given as goal

abbrev pub invariant-loop-node : goal.invariant-loop-node
invariant-loop-node l =
    (list : List Node) → l.fn.nodes ≡ map held_node list
    → l.nodes ≡ map held_node (map (hearing l.place l.life) (take l.node-index list) ++ drop l.node-index list)
