use Rattle.std.proofs.Common.{◌<◌, length, ap, arith}
use Rattle.std.proofs.lemmas.List.{length-map, get_or_default}
use Rattle.bnc_server.specs.Links.{hearing}
use Rattle.bnc_server.specs.HeldNode.{held_node}
use Rattle.bnc_server.proofs.PlaceLemmas.{nodes_more}
use Rattle.bnc_server.proofs.node.all_hear.Goals as goal

pub loop-node-preserved : goal.loop-node-preserved
loop-node-preserved c list is =
    let within : c.loop-node.node-index < length c.loop-node.nodes = omega arith in
    let less : c.loop-node.node-index < length list = omega (arith, within, c.loop-node.auto.nodes, ap length is, length-map list held_node) in
    nodes_more (hearing c.args.place c.args.life.now) list c.loop-node.nodes c.loop-node.node-index _ c.hear.new.self
    (c.loop-node.invariant list is) less within (get_or_default c.loop-node.nodes c.loop-node.node-index c.node-item.result _ within) c.hear.ensures
