use Rattle.std.proofs.Common.{◌≡◌, map, take}
use Rattle.client_session.specs.declared.stage.Stage.TheVariants.{Registered}
use Rattle.bnc_server.specs.Links.{new_node}
use Rattle.bnc_server.specs.Script.{none_late}
use Rattle.bnc_server.specs.HeldNode.{held_node}
use Rattle.bnc_server.proofs.world.first_nodes.Given as goal

abbrev pub invariant-loop-life : goal.invariant-loop-life
invariant-loop-life l =
    l.nodes.items ≡ map held_node (map (λ life. new_node (Registered l.facts) life l.lives none_late) (take l.life-index l.lives))
