use Rattle.std.proofs.Common.{◌≡◌, ◌∙◌, rules}
use Rattle.bnc_server.specs.Script.{selected_node}
use Rattle.bnc_server.specs.HeldNode.{HeldWorld, held_world}
use Rattle.bnc_server.proofs.PlaceLemmas.{on_ok_then, selected_there, selected_changed}
use Rattle.bnc_server.proofs.world.World.take.Goals as goal

pub returns-clause-world : goal.returns-clause-world
returns-clause-world c =
    let inside : HeldWorld = record { directory = c.self.inside.directory; facts = c.self.inside.facts; nodes = c.self.inside.nodes.items; selected = c.self.inside.selected } in
    on_ok_then c.take.result _ _ c.take.ensures.node (λ step w is.
    let held : inside ≡ held_world w = c.self.view_is ∙ is in
    let there = selected_there inside w held c.index_mut.result.now c.index_mut.ensures.value (search rules) in
    selected_changed inside w held c.take.new.self _ (step (selected_node w) there))
