use Rattle.std.proofs.Common.{◌≡◌, ◌∙◌, ap, rules}
use Rattle.bnc_server.specs.Script.{selected_node}
use Rattle.bnc_server.specs.HeldNode.{HeldWorld, held_world, held_node}
use Rattle.bnc_server.specs.Node.{reply_to_line}
use Rattle.bnc_server.proofs.PlaceLemmas.{on_ok_then, selected_there, selected_changed}
use Rattle.bnc_server.proofs.world.World.serve_client.Goals as goal

pub returns-clause-world : goal.returns-clause-world
returns-clause-world g c =
    let inside : HeldWorld = record { directory = c.self.inside.directory; facts = c.self.inside.facts; nodes = c.self.inside.nodes.items; selected = c.self.inside.selected } in
    on_ok_then c.serve_line.result _ _ c.serve_line.ensures.node (λ step w is.
    let held : inside ≡ held_world w = c.self.view_is ∙ is in
    let there = selected_there inside w held c.index_mut.result.now c.index_mut.ensures.value (search rules) in
    selected_changed inside w held c.serve_line.new.self _
    (step (selected_node w) there ∙ ap (λ (h : HeldWorld). held_node (reply_to_line h.directory (selected_node w) c.args.text.now).node) held))
