use Rattle.std.proofs.Common.{◌≡◌, ◌∙◌, rules}
use Rattle.bnc_server.specs.World.{node_at}
use Rattle.bnc_server.specs.HeldNode.{HeldWorld, held_world}
use Rattle.bnc_server.proofs.PlaceLemmas.{node_there, node_changed}
use Rattle.bnc_server.proofs.world.World.lose.Goals as goal

pub returns-clause-world : goal.returns-clause-world
returns-clause-world c w is =
    let inside : HeldWorld = record { directory = c.self.inside.directory; facts = c.self.inside.facts; nodes = c.self.inside.nodes.items; selected = c.self.inside.selected } in
    let held : inside ≡ held_world w = c.self.view_is ∙ is in
    let there = node_there inside w held c.args.sender c.index_mut.result.now c.index_mut.ensures.value (search rules) in
    node_changed inside w held c.args.sender c.make_for.new.self _ (c.in_ok-make_for.ensures.node (node_at w c.args.sender) there)
