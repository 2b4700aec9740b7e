use Rattle.std.proofs.Common.{◌≡◌, ◌∙◌, Some, sym, ap, rules}
use Rattle.bnc_server.specs.World.{node_at, after_packet_of, ack_of, holding_back}
use Rattle.bnc_server.specs.HeldNode.{HeldWorld, held_world}
use Rattle.bnc_server.proofs.PlaceLemmas.{node_there, node_changed}
use Rattle.bnc_server.proofs.world.World.hold_back.Goals as goal

pub returns-in-Some-clause-world : goal.returns-in-Some-clause-world
returns-in-Some-clause-world c w is =
    let inside : HeldWorld = record { directory = c.self.inside.directory; facts = c.self.inside.facts; nodes = c.self.inside.nodes.items; selected = c.self.inside.selected } in
    let one = after_packet_of w c.args.sender c.args.receiver in
    let held : inside ≡ held_world one = c.self.view_is ∙ c.in_ok-ack.ensures.world w is in
    let made : ack_of w c.args.sender c.args.receiver ≡ Some c.in-Some.ack = sym (c.in_ok-ack.ensures.ack w is) ∙ c.in-Some.is in
    let there = node_there inside one held c.args.sender c.index_mut.result.now c.index_mut.ensures.value (search rules) in
    node_changed inside one held c.args.sender c.hold_back.new.self _ (c.hold_back.ensures (node_at one c.args.sender) there)
    ∙ sym (ap (λ o. held_world (holding_back one c.args.sender c.args.receiver o)) made)
