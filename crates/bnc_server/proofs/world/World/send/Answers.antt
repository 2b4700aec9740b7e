use Rattle.std.proofs.Common.{◌≡◌, ◌∙◌, Some, sym, ap, set, length, inr, rules, ◌<◌}
use Rattle.std.proofs.lemmas.Result.{IfErr-weaker}
use Rattle.bnc_server.specs.World.{node_at, after_sending, packet_of, ack_from, delivering}
use Rattle.bnc_server.specs.HeldNode.{HeldWorld, held_world}
use Rattle.bnc_server.proofs.PlaceLemmas.{on_ok_then, if_ok_then, node_there, node_changed, still_within}
use Rattle.bnc_server.proofs.world.World.send.Goals as goal

pub returns-in-Some-clause-ack : goal.returns-in-Some-clause-ack
returns-in-Some-clause-ack c =
    let inside : HeldWorld = record { directory = c.self.inside.directory; facts = c.self.inside.facts; nodes = c.self.inside.nodes.items; selected = c.self.inside.selected } in
    let sent : HeldWorld = record inside { nodes = set inside.nodes c.args.sender c.make_for.new.self } in
    let within : c.args.receiver < length inside.nodes = search rules in
    if_ok_then c.take_from.result _ _ c.take_from.ensures.ack (λ ack says w is.
    let held : inside ≡ held_world w = c.self.view_is ∙ is in
    let there = node_there inside w held c.args.sender c.index_mut.result.now c.index_mut.ensures.value (search rules) in
    let one = after_sending w c.args.sender c.args.receiver in
    let now : sent ≡ held_world one = node_changed inside w held c.args.sender c.make_for.new.self _ (c.in_ok-make_for.ensures.node (node_at w c.args.sender) there) in
    let made : packet_of w c.args.sender c.args.receiver ≡ Some c.in-Some.packet = sym (c.in_ok-make_for.ensures.packet (node_at w c.args.sender) there) ∙ c.in-Some.is in
    let other = node_there sent one now c.args.receiver c.index_mut-in-Some.result.now c.index_mut-in-Some.ensures.value (still_within inside.nodes c.args.sender c.args.receiver _ within) in
    says (node_at one c.args.receiver) other ∙ sym (ap (ack_from one c.args.sender c.args.receiver) made))

pub returns-in-Some-clause-world : goal.returns-in-Some-clause-world
returns-in-Some-clause-world c =
    let inside : HeldWorld = record { directory = c.self.inside.directory; facts = c.self.inside.facts; nodes = c.self.inside.nodes.items; selected = c.self.inside.selected } in
    let sent : HeldWorld = record inside { nodes = set inside.nodes c.args.sender c.make_for.new.self } in
    let within : c.args.receiver < length inside.nodes = search rules in
    on_ok_then c.take_from.result _ _ c.take_from.ensures.node (λ step w is.
    let held : inside ≡ held_world w = c.self.view_is ∙ is in
    let there = node_there inside w held c.args.sender c.index_mut.result.now c.index_mut.ensures.value (search rules) in
    let one = after_sending w c.args.sender c.args.receiver in
    let now : sent ≡ held_world one = node_changed inside w held c.args.sender c.make_for.new.self _ (c.in_ok-make_for.ensures.node (node_at w c.args.sender) there) in
    let made : packet_of w c.args.sender c.args.receiver ≡ Some c.in-Some.packet = sym (c.in_ok-make_for.ensures.packet (node_at w c.args.sender) there) ∙ c.in-Some.is in
    let other = node_there sent one now c.args.receiver c.index_mut-in-Some.result.now c.index_mut-in-Some.ensures.value (still_within inside.nodes c.args.sender c.args.receiver _ within) in
    node_changed sent one now c.args.receiver c.take_from.new.self _ (step (node_at one c.args.receiver) other)
    ∙ sym (ap (λ o. held_world (delivering one c.args.sender c.args.receiver o)) made))

pub returns-in-Some-clause-fault : goal.returns-in-Some-clause-fault
returns-in-Some-clause-fault c =
    let inside : HeldWorld = record { directory = c.self.inside.directory; facts = c.self.inside.facts; nodes = c.self.inside.nodes.items; selected = c.self.inside.selected } in
    let sent : HeldWorld = record inside { nodes = set inside.nodes c.args.sender c.make_for.new.self } in
    let within : c.args.receiver < length inside.nodes = search rules in
    IfErr-weaker c.take_from.result _ _ (λ fault may w is.
    let held : inside ≡ held_world w = c.self.view_is ∙ is in
    let there = node_there inside w held c.args.sender c.index_mut.result.now c.index_mut.ensures.value (search rules) in
    let one = after_sending w c.args.sender c.args.receiver in
    let now : sent ≡ held_world one = node_changed inside w held c.args.sender c.make_for.new.self _ (c.in_ok-make_for.ensures.node (node_at w c.args.sender) there) in
    let made : packet_of w c.args.sender c.args.receiver ≡ Some c.in-Some.packet = sym (c.in_ok-make_for.ensures.packet (node_at w c.args.sender) there) ∙ c.in-Some.is in
    let other = node_there sent one now c.args.receiver c.index_mut-in-Some.result.now c.index_mut-in-Some.ensures.value (still_within inside.nodes c.args.sender c.args.receiver _ within) in
    inr (c.in-Some.packet, made, may (node_at one c.args.receiver) other)) c.take_from.ensures.fault
