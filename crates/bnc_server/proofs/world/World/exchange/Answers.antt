use Rattle.std.proofs.Common.{◌≡◌, ◌∙◌, Some, [], sym, ap, subst, inr, rules}
use Rattle.std.specs.Prelude.{◌≢◌}
use Rattle.std.proofs.lemmas.Result.{IfErr-weaker}
use Rattle.byte_text.specs.Writes.{WritesKnown}
use Rattle.bnc_server.specs.World.{node_at, after_packet_of, ack_of, taking_ack, ack_text}
use Rattle.bnc_server.specs.HeldNode.{HeldWorld, held_world}
use Rattle.bnc_server.proofs.NodeLemmas.{on_ok}
use Rattle.bnc_server.proofs.PlaceLemmas.{node_there, node_changed}
use Rattle.bnc_server.proofs.world.World.exchange.Goals as goal

pub returns-in-Some-clause-text : goal.returns-in-Some-clause-text
returns-in-Some-clause-text g c w is =
    let inside : HeldWorld = record { directory = c.self.inside.directory; facts = c.self.inside.facts; nodes = c.self.inside.nodes.items; selected = c.self.inside.selected } in
    let one = after_packet_of w c.args.sender c.args.receiver in
    let held : inside ≡ held_world one = c.self.view_is ∙ c.in_ok-send.ensures.world w is in
    let made : ack_of w c.args.sender c.args.receiver ≡ Some c.in-Some.ack = sym (c.in_ok-send.ensures.ack w is) ∙ c.in-Some.is in
    let there = node_there inside one held c.args.sender c.index_mut.result.now c.index_mut.ensures.value (search rules) in
    let spelled = ap ack_text (c.take_ack.ensures.answer (node_at one c.args.sender) there) ∙ sym (ap (λ o. (taking_ack one c.args.sender c.args.receiver o).text) made) in
    subst (WritesKnown (g.W.Write.contents c.args.writer.now) (g.W.Write.contents c.put_answer.new.writer) c.put_answer.result) spelled c.put_answer.ensures.text

pub returns-in-Some-clause-world : goal.returns-in-Some-clause-world
returns-in-Some-clause-world g c =
    let inside : HeldWorld = record { directory = c.self.inside.directory; facts = c.self.inside.facts; nodes = c.self.inside.nodes.items; selected = c.self.inside.selected } in
    on_ok c.put_answer.result _ (λ w is.
    let one = after_packet_of w c.args.sender c.args.receiver in
    let held : inside ≡ held_world one = c.self.view_is ∙ c.in_ok-send.ensures.world w is in
    let made : ack_of w c.args.sender c.args.receiver ≡ Some c.in-Some.ack = sym (c.in_ok-send.ensures.ack w is) ∙ c.in-Some.is in
    let there = node_there inside one held c.args.sender c.index_mut.result.now c.index_mut.ensures.value (search rules) in
    node_changed inside one held c.args.sender c.take_ack.new.self _ (c.take_ack.ensures.node (node_at one c.args.sender) there)
    ∙ sym (ap (λ o. held_world (taking_ack one c.args.sender c.args.receiver o).world) made))

pub returns-in-Some-clause-fault : goal.returns-in-Some-clause-fault
returns-in-Some-clause-fault g c =
    let inside : HeldWorld = record { directory = c.self.inside.directory; facts = c.self.inside.facts; nodes = c.self.inside.nodes.items; selected = c.self.inside.selected } in
    IfErr-weaker c.put_answer.result _ _ (λ fault says w is.
    let one = after_packet_of w c.args.sender c.args.receiver in
    let held : inside ≡ held_world one = c.self.view_is ∙ c.in_ok-send.ensures.world w is in
    let made : ack_of w c.args.sender c.args.receiver ≡ Some c.in-Some.ack = sym (c.in_ok-send.ensures.ack w is) ∙ c.in-Some.is in
    let there = node_there inside one held c.args.sender c.index_mut.result.now c.index_mut.ensures.value (search rules) in
    let spelled = ap ack_text (c.take_ack.ensures.answer (node_at one c.args.sender) there) ∙ sym (ap (λ o. (taking_ack one c.args.sender c.args.receiver o).text) made) in
    inr (says.0, subst (λ text. text ≢ []) spelled says.1)) c.put_answer.ensures.fault
