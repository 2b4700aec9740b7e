use Rattle.std.proofs.Common.{◌≡◌, ◌∙◌, ap, Some, Ok}
use Rattle.byte_text.proofs.CallerLemmas.{prefix_same}
use Rattle.client_session.specs.Session.{facts_in}
use Rattle.bnc_server.specs.Node.{answer_to}
use Rattle.bnc_server.specs.HeldNode.{HeldNode, held_node}
use Rattle.bnc_server.proofs.NodeLemmas.{history_is}
use Rattle.bnc_server.proofs.node.Node.answer_line.Goals as goal

pub returns-in-Err-clause-text : goal.returns-in-Err-clause-text
returns-in-Err-clause-text g c node is =
    let inside : HeldNode = record { life = c.self.inside.life; session = c.self.inside.session; state = c.self.inside.state; links = c.self.inside.links.items; late = c.self.inside.late.items } in
    let held : inside ≡ held_node node = c.self.view_is ∙ is in
    let facts : Some c.in-Some.facts.now ≡ facts_in node.session = c.in-Some.ensures ∙ ap (λ (h : HeldNode). facts_in h.session) held in
    prefix_same _ _ _ _ (λ i. (answer_to node (facts i) (Ok c.args.line.now)).text) (c.in-Err.ensures.text node.taken (history_is inside node held))
