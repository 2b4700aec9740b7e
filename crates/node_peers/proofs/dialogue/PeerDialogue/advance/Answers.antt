use Rattle.std.proofs.Common.{ap, ◌∙◌, subst}
use Rattle.std.specs.Prelude.{OnOk}
use Rattle.node_peers.specs.Talk.{IsAdvanced, Talk}
use Rattle.node_peers.proofs.TalkLemmas.{advanced}
use Rattle.node_peers.proofs.dialogue.PeerDialogue.advance.Goals as goal

pub returns-in-Ok-clause-made : goal.returns-in-Ok-clause-made
returns-in-Ok-clause-made g c =
    let facts = g.N.Connection.Connection.facts in
    let inside = c.self.inside in
    let t : Talk = record { session = inside.session; brought = inside.brought; noted = inside.noted; owed = inside.output; said_at = inside.said_at } in
    let after : Talk = record { session = c.send_next.new.self; brought = inside.brought; noted = inside.noted; owed = c.owe.new.output; said_at = c.owe.new.said_at } in
    subst (λ (k : Talk). OnOk c.owe.result (IsAdvanced facts c.args.turn.now.at k after)) c.self.view_is
    (advanced facts (g.N.NodePass.seen c.args.pass.now) _ c.owe.result c.args.turn.now.at c.args.place t c.args.link.now
    c.send_next.new.self c.clear.new.self.items c.send_next.new.out.items c.deref.result.now c.owe.new.output c.owe.new.said_at
    (ap (λ (k : Talk). k.noted) c.self.view_is ∙ c.requires.noted) c.requires.link c.clear.ensures.items
    (λ e. let k = c.in-Ok.ensures.idle e in (k.1, k.4))
    (λ e. let k = c.in-Ok.ensures.sent e in (k.0, k.2, k.4, k.6))
    c.deref.ensures.value c.owe.ensures.output c.owe.ensures.at)
