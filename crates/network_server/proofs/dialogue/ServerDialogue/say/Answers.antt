use Rattle.std.proofs.Common.{[], ◌∷◌, sym, ap, ◌∙◌}
use Rattle.upstream_session.specs.declared.connection.ServerSession.{ServerSession}
use Rattle.upstream_session.specs.Events.{ServerEvent, Saying}
use Rattle.upstream_session.specs.Refusal.{Session}
use Rattle.upstream_session.specs.Session.{say}
use Rattle.network_server.specs.Effects.{closes}
use Rattle.network_server.proofs.EventLemmas.{over-by}
use Rattle.network_server.proofs.dialogue.ServerDialogue.say.Goals as goal

pub returns-in_default-carry_out-clause-over : goal.returns-in_default-carry_out-clause-over
returns-in_default-carry_out-clause-over c = λ closed.
    let u : ServerSession = c.args.self.now.session.connection in
    let event : ServerEvent = Saying c.args.now c.args.text.now in
    let law = c.nothing_follows_close.ensures in
    let over = over-by u (say u c.args.now c.args.text.now) c.args.self.now.is_over c.say.new.self.connection c.in-Ok-say.effects.items c.has_close.result
    c.in-Ok-say.ensures.step (c.has_close.ensures ∙ ap closes c.deref.ensures.value) (law.closed u event) (law.only u event) (law.stays u (event ∷ [])) closed in
    ap (λ (s : Session). s.connection.is_closed) c.carry_out.ensures.session ∙ over ∙ sym c.carry_out.ensures.over

pub returns-clause-over : goal.returns-clause-over
returns-clause-over c = λ closed.
    let u : ServerSession = c.args.self.now.session.connection in
    let event : ServerEvent = Saying c.args.now c.args.text.now in
    let law = c.nothing_follows_close.ensures in
    let over = over-by u (say u c.args.now c.args.text.now) c.args.self.now.is_over c.say.new.self.connection c.in-Ok-say.effects.items c.has_close.result
    c.in-Ok-say.ensures.step (c.has_close.ensures ∙ ap closes c.deref.ensures.value) (law.closed u event) (law.only u event) (law.stays u (event ∷ [])) closed in
    ap (λ (s : Session). s.connection.is_closed) c.carry_out.ensures.session ∙ over ∙ sym c.carry_out.ensures.over
