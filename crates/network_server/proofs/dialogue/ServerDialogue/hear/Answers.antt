use Rattle.std.proofs.Common.{◌≡◌, [], ◌∷◌, ◌++◌, sym, ap, ◌∙◌, subst}
use Rattle.upstream_session.specs.declared.connection.ServerSession.{ServerSession}
use Rattle.upstream_session.specs.Events.{ServerEvent, Line}
use Rattle.upstream_session.specs.Refusal.{Session}
use Rattle.upstream_session.specs.Session.{step, joined, JoinsNone}
use Rattle.upstream_session.specs.Step.{ServerStep}
use Rattle.network_log.specs.Host.{entering, entries_by, has_entered}
use Rattle.network_server.specs.Effects.{closes}
use Rattle.network_server.specs.Standing.{IsNoted}
use Rattle.network_server.proofs.EventLemmas.{entered-same, over-by}
use Rattle.network_server.proofs.dialogue.ServerDialogue.hear.Goals as goal

pub returns-clause-batch : goal.returns-clause-batch
returns-clause-batch c =
    let u : ServerSession = c.args.self.now.session.connection in
    let bytes = c.args.line.now in
    let after : ServerSession = c.step.new.self.connection in
    let same : after ≡ (step u c.args.now bytes).session = ap (λ (s : ServerStep). s.session) c.in-Ok-step.ensures.step in
    let law = c.what_is_joined_is_told.ensures in
    let noted : IsNoted c.note.new.self u.entry = subst (IsNoted c.note.new.self) c.entry.ensures c.in-Ok.ensures in
    let is : entering (has_entered u.entry after.entry) (joined after bytes) ≡ entering (has_entered u.entry after.entry) (joined u bytes) =
    entered-same u after bytes
    (λ ch e. ap (λ (v : ServerSession). joined v bytes) same ∙ law.later u c.args.now bytes ch e)
    (λ none. subst (λ (v : ServerSession). JoinsNone u.entry.channels v.entry.channels) (sym same) (law.others u c.args.now bytes none)) in
    c.in-Ok-carry_out.ensures.batch u (joined u bytes) noted (c.in-Ok-entered.ensures u noted ∙ is)
    ∙ ap (λ (s : ServerStep). c.args.batch.now ++ entries_by u s (joined u bytes)) c.in-Ok-step.ensures.step

pub returns-in_default-entered-clause-over : goal.returns-in_default-entered-clause-over
returns-in_default-entered-clause-over c = λ closed.
    let u : ServerSession = c.args.self.now.session.connection in
    let event : ServerEvent = Line c.args.now c.args.line.now in
    let law = c.nothing_follows_close.ensures in
    over-by u (step u c.args.now c.args.line.now) c.args.self.now.is_over c.step.new.self.connection c.in-Ok-step.effects.items c.has_close.result
    c.in-Ok-step.ensures.step (c.has_close.ensures ∙ ap closes c.deref.ensures.value) (law.closed u event) (law.only u event) (law.stays u (event ∷ [])) closed

pub returns-in_default-carry_out-clause-over : goal.returns-in_default-carry_out-clause-over
returns-in_default-carry_out-clause-over c = λ closed.
    let u : ServerSession = c.args.self.now.session.connection in
    let event : ServerEvent = Line c.args.now c.args.line.now in
    let law = c.nothing_follows_close.ensures in
    let over = over-by u (step u c.args.now c.args.line.now) c.args.self.now.is_over c.step.new.self.connection c.in-Ok-step.effects.items c.has_close.result
    c.in-Ok-step.ensures.step (c.has_close.ensures ∙ ap closes c.deref.ensures.value) (law.closed u event) (law.only u event) (law.stays u (event ∷ [])) closed in
    ap (λ (s : Session). s.connection.is_closed) c.carry_out.ensures.session ∙ over ∙ sym c.carry_out.ensures.over

pub returns-clause-over : goal.returns-clause-over
returns-clause-over c = λ closed.
    let u : ServerSession = c.args.self.now.session.connection in
    let event : ServerEvent = Line c.args.now c.args.line.now in
    let law = c.nothing_follows_close.ensures in
    let over = over-by u (step u c.args.now c.args.line.now) c.args.self.now.is_over c.step.new.self.connection c.in-Ok-step.effects.items c.has_close.result
    c.in-Ok-step.ensures.step (c.has_close.ensures ∙ ap closes c.deref.ensures.value) (law.closed u event) (law.only u event) (law.stays u (event ∷ [])) closed in
    ap (λ (s : Session). s.connection.is_closed) c.carry_out.ensures.session ∙ over ∙ sym c.carry_out.ensures.over
