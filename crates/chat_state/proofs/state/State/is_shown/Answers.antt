use Rattle.std.proofs.Common.{Some, ◌∙◌, ap, subst}
use Rattle.std.specs.Prelude.{◌↔◌, IsTrue, Bool}
use Rattle.std.specs.Option.{option_map}
use Rattle.chat_change.specs.Key.{MessageOf}
use Rattle.chat_buffers.specs.MessageRef.{message_change}
use Rattle.chat_history.specs.Lookups.{is_posted, IsShown}
use Rattle.chat_state.proofs.LookupLemmas.{state_keyed, state_found, shown_found}
use Rattle.chat_state.proofs.state.State.is_shown.Goals as goal

pub returns-in-Some-Kept : goal.returns-in-Some-Kept
returns-in-Some-Kept c =
    let b = c.args.buffer.now in
    let m = c.args.id.now in
    let u = option_map (message_change b m) c.message.result in
    let keyed = state_keyed c.self.inside.store c.self.inside.front c.self.invariant c.args.self.now c.self.view_is in
    let found = state_found c.self.inside.store c.self.inside.front c.self.invariant c.args.self.now c.self.view_is (MessageOf b m) u c.message.ensures.held in
    subst (λ (t : Bool). IsTrue t ↔ IsShown c.args.self.now.history b m) (ap (λ o. is_posted (option_map (message_change b m) o)) (c.in-Some-Kept.is ∙ ap Some c.in-Some-Kept.field-0-is)) (shown_found c.args.self.now.history keyed b u m found)

pub returns-in-Some-Gone : goal.returns-in-Some-Gone
returns-in-Some-Gone c =
    let b = c.args.buffer.now in
    let m = c.args.id.now in
    let u = option_map (message_change b m) c.message.result in
    let keyed = state_keyed c.self.inside.store c.self.inside.front c.self.invariant c.args.self.now c.self.view_is in
    let found = state_found c.self.inside.store c.self.inside.front c.self.invariant c.args.self.now c.self.view_is (MessageOf b m) u c.message.ensures.held in
    subst (λ (t : Bool). IsTrue t ↔ IsShown c.args.self.now.history b m) (ap (λ o. is_posted (option_map (message_change b m) o)) (c.in-Some-Gone.is ∙ ap Some c.in-Some-Gone.field-0-is)) (shown_found c.args.self.now.history keyed b u m found)

pub returns-in-None : goal.returns-in-None
returns-in-None c =
    let b = c.args.buffer.now in
    let m = c.args.id.now in
    let u = option_map (message_change b m) c.message.result in
    let keyed = state_keyed c.self.inside.store c.self.inside.front c.self.invariant c.args.self.now c.self.view_is in
    let found = state_found c.self.inside.store c.self.inside.front c.self.invariant c.args.self.now c.self.view_is (MessageOf b m) u c.message.ensures.held in
    subst (λ (t : Bool). IsTrue t ↔ IsShown c.args.self.now.history b m) (ap (λ o. is_posted (option_map (message_change b m) o)) c.in-None.is) (shown_found c.args.self.now.history keyed b u m found)
