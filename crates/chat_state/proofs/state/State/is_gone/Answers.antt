use Rattle.std.proofs.Common.{Some, sym, ◌∙◌, ap}
use Rattle.std.specs.Option.{option_map}
use Rattle.chat_change.specs.Key.{MessageOf}
use Rattle.chat_buffers.specs.MessageRef.{message_change}
use Rattle.chat_history.specs.Lookups.{is_redacted}
use Rattle.chat_state.proofs.LookupLemmas.{state_keyed, state_found, gone_found, gone_of_set}
use Rattle.chat_state.proofs.state.State.is_gone.Goals as goal

pub returns-in-Some-Gone-clause-held : goal.returns-in-Some-Gone-clause-held
returns-in-Some-Gone-clause-held c =
    let b = c.args.buffer.now in
    let m = c.args.id.now in
    let u = option_map (message_change b m) c.message.result in
    let keyed = state_keyed c.self.inside.store c.self.inside.front c.self.invariant c.args.self.now c.self.view_is in
    let found = state_found c.self.inside.store c.self.inside.front c.self.invariant c.args.self.now c.self.view_is (MessageOf b m) u c.message.ensures.held in
    sym (ap (λ o. is_redacted (option_map (message_change b m) o)) (c.in-Some-Gone.is ∙ ap Some c.in-Some-Gone.field-0-is)) ∙ gone_found c.args.self.now.history keyed b u m found

pub returns-in-Some-Gone-clause-of_set : goal.returns-in-Some-Gone-clause-of_set
returns-in-Some-Gone-clause-of_set c = λ changes e. returns-in-Some-Gone-clause-held c ∙ gone_of_set c.args.self.now.history c.args.buffer.now changes e c.args.id.now

pub returns-in-Some-Kept-clause-held : goal.returns-in-Some-Kept-clause-held
returns-in-Some-Kept-clause-held c =
    let b = c.args.buffer.now in
    let m = c.args.id.now in
    let u = option_map (message_change b m) c.message.result in
    let keyed = state_keyed c.self.inside.store c.self.inside.front c.self.invariant c.args.self.now c.self.view_is in
    let found = state_found c.self.inside.store c.self.inside.front c.self.invariant c.args.self.now c.self.view_is (MessageOf b m) u c.message.ensures.held in
    sym (ap (λ o. is_redacted (option_map (message_change b m) o)) (c.in-Some-Kept.is ∙ ap Some c.in-Some-Kept.field-0-is)) ∙ gone_found c.args.self.now.history keyed b u m found

pub returns-in-Some-Kept-clause-of_set : goal.returns-in-Some-Kept-clause-of_set
returns-in-Some-Kept-clause-of_set c = λ changes e. returns-in-Some-Kept-clause-held c ∙ gone_of_set c.args.self.now.history c.args.buffer.now changes e c.args.id.now

pub returns-in-None-clause-held : goal.returns-in-None-clause-held
returns-in-None-clause-held c =
    let b = c.args.buffer.now in
    let m = c.args.id.now in
    let u = option_map (message_change b m) c.message.result in
    let keyed = state_keyed c.self.inside.store c.self.inside.front c.self.invariant c.args.self.now c.self.view_is in
    let found = state_found c.self.inside.store c.self.inside.front c.self.invariant c.args.self.now c.self.view_is (MessageOf b m) u c.message.ensures.held in
    sym (ap (λ o. is_redacted (option_map (message_change b m) o)) c.in-None.is) ∙ gone_found c.args.self.now.history keyed b u m found

pub returns-in-None-clause-of_set : goal.returns-in-None-clause-of_set
returns-in-None-clause-of_set c = λ changes e. returns-in-None-clause-held c ∙ gone_of_set c.args.self.now.history c.args.buffer.now changes e c.args.id.now
