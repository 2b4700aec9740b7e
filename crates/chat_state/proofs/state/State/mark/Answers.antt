use Rattle.std.proofs.Common.{sym, ◌∙◌}
use Rattle.std.specs.Option.{option_map}
use Rattle.chat_change.specs.Key.{MarkerOf}
use Rattle.chat_change.specs.declared.change.Change.TheVariants.{Mark}
use Rattle.chat_state.proofs.LookupLemmas.{state_keyed, state_found, mark_said, mark_found, mark_of_set}
use Rattle.chat_state.proofs.state.State.mark.Goals as goal

pub returns-clause-held : goal.returns-clause-held
returns-clause-held c =
    let b = c.args.buffer.now in
    let u = option_map (Mark b) c.marker.result in
    let keyed = state_keyed c.self.inside.store c.self.inside.front c.self.invariant c.args.self.now c.self.view_is in
    let found = state_found c.self.inside.store c.self.inside.front c.self.invariant c.args.self.now c.self.view_is (MarkerOf b) u c.marker.ensures in
    sym (mark_said b c.marker.result) ∙ mark_found c.args.self.now.history keyed b u found

pub returns-clause-of_set : goal.returns-clause-of_set
returns-clause-of_set c = λ changes e. returns-clause-held c ∙ mark_of_set c.args.self.now.history c.args.buffer.now changes e
