use Rattle.std.proofs.Common.{sym, ◌∙◌}
use Rattle.std.specs.Option.{option_map, unwrap_or}
use Rattle.chat_change.specs.Extent.{value_of}
use Rattle.chat_change.specs.Key.{FloorOf, floor_change}
use Rattle.chat_state.proofs.LookupLemmas.{state_keyed, state_found, floor_said, floor_found}
use Rattle.chat_state.proofs.state.State.own_floor.Goals as goal

pub returns : goal.returns
returns c =
    let e = value_of c.args.extent.now in
    let u = option_map (floor_change e) c.floor.result in
    let keyed = state_keyed c.self.inside.store c.self.inside.front c.self.invariant c.args.self.now c.self.view_is in
    let found = state_found c.self.inside.store c.self.inside.front c.self.invariant c.args.self.now c.self.view_is (FloorOf e) u c.floor.ensures in
    c.unwrap_or.ensures ∙ (λ i. unwrap_or (sym (floor_said e c.floor.result) i) (c.first_moment.ensures i)) ∙ floor_found c.args.self.now.history keyed u e found
