use Rattle.std.proofs.Common.{◌∙◌, ap}
use Rattle.chat_history.specs.StateValue.{StateValue}
use Rattle.chat_state.specs.LatestSince.{latest_since_in}
use Rattle.chat_state.proofs.LatestLemmas.{at_next, latest_all}
use Rattle.chat_state.proofs.StateLemmas.{keyed}
use Rattle.chat_state.proofs.state.State.latest_since.Goals as goal

pub invariant_of-result : goal.invariant_of-result
invariant_of-result c =
    let next = c.next_sought-next in
    at_next c.walk-walk.result next.new.self c.args.account c.args.network c.args.since next.result next.ensures.first next.ensures.latest next.ensures.walked

pub returns : goal.returns
returns c =
    let next = c.next_sought-next in
    latest_all c.self.inside.store (keyed c.self.inside.store c.self.invariant.normal) c.walk-walk.result next.new.self c.walk-walk.ensures c.args.account c.args.network c.args.since next.result next.ensures.first next.ensures.walked
    ∙ ap (λ (s : StateValue). latest_since_in s.history c.args.account.now c.args.network.now c.args.since) c.self.view_is
