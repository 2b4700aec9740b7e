use Rattle.chat_state.proofs.DeltaLemmas.{given_in_order, delta_sent}
use Rattle.chat_state.proofs.since.delta_since.Goals as goal

pub delta_of-requires : goal.delta_of-requires
delta_of-requires c = given_in_order c.args.state.now c.args.from c.in-Ok.turn.items c.deref.result.now c.deref.ensures.value c.in-Ok.ensures

pub returns-in-Ok : goal.returns-in-Ok
returns-in-Ok c =
    delta_sent c.delta_of.result c.args.state.now c.args.from c.front.result c.in-Ok.turn.items c.deref.result.now c.deref.ensures.value c.front.ensures c.in-Ok.ensures c.delta_of.ensures
