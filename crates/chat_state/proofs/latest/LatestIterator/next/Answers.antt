use Rattle.std.proofs.Common.{sym, ◌∙◌, ◌<◌, length, ap, subst, arith, Option, Bor, ℕ}
use Rattle.chat_change.specs.Buffer.{Buffer}
use Rattle.chat_state.specs.Latest.{latest_from, next_of, IsAtBuffer}
use Rattle.chat_buffers.specs.Store.{history_in}
use Rattle.chat_state.proofs.LatestLemmas.{at_next, latest_step}
use Rattle.chat_state.proofs.latest.LatestIterator.next.Goals as goal

pub invariant_of-self : goal.invariant_of-self
invariant_of-self c =
    let next = c.next_sought-self-inside in
    at_next c.self.inside.walk next.new.self c.account.result c.network.result c.self.inside.since next.result next.ensures.first next.ensures.latest next.ensures.walked

pub returns-clause-steps : goal.returns-clause-steps
returns-clause-steps c =
    let next = c.next_sought-self-inside in
    let walk = c.self.inside.walk in
    let since = c.self.inside.since in
    sym c.self.view_is
    ∙ ap (λ (o : Option (Bor Buffer × ℕ)). latest_from (history_in walk.store) since (next_of o)) c.in-Some.is
    ∙ latest_step walk next.new.self c.account.result c.network.result since c.in-Some.buffer c.in-Some.at
    (subst (λ (o : Option (Bor Buffer × ℕ)). IsAtBuffer (history_in walk.store) since walk.last o) c.in-Some.is c.self.invariant)
    c.account.ensures.value c.network.ensures.value next.result next.ensures.first next.ensures.walked

pub returns-clause-goes : goal.returns-clause-goes
returns-clause-goes c =
    let next = c.next_sought-self-inside in
    let e = ap length (returns-clause-steps c) in
    let less : length (latest_from (history_in next.new.self.store) c.self.inside.since (next_of next.result)) < length c.args.self.now = omega (arith, e) in
    record { on = λ _. (tt, tt, less); keeps = tt; rests = λ _. tt }
