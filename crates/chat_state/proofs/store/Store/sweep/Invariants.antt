use Rattle.std.specs.FinMap as map
use Rattle.chat_state.proofs.SweepLemmas.{StaysSwept}
use Rattle.chat_state.proofs.store.Store.sweep.Given as goal

-- what a sweep leaves stays the same
abbrev pub invariant-loop-floor : goal.invariant-loop-floor
invariant-loop-floor l = StaysSwept l.buffer l.floor l.initial.self l.self

abbrev pub decreases-loop-floor : goal.decreases-loop-floor
decreases-loop-floor l = map.len l.self
