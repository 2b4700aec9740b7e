use Rattle.chat_state.proofs.AccountSweepLemmas.{IsUpTo}
use Rattle.chat_state.proofs.store.Store.sweep_account.Given as goal

-- only what lies below the floor has gone, and nothing of the buffers so far is left below it
abbrev pub invariant-loop-buffer : goal.invariant-loop-buffer
invariant-loop-buffer l = IsUpTo l.account l.floor l.initial.self l.self l.buffers l.buffer-index
