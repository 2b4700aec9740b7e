use Rattle.chat_change.specs.Extent.{OfBuffer}
use Rattle.chat_buffers.proofs.CallerLemmas.{swept_keyed}
use Rattle.chat_state.proofs.SweptIndexLemmas.{swept_index}
use Rattle.chat_state.proofs.store.Store.sweep_at_once.Goals as goal

pub invariant_of-self : goal.invariant_of-self
invariant_of-self c =
    let s = c.self.inside.buffers in
    let b = c.args.buffer.now in (
      swept_keyed (OfBuffer b) c.args.floor s c.remove_below.new.self c.remove_below.ensures c.self.invariant.0,
      swept_index b c.args.floor s c.remove_below.new.self c.self.inside.index c.retain.new.self c.remove_below.ensures c.retain.ensures c.self.invariant.1,
    )
