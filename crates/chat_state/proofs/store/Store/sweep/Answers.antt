use Rattle.std.proofs.Common.{◌∙◌, refl, ap}
use Rattle.std.specs.FinMap as map
use Rattle.chat_change.specs.Extent.{OfBuffer}
use Rattle.chat_buffers.specs.Store.{Store}
use Rattle.chat_buffers.specs.Entering.{unless_below}
use Rattle.chat_state.proofs.SweepLemmas.{one_less, fewer, all_swept}
use Rattle.chat_state.proofs.store.Store.sweep.Goals as goal

pub loop-floor-smaller : goal.loop-floor-smaller
loop-floor-smaller c = fewer c.args.buffer.now c.args.floor c.loop-floor.self c.take_first_below.new.self (c.loop-floor-test.ensures.one refl)

pub loop-floor-preserved : goal.loop-floor-preserved
loop-floor-preserved c k = one_less c.args.buffer.now c.args.floor c.loop-floor.self c.take_first_below.new.self (c.loop-floor-test.ensures.one refl) k ∙ c.loop-floor.invariant k

pub returns : goal.returns
returns c =
    let same = c.loop-floor-test.ensures.kept refl in
    all_swept c.args.buffer.now c.args.floor c.args.self.now c.take_first_below.new.self
    (λ k. ap (λ (s : Store). unless_below (OfBuffer c.args.buffer.now) c.args.floor (map.get s k)) same ∙ c.loop-floor.invariant k)
    (c.loop-floor-test.ensures.done refl)
