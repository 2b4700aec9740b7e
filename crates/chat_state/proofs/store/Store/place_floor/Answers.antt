use Rattle.std.proofs.Common.{refl, subst}
use Rattle.chat_change.specs.Extent.{OfBuffer}
use Rattle.chat_buffers.specs.Store.{IsKeyedStore}
use Rattle.chat_buffers.specs.Entering.{IsSwept}
use Rattle.chat_state.proofs.SweepLemmas.{floor_placed}
use Rattle.chat_state.proofs.store.Store.place_floor.Goals as goal

pub returns-clause-placed : goal.returns-clause-placed
returns-clause-placed c _ =
    floor_placed (OfBuffer c.args.buffer) c.args.at c.args.number c.args.self.now c.enter.new.self c.sweep.new.self
    (subst IsKeyedStore c.self.view_is c.self.invariant.0) (c.if-not-enter.ensures.entered refl)
    (subst (λ b. IsSwept (OfBuffer b) c.args.at c.enter.new.self c.sweep.new.self) c.in-Ok.ensures c.sweep.ensures)
