use Rattle.std.proofs.Common.{refl, sym, subst, None}
use Rattle.chat_change.specs.Extent.{OfBuffer}
use Rattle.chat_change.specs.Key.{FloorOf}
use Rattle.chat_change.specs.declared.change.Change.TheVariants as value
use Rattle.ordered_maps.proofs.CallerLemmas.{changed_at}
use Rattle.chat_buffers.specs.Store.{Store, IsKeyedStore}
use Rattle.chat_buffers.proofs.CallerLemmas.{removed_keyed}
use Rattle.chat_state.specs.Index.{IsIndexed}
use Rattle.chat_state.specs.Number.{number_cmp}
use Rattle.chat_state.specs.Sweeping.{IsFloorSwept}
use Rattle.chat_state.proofs.IndexLemmas.{indexed_left}
use Rattle.chat_state.proofs.AccountSweepLemmas.{floor_taken, floor_above}
use Rattle.chat_state.proofs.store.Store.sweep_floor.Goals as goal

pub invariant_of-self : goal.invariant_of-self
invariant_of-self c =
    let s = c.self.inside.buffers in
    let one = c.in-Some.ensures.one in
    let key = FloorOf (OfBuffer c.args.buffer.now) in
    let out = changed_at number_cmp c.self.inside.index c.take_out.new.self None c.of.result c.in-Some.gone c.of.ensures c.take_out.ensures in
    subst (λ x. IsKeyedStore x × IsIndexed x c.take_out.new.self) (sym one.left) (
      removed_keyed s key c.self.invariant.0,
      indexed_left s c.self.inside.index c.self.invariant.1 key (record { number = c.in-Some.gone; change = value.Floor c.args.buffer.now one.at }) one.was c.take_out.new.self out,
    )

pub invariant_of-self-in_default : goal.invariant_of-self-in_default
invariant_of-self-in_default c = subst (λ x. IsKeyedStore x × IsIndexed x c.self.inside.index) (sym (c.in_default.ensures.kept refl)) c.self.invariant

pub returns-in-Some : goal.returns-in-Some
returns-in-Some c =
    subst (λ (x : Store). IsFloorSwept c.args.buffer.now c.args.floor x c.remove_floor_to.new.self) c.self.view_is
    (floor_taken c.args.buffer.now c.args.floor c.in-Some.gone c.self.inside.buffers c.remove_floor_to.new.self c.in-Some.ensures.one)

pub returns-in_default : goal.returns-in_default
returns-in_default c =
    let s = c.remove_floor_to.new.self in
    let same = c.in_default.ensures.kept refl in
    let keyed = subst IsKeyedStore (sym same) c.self.invariant.0 in
    subst (λ (x : Store). IsFloorSwept c.args.buffer.now c.args.floor x s) c.self.view_is
    (subst (λ (x : Store). IsFloorSwept c.args.buffer.now c.args.floor x s) same (floor_above c.args.buffer.now c.args.floor s keyed (c.in_default.ensures.done refl)))
