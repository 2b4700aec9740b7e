use Rattle.std.proofs.Common.{refl, sym, ap, subst, Ok, Some, None}
use Rattle.chat_change.specs.declared.change.Change.TheVariants.{Post}
use Rattle.ordered_maps.proofs.CallerLemmas.{changed_at}
use Rattle.chat_buffers.specs.Store.{IsFresh, IsKeyedStore}
use Rattle.chat_buffers.proofs.CallerLemmas.{entered_keyed}
use Rattle.chat_state.specs.Index.{IsIndexed}
use Rattle.chat_state.specs.Number.{number_cmp}
use Rattle.chat_state.proofs.NewPostLemmas.{new_indexed, taken_back}
use Rattle.chat_state.proofs.store.Store.place_new.Goals as goal

pub invariant_of-self-in-Ok-true : goal.invariant_of-self-in-Ok-true
invariant_of-self-in-Ok-true c =
    let s = c.self.inside.buffers in
    let n = c.args.number in
    let index = c.self.inside.index in
    let fresh = subst (λ s. IsFresh s n) (sym c.self.view_is) c.requires.fresh in
    let name = c.in_ok-name_of_post.field-0 in
    let up = changed_at number_cmp index c.put.new.self (Some name) c.of.result n c.of.ensures (c.if-not-put.ensures.put refl) in
    let r = c.args.post.now in
    let is = ap Ok c.in-Ok-true.field-0-test in
    let new = c.enter_new.new.self in
    let entered = c.in-Ok-true.ensures.entered is in (
      entered_keyed s n (Post r) new entered c.self.invariant.0,
      new_indexed s r (c.in-Ok-true.ensures.new is) n new entered fresh index c.put.new.self name c.self.invariant.1 c.in_ok-name_of_post.ensures up,
    )

-- it isn't such a post
pub invariant_of-self-in-Ok-false : goal.invariant_of-self-in-Ok-false
invariant_of-self-in-Ok-false c =
    let s = c.self.inside.buffers in
    let n = c.args.number in
    let index = c.self.inside.index in
    let fresh = subst (λ s. IsFresh s n) (sym c.self.view_is) c.requires.fresh in
    let name = c.in_ok-name_of_post.field-0 in
    let up = changed_at number_cmp index c.put.new.self (Some name) c.of.result n c.of.ensures (c.if-not-put.ensures.put refl) in
    let down = changed_at number_cmp c.put.new.self c.take_out.new.self None c.of-in-Ok-false.result n c.of-in-Ok-false.ensures c.take_out.ensures in
    let indexed = taken_back s n fresh index c.put.new.self c.take_out.new.self name c.self.invariant.1 up down in
    subst (λ x. IsKeyedStore x × IsIndexed x c.take_out.new.self) (sym (c.in-Ok-false.ensures.other (ap Ok c.in-Ok-false.field-0-test))) (c.self.invariant.0, indexed)

-- there is no memory for it
pub invariant_of-self-in-Err : goal.invariant_of-self-in-Err
invariant_of-self-in-Err c =
    let s = c.self.inside.buffers in
    let n = c.args.number in
    let index = c.self.inside.index in
    let fresh = subst (λ s. IsFresh s n) (sym c.self.view_is) c.requires.fresh in
    let name = c.in_ok-name_of_post.field-0 in
    let up = changed_at number_cmp index c.put.new.self (Some name) c.of.result n c.of.ensures (c.if-not-put.ensures.put refl) in
    let down = changed_at number_cmp c.put.new.self c.take_out-in-Err.new.self None c.of-in-Err.result n c.of-in-Err.ensures c.take_out-in-Err.ensures in
    let indexed = taken_back s n fresh index c.put.new.self c.take_out-in-Err.new.self name c.self.invariant.1 up down in
    subst (λ x. IsKeyedStore x × IsIndexed x c.take_out-in-Err.new.self) (sym (c.in-Err.ensures.refused)) (c.self.invariant.0, indexed)
