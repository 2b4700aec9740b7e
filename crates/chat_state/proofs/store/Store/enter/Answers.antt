use Rattle.std.proofs.Common.{◌≡◌, ◌∙◌, refl, sym, ap, subst, Some, None, cond}
use Rattle.std.specs.Ordering.{eq_by_cmp}
use Rattle.chat_change.specs.Key.{key_of}
use Rattle.ordered_maps.specs.MapView.{get}
use Rattle.ordered_maps.proofs.CallerLemmas.{changed_at, unchanged}
use Rattle.chat_buffers.specs.Store.{number_at, IsFresh, IsKeyedStore}
use Rattle.chat_buffers.proofs.CallerLemmas.{entered_keyed}
use Rattle.chat_state.specs.Index.{IsIndexed}
use Rattle.chat_state.specs.Number.{number_cmp}
use Rattle.chat_state.proofs.IndexLemmas.{indexed_alike, unlisted_number, index_restored, indexed_after}
use Rattle.chat_state.proofs.store.Store.enter.Goals as goal

-- where the number found no room
pub invariant_of-self : goal.invariant_of-self
invariant_of-self c =
    let s = c.self.inside.buffers in
    let index = c.self.inside.index in
    (c.self.invariant.0, indexed_alike s index c.put.new.self c.self.invariant.1 (unchanged number_cmp index c.put.new.self (c.if-not-put.ensures.refused refl)))

pub invariant_of-self-in_default-enter : goal.invariant_of-self-in_default-enter
invariant_of-self-in_default-enter c =
    let s = c.self.inside.buffers in
    let index = c.self.inside.index in
    let fresh = subst (λ s. IsFresh s c.args.number) (sym c.self.view_is) c.requires.fresh in
    let put = changed_at number_cmp index c.put.new.self (Some c.in-Ok.name) c.of.result c.args.number c.of.ensures (c.if-not-put.ensures.put refl) in
    let out = changed_at number_cmp c.put.new.self c.take_out.new.self None c.of-in_default-enter.result c.args.number c.of-in_default-enter.ensures c.take_out.ensures in
    subst (λ x. IsKeyedStore x × IsIndexed x c.take_out.new.self) (sym c.in_default-enter.ensures.refused) (
      c.self.invariant.0,
      indexed_alike s index c.take_out.new.self c.self.invariant.1
          (index_restored index c.put.new.self c.take_out.new.self c.args.number c.in-Ok.name (unlisted_number s c.args.number fresh index c.self.invariant.1) put out),
    )

pub invariant_of-self-in-Some : goal.invariant_of-self-in-Some
invariant_of-self-in-Some c =
    let s = c.self.inside.buffers in
    let n = c.args.number in
    let index = c.self.inside.index in
    let fresh = subst (λ s. IsFresh s n) (sym c.self.view_is) c.requires.fresh in
    let entered = c.in-Ok-enter.ensures.entered in
    let name = c.in-Ok.ensures in
    let put = changed_at number_cmp index c.put.new.self (Some c.in-Ok.name) c.of.result n c.of.ensures (c.if-not-put.ensures.put refl) in
    let out = changed_at number_cmp c.put.new.self c.take_out-in-Some.new.self None c.of-in-Some.result c.in-Some.before c.of-in-Some.ensures c.take_out-in-Some.ensures in
    let had : number_at s (key_of c.args.change) ≡ Some c.in-Some.before = sym c.in-Ok-enter.ensures.before ∙ c.in-Some.is in (
      entered_keyed s n c.args.change c.enter.new.self entered c.self.invariant.0,
      indexed_after s c.enter.new.self n c.args.change entered fresh index c.self.invariant.1 c.take_out-in-Some.new.self (Some c.in-Some.before) had
          (λ q. out q
          ∙ ap (cond (eq_by_cmp number_cmp c.in-Some.before q) None) (put q ∙ ap (λ p. cond (eq_by_cmp number_cmp n q) (Some p) (get number_cmp index q)) name)),
    )

pub invariant_of-self-in_default-before : goal.invariant_of-self-in_default-before
invariant_of-self-in_default-before c =
    let s = c.self.inside.buffers in
    let n = c.args.number in
    let index = c.self.inside.index in
    let fresh = subst (λ s. IsFresh s n) (sym c.self.view_is) c.requires.fresh in
    let entered = c.in-Ok-enter.ensures.entered in
    let name = c.in-Ok.ensures in
    let put = changed_at number_cmp index c.put.new.self (Some c.in-Ok.name) c.of.result n c.of.ensures (c.if-not-put.ensures.put refl) in
    let had : number_at s (key_of c.args.change) ≡ None = sym c.in-Ok-enter.ensures.before ∙ c.in_default-before.is in (
      entered_keyed s n c.args.change c.enter.new.self entered c.self.invariant.0,
      indexed_after s c.enter.new.self n c.args.change entered fresh index c.self.invariant.1 c.put.new.self None had
          (λ q. put q ∙ ap (λ p. cond (eq_by_cmp number_cmp n q) (Some p) (get number_cmp index q)) name),
    )
