use Rattle.std.proofs.Common.{refl, sym, subst, None}
use Rattle.chat_change.specs.Key.{key_of}
use Rattle.chat_change.specs.declared.change.Change.TheVariants as value
use Rattle.ordered_maps.proofs.CallerLemmas.{changed_at}
use Rattle.chat_buffers.specs.Store.{IsKeyedStore}
use Rattle.chat_buffers.proofs.CallerLemmas.{removed_keyed}
use Rattle.chat_state.specs.Index.{IsIndexed}
use Rattle.chat_state.specs.Number.{number_cmp}
use Rattle.chat_state.proofs.IndexLemmas.{indexed_left}
use Rattle.chat_state.proofs.store.Store.take_first_below.Goals as goal

pub invariant_of-self : goal.invariant_of-self
invariant_of-self c =
    let s = c.self.inside.buffers in
    let one = c.in-Some.ensures.one in
    let out = changed_at number_cmp c.self.inside.index c.take_out.new.self None c.of.result c.in-Some.gone c.of.ensures c.take_out.ensures in
    subst (λ x. IsKeyedStore x × IsIndexed x c.take_out.new.self) (sym one.left) (
      removed_keyed s (key_of (value.Post one.post)) c.self.invariant.0,
      indexed_left s c.self.inside.index c.self.invariant.1 (key_of (value.Post one.post)) (record { number = c.in-Some.gone; change = value.Post one.post }) one.was c.take_out.new.self out,
    )

pub invariant_of-self-in-None : goal.invariant_of-self-in-None
invariant_of-self-in-None c = subst (λ x. IsKeyedStore x × IsIndexed x c.self.inside.index) (sym (c.in-None.ensures.kept refl)) c.self.invariant
