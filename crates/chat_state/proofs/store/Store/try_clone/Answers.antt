use Rattle.std.proofs.Common.{◌≡◌, ◌∙◌, sym, subst, ℕ}
use Rattle.std.proofs.lemmas.List.Elements.{same_from_all_zip}
use Rattle.ordered_maps.proofs.CallerLemmas.{unchanged}
use Rattle.chat_buffers.specs.Store.{Store, IsKeyedStore}
use Rattle.chat_state.specs.Index.{ByNumber, IsIndexed}
use Rattle.chat_state.specs.Number.{number_cmp}
use Rattle.chat_state.specs.PieceName.{PieceName}
use Rattle.chat_state.proofs.store.Store.try_clone.Goals as goal

same_entry : (x y : ℕ × PieceName) → (y.0 ≡ x.0) × (y.1 ≡ x.1) → y ≡ x
same_entry x y e = λ i. (e.0 i, e.1 i)

same_index : (s : Store) (m n : ByNumber) → n ≡ m → IsIndexed s m → IsIndexed s n
same_index s m n same was = record {
  once = was.once;
  listed = λ k p e. unchanged number_cmp m n same p.number ∙ was.listed k p e;
  right = λ x q e. was.right x q (sym (unchanged number_cmp m n same x) ∙ e);
}

pub invariant_of-result : goal.invariant_of-result
invariant_of-result c =
    let same = same_from_all_zip _ c.self.inside.index c.in_ok-index.index c.in_ok-index.ensures.cases same_entry in
    subst (λ (s : Store). IsKeyedStore s × IsIndexed s c.in_ok-index.index) (sym c.in_ok-buffers.ensures)
    (c.self.invariant.0, same_index c.self.inside.buffers c.self.inside.index c.in_ok-index.index same c.self.invariant.1)
