use Rattle.std.proofs.Common.{rules, ◌≡◌, ◌∙◌, sym, ap, ℕ, None}
use Rattle.std.specs.Option.{option_map}
use Rattle.std.specs.FinMap as map
use Rattle.chat_change.specs.Key.{Key, key_cmp}
use Rattle.ordered_maps.specs.MapView.{get}
use Rattle.chat_buffers.specs.Store.{Store, Numbered, number_at, IsKeyedStore}
use Rattle.chat_state.specs.Index.{ByNumber, IsIndexed}
use Rattle.chat_state.specs.Number.{number_cmp}
use Rattle.chat_state.proofs.store.Store.new.Goals as goal

module _ (s : Store) (e : s ≡ map.empty) where
  nothing : (k : Key) → map.get s k ≡ None
  nothing k = ap (λ (x : Store). map.get x k) e ∙ map.get-empty key_cmp k

  no_number : (k : Key) → number_at s k ≡ None
  no_number k = ap (option_map (λ (p : Numbered). p.number)) (nothing k)

  empty_keyed : IsKeyedStore s
  empty_keyed k p f = cc (sym f ∙ nothing k)

  empty_indexed : (index : ByNumber) → ((n : ℕ) → get number_cmp index n ≡ None) → IsIndexed s index
  empty_indexed index none = record {
    once = λ k l n f g. cc (sym f ∙ no_number k);
    listed = λ k p f. cc (sym f ∙ nothing k);
    right = λ n p f. cc (sym f ∙ none n);
  }

pub invariant_of-result : goal.invariant_of-result
invariant_of-result c =
    let none : (n : ℕ) → get number_cmp c.new-2.result n ≡ None = λ n. search rules in
    (empty_keyed c.new.result c.new.ensures, empty_indexed c.new.result c.new.ensures c.new-2.result none)
