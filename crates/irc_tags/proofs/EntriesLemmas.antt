-- What a look-up and a change in a map do to the tags that it shows.
use Rattle.std.proofs.Common.{◌≡◌, ℕ, Bool, true, false, cond, List, [], ◌∷◌, length, not, Some, refl, ap, sym, ◌∙◌}
use Rattle.std.specs.Borrow.{Bor}
use Rattle.std.specs.Cow.{cow_slice_items}
use Rattle.std.specs.Map.{lookup}
use Rattle.std.specs.Option.{option_map}
use Rattle.std.specs.Prelude.{◌==◌}
use Rattle.std.specs.declared.alloc.Global.{Global}
use Rattle.std.specs.declared.borrow.CowSlice.{CowSlice}
use Rattle.std.proofs.lemmas.Bool.{cond-true}
use Rattle.indexmap.specs.IndexMap.{insert_entry}
use Rattle.irc_tags.specs.TagList.{Tag, has_key, same_bytes, value_at}
use Rattle.irc_tags.specs.Entries.{Held, value_of, with_value, with_tag}

pub value_of-insert_entry : (es : List Held) (k : Bor (List ℕ)) (v : CowSlice ℕ Global)
    → value_of (insert_entry (λ x y. same_bytes x.now y.now) es k v) ≡ with_value (value_of es) k.now (cow_slice_items v)
value_of-insert_entry [] k v = refl
value_of-insert_entry (e ∷ es) k v = go (same_bytes k.now e.0.now) (value_of-insert_entry es k v) where
  go : (b : Bool) → value_of (insert_entry (λ x y. same_bytes x.now y.now) es k v) ≡ with_value (value_of es) k.now (cow_slice_items v)
      → value_of (cond b ((e.0, v) ∷ es) (e ∷ insert_entry (λ x y. same_bytes x.now y.now) es k v))
      ≡ cond b ((e.0.now, cow_slice_items v) ∷ value_of es) ((e.0.now, cow_slice_items e.1) ∷ with_value (value_of es) k.now (cow_slice_items v))
  go true rest = refl
  go false rest = ap (λ l. (e.0.now, cow_slice_items e.1) ∷ l) rest

pub value_at-value_of : (key : List ℕ) (es : List Held)
    → option_map (λ (v : CowSlice ℕ Global). cow_slice_items v) (lookup (λ k. same_bytes key k.now) es) ≡ value_at key (value_of es)
value_at-value_of key [] = refl
value_at-value_of key (e ∷ es) = go (same_bytes key e.0.now) (value_at-value_of key es) where
  go : (b : Bool) → option_map (λ (v : CowSlice ℕ Global). cow_slice_items v) (lookup (λ k. same_bytes key k.now) es) ≡ value_at key (value_of es)
      → option_map (λ (v : CowSlice ℕ Global). cow_slice_items v) (cond b (Some e.1) (lookup (λ k. same_bytes key k.now) es)) ≡ cond b (Some (cow_slice_items e.1)) (value_at key (value_of es))
  go true rest = refl
  go false rest = rest

-- a tag that has a key is put in, and one that has none is not
pub with_tag-put : (tags : List Tag) (tag : Tag) (key value : List ℕ) → key ≡ tag.0 → value ≡ tag.1 → (length key == 0) ≡ false
    → with_tag tags tag ≡ with_value tags key value
with_tag-put tags tag key value k v some =
    cond-true (has_key tag) _ _ (ap (λ l. not (length l == 0)) (sym k) ∙ ap not some) ∙ (λ i. with_value tags (sym k i) (sym v i))
