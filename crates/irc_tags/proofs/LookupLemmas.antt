-- The last value that is found of a key is its value in the tag list.
use Rattle.std.proofs.Common.{◌≡◌, ℕ, Bool, true, false, cond, ◌+◌, List, [], ◌∷◌, map, take, drop, position, Option, None, Some, refl, sym, ap, subst, ◌∙◌, ◌&&◌}
use Rattle.std.proofs.lemmas.Cmp.{nat_list_eq_equiv}
use Rattle.std.proofs.lemmas.Slice.Eq.{bytes_eq-Decides}
use Rattle.std.specs.List.{slice_split}
use Rattle.irc_tags.specs.TagList.{Tag, has_key, same_bytes, tag_list, tag_of, value_at, is_semicolon}
use Rattle.irc_tags.specs.Entries.{with_value, with_tag, with_tags, found_in, last_found}
use Rattle.irc_tags.proofs.CuttingLemmas.{parts_from, one_part}
use Rattle.irc_tags.proofs.MergingLemmas.{with_tags-all}

-- two keys that differ aren't both the one that is looked up
turned : (v w : List ℕ) (found : Option (List ℕ)) (a b : Bool) → (a ≡ true → b ≡ false)
    → cond a (Some w) (cond b (Some v) found) ≡ cond b (Some v) (cond a (Some w) found)
turned v w found true true apart = (let e = apart refl in cc)
turned v w found true false apart = refl
turned v w found false b apart = refl

value_at-with_value : (key : List ℕ) (tags : List Tag) (k v : List ℕ)
    → value_at key (with_value tags k v) ≡ cond (same_bytes key k) (Some v) (value_at key tags)
value_at-with_value key [] k v = refl
value_at-with_value key (t ∷ ts) k v = go (same_bytes k t.0) refl (value_at-with_value key ts k v) where
  go : (b : Bool) → same_bytes k t.0 ≡ b → value_at key (with_value ts k v) ≡ cond (same_bytes key k) (Some v) (value_at key ts)
      → value_at key (cond b ((t.0, v) ∷ ts) (t ∷ with_value ts k v)) ≡ cond (same_bytes key k) (Some v) (cond (same_bytes key t.0) (Some t.1) (value_at key ts))
  go true e rest =
      subst (λ x. cond (same_bytes key t.0) (Some v) (value_at key ts) ≡ cond (same_bytes key x) (Some v) (cond (same_bytes key t.0) (Some t.1) (value_at key ts)))
      (sym ((bytes_eq-Decides k t.0).0 e)) (same (same_bytes key t.0)) where
        same : (b : Bool) → cond b (Some v) (value_at key ts) ≡ cond b (Some v) (cond b (Some t.1) (value_at key ts))
        same true = refl
        same false = refl
  go false e rest =
      ap (λ found. cond (same_bytes key t.0) (Some t.1) found) rest
      ∙ turned v t.1 (value_at key ts) (same_bytes key t.0) (same_bytes key k)
      (λ here. ap (λ x. same_bytes x k) ((bytes_eq-Decides key t.0).0 here) ∙ nat_list_eq_equiv.symm t.0 k ∙ e)

value_at-with_tag : (key : List ℕ) (tags : List Tag) (tag : Tag) → value_at key (with_tag tags tag) ≡ found_in key (value_at key tags) tag
value_at-with_tag key tags tag = go (has_key tag) where
  go : (b : Bool) → value_at key (cond b (with_value tags tag.0 tag.1) tags) ≡ cond (b && same_bytes key tag.0) (Some tag.1) (value_at key tags)
  go true = value_at-with_value key tags tag.0 tag.1
  go false = refl

value_at-with_tags : (key : List ℕ) (tags more : List Tag) → value_at key (with_tags tags more) ≡ last_found key (value_at key tags) more
value_at-with_tags key tags [] = refl
value_at-with_tags key tags (tag ∷ more) =
    value_at-with_tags key (with_tag tags tag) more ∙ ap (λ found. last_found key found more) (value_at-with_tag key tags tag)

-- the last value that is found in all the parts is that of the tag list
pub found-all : (key bytes : List ℕ) → last_found key None (map tag_of (slice_split is_semicolon bytes)) ≡ value_at key (tag_list bytes)
found-all key bytes = sym (value_at-with_tags key [] (map tag_of (slice_split is_semicolon bytes))) ∙ ap (value_at key) (with_tags-all bytes)

-- one part more
pub found-part : (key : List ℕ) (found new all : Option (List ℕ)) (rest : List ℕ) (at : ℕ) → position is_semicolon rest ≡ Some at
    → new ≡ found_in key found (tag_of (take at rest)) → last_found key found (map tag_of (slice_split is_semicolon rest)) ≡ all
    → last_found key new (map tag_of (slice_split is_semicolon (drop (at + 1) rest))) ≡ all
found-part key found new all rest at place taken so_far =
    ap (λ l. last_found key l (map tag_of (slice_split is_semicolon (drop (at + 1) rest)))) taken
    ∙ sym (ap (λ parts. last_found key found (map tag_of parts)) (parts_from is_semicolon rest at place))
    ∙ so_far

-- the last part
pub found-end : (key : List ℕ) (found new all : Option (List ℕ)) (rest : List ℕ) → position is_semicolon rest ≡ None
    → new ≡ found_in key found (tag_of rest) → last_found key found (map tag_of (slice_split is_semicolon rest)) ≡ all → new ≡ all
found-end key found new all rest none taken so_far =
    taken ∙ sym (ap (λ parts. last_found key found (map tag_of parts)) (one_part is_semicolon rest none)) ∙ so_far
