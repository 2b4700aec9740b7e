-- A list of tags that is made tag by tag is the tags_by_key list.
use Rattle.std.proofs.Common.{◌≡◌, ℕ, Bool, true, false, not, cond, List, [], ◌∷◌, ◌++◌, map, filter, refl, sym, ap, subst, ◌∙◌, append_assoc, append-nil, ◌+◌, take, drop, position, None, Some}
use Rattle.std.proofs.lemmas.Bool.{cond-true, cond-false}
use Rattle.std.proofs.lemmas.Cmp.{nat_list_eq_equiv}
use Rattle.std.proofs.lemmas.Slice.Eq.{bytes_eq-Decides}
use Rattle.std.specs.List.{slice_split}
use Rattle.irc_tags.specs.TagList.{Tag, has_key, same_bytes, distinct_keys, last_value, tags_by_key, tag_list, tag_of, is_semicolon}
use Rattle.irc_tags.specs.Entries.{with_value, with_tag, with_tags}
use Rattle.irc_tags.proofs.CuttingLemmas.{parts_from, one_part}

-- the tags without those of a key
abbrev pub without : List ℕ → List Tag → List Tag
without key tags = filter (λ tag. not (same_bytes key tag.0)) tags

-- a key that differs from the first is looked up in the others
kept : (k v : List ℕ) (ts : List Tag) (ks : List (List ℕ))
    → map (λ key. (key, last_value key (cond (same_bytes key k) v []) ts)) (filter (λ other. not (same_bytes k other)) ks)
    ≡ without k (map (λ key. (key, last_value key [] ts)) ks)
kept k v ts [] = refl
kept k v ts (x ∷ ks) = go (same_bytes k x) refl (kept k v ts ks) where
  go : (t : Bool) → same_bytes k x ≡ t
      → map (λ key. (key, last_value key (cond (same_bytes key k) v []) ts)) (filter (λ other. not (same_bytes k other)) ks)
      ≡ without k (map (λ key. (key, last_value key [] ts)) ks)
      → map (λ key. (key, last_value key (cond (same_bytes key k) v []) ts)) (filter (λ other. not (same_bytes k other)) (x ∷ ks))
      ≡ without k (map (λ key. (key, last_value key [] ts)) (x ∷ ks))
  go true e rest =
      ap (λ t. map (λ key. (key, last_value key (cond (same_bytes key k) v []) ts)) (cond (not t) (x ∷ filter (λ other. not (same_bytes k other)) ks) (filter (λ other. not (same_bytes k other)) ks))) e
      ∙ rest
      ∙ sym (ap (λ t. cond (not t) ((x, last_value x [] ts) ∷ without k (map (λ key. (key, last_value key [] ts)) ks)) (without k (map (λ key. (key, last_value key [] ts)) ks))) e)
  go false e rest =
      let flipped : same_bytes x k ≡ false = nat_list_eq_equiv.symm x k ∙ e in
      ap (λ t. map (λ key. (key, last_value key (cond (same_bytes key k) v []) ts)) (cond (not t) (x ∷ filter (λ other. not (same_bytes k other)) ks) (filter (λ other. not (same_bytes k other)) ks))) e
      ∙ (λ i. (x, last_value x (cond (flipped i) v []) ts) ∷ rest i)
      ∙ sym (ap (λ t. cond (not t) ((x, last_value x [] ts) ∷ without k (map (λ key. (key, last_value key [] ts)) ks)) (without k (map (λ key. (key, last_value key [] ts)) ks))) e)

pub tags_by_key-nil : tags_by_key [] ≡ []
unfolding tags_by_key
tags_by_key-nil = refl

-- the first tag's key comes first, with its last value
pub tags_by_key-cons : (tag : Tag) (ts : List Tag) → tags_by_key (tag ∷ ts) ≡ (tag.0, last_value tag.0 tag.1 ts) ∷ without tag.0 (tags_by_key ts)
unfolding tags_by_key
tags_by_key-cons tag ts =
    λ i. (tag.0, last_value tag.0 (cond (nat_list_eq_equiv.refl tag.0 i) tag.1 []) ts) ∷ kept tag.0 tag.1 ts (distinct_keys (map (λ t. t.0) ts)) i

last_value-push : (key d : List ℕ) (ts : List Tag) (k v : List ℕ)
    → last_value key d (ts ++ (k, v) ∷ []) ≡ cond (same_bytes key k) v (last_value key d ts)
last_value-push key d [] k v = refl
last_value-push key d (t ∷ ts) k v = last_value-push key (cond (same_bytes key t.0) t.1 d) ts k v

-- a tag that is put in is dropped with its key
insert_same : (x : List ℕ) (es : List Tag) (k v : List ℕ) → same_bytes x k ≡ true → without x (with_value es k v) ≡ without x es
insert_same x [] k v e = ap (λ t. cond (not t) ((k, v) ∷ []) []) e
insert_same x (t ∷ ts) k v e = go (same_bytes k t.0) refl (insert_same x ts k v e) where
  go : (b : Bool) → same_bytes k t.0 ≡ b → without x (with_value ts k v) ≡ without x ts
      → without x (with_value (t ∷ ts) k v) ≡ without x (t ∷ ts)
  go true f rest =
      let gone : same_bytes x t.0 ≡ true = nat_list_eq_equiv.congr x k t.0 e ∙ f in
      ap (λ b. without x (cond b ((t.0, v) ∷ ts) (t ∷ with_value ts k v))) f
      ∙ ap (λ b. cond (not b) ((t.0, v) ∷ without x ts) (without x ts)) gone
      ∙ sym (ap (λ b. cond (not b) (t ∷ without x ts) (without x ts)) gone)
  go false f rest =
      ap (λ b. without x (cond b ((t.0, v) ∷ ts) (t ∷ with_value ts k v))) f
      ∙ (λ i. cond (not (same_bytes x t.0)) (t ∷ rest i) (rest i))

-- a tag of another key is put in before or after a key is dropped
insert_other : (x : List ℕ) (es : List Tag) (k v : List ℕ) → same_bytes x k ≡ false
    → without x (with_value es k v) ≡ with_value (without x es) k v
insert_other x [] k v e = ap (λ t. cond (not t) ((k, v) ∷ []) []) e
insert_other x (t ∷ ts) k v e = go (same_bytes k t.0) refl (insert_other x ts k v e) where
  later : (b : Bool) → same_bytes x t.0 ≡ b → same_bytes k t.0 ≡ false
      → cond (not (same_bytes x t.0)) (t ∷ with_value (without x ts) k v) (with_value (without x ts) k v)
      ≡ with_value (without x (t ∷ ts)) k v
  later true g f =
      ap (λ b. cond (not b) (t ∷ with_value (without x ts) k v) (with_value (without x ts) k v)) g
      ∙ sym (ap (λ b. with_value (cond (not b) (t ∷ without x ts) (without x ts)) k v) g)
  later false g f =
      ap (λ b. cond (not b) (t ∷ with_value (without x ts) k v) (with_value (without x ts) k v)) g
      ∙ sym (ap (λ b. cond b ((t.0, v) ∷ without x ts) (t ∷ with_value (without x ts) k v)) f)
      ∙ sym (ap (λ b. with_value (cond (not b) (t ∷ without x ts) (without x ts)) k v) g)

  go : (b : Bool) → same_bytes k t.0 ≡ b → without x (with_value ts k v) ≡ with_value (without x ts) k v
      → without x (with_value (t ∷ ts) k v) ≡ with_value (without x (t ∷ ts)) k v
  go true f rest =
      let other : same_bytes x t.0 ≡ false = subst (λ y. same_bytes x y ≡ false) ((bytes_eq-Decides k t.0).0 f) e in
      ap (λ b. without x (cond b ((t.0, v) ∷ ts) (t ∷ with_value ts k v))) f
      ∙ ap (λ b. cond (not b) ((t.0, v) ∷ without x ts) (without x ts)) other
      ∙ sym (ap (λ b. cond b ((t.0, v) ∷ without x ts) (t ∷ with_value (without x ts) k v)) f)
      ∙ sym (ap (λ b. with_value (cond (not b) (t ∷ without x ts) (without x ts)) k v) other)
  go false f rest =
      ap (λ b. without x (cond b ((t.0, v) ∷ ts) (t ∷ with_value ts k v))) f
      ∙ (λ i. cond (not (same_bytes x t.0)) (t ∷ rest i) (rest i))
      ∙ later (same_bytes x t.0) refl f

-- one more tag at the end
pub tags_by_key-push : (ts : List Tag) (k v : List ℕ) → tags_by_key (ts ++ (k, v) ∷ []) ≡ with_value (tags_by_key ts) k v
tags_by_key-push [] k v =
    tags_by_key-cons (k, v) [] ∙ ap (λ l. (k, v) ∷ without k l) tags_by_key-nil ∙ sym (ap (λ l. with_value l k v) tags_by_key-nil)
tags_by_key-push (t ∷ ts) k v = go (same_bytes t.0 k) refl (tags_by_key-push ts k v) where
  last : List ℕ
  last = last_value t.0 t.1 ts

  before : tags_by_key (ts ++ (k, v) ∷ []) ≡ with_value (tags_by_key ts) k v
      → tags_by_key ((t ∷ ts) ++ (k, v) ∷ []) ≡ (t.0, cond (same_bytes t.0 k) v (last_value t.0 t.1 ts)) ∷ without t.0 (with_value (tags_by_key ts) k v)
  before rest = tags_by_key-cons t (ts ++ (k, v) ∷ []) ∙ (λ i. (t.0, last_value-push t.0 t.1 ts k v i) ∷ without t.0 (rest i))

  after : with_value (tags_by_key (t ∷ ts)) k v
      ≡ cond (same_bytes k t.0) ((t.0, v) ∷ without t.0 (tags_by_key ts)) ((t.0, last_value t.0 t.1 ts) ∷ with_value (without t.0 (tags_by_key ts)) k v)
  after = ap (λ l. with_value l k v) (tags_by_key-cons t ts)

  go : (b : Bool) → same_bytes t.0 k ≡ b → tags_by_key (ts ++ (k, v) ∷ []) ≡ with_value (tags_by_key ts) k v
      → tags_by_key ((t ∷ ts) ++ (k, v) ∷ []) ≡ with_value (tags_by_key (t ∷ ts)) k v
  go true e rest =
      before rest
      ∙ (λ i. (t.0, cond (e i) v (last_value t.0 t.1 ts)) ∷ insert_same t.0 (tags_by_key ts) k v e i)
      ∙ sym (cond-true (same_bytes k t.0) _ _ (nat_list_eq_equiv.symm k t.0 ∙ e))
      ∙ sym after
  go false e rest =
      before rest
      ∙ (λ i. (t.0, cond (e i) v (last_value t.0 t.1 ts)) ∷ insert_other t.0 (tags_by_key ts) k v e i)
      ∙ sym (cond-false (same_bytes k t.0) _ _ (nat_list_eq_equiv.symm k t.0 ∙ e))
      ∙ sym after

with_tags-tags_by_key : (xs ys : List Tag) → with_tags (tags_by_key xs) ys ≡ tags_by_key (xs ++ filter has_key ys)
with_tags-tags_by_key xs [] = ap tags_by_key (sym (append-nil xs))
with_tags-tags_by_key xs (y ∷ ys) = go (has_key y) refl (with_tags-tags_by_key xs ys) (with_tags-tags_by_key (xs ++ y ∷ []) ys) where
  go : (b : Bool) → has_key y ≡ b → with_tags (tags_by_key xs) ys ≡ tags_by_key (xs ++ filter has_key ys)
      → with_tags (tags_by_key (xs ++ y ∷ [])) ys ≡ tags_by_key ((xs ++ y ∷ []) ++ filter has_key ys)
      → with_tags (tags_by_key xs) (y ∷ ys) ≡ tags_by_key (xs ++ filter has_key (y ∷ ys))
  go true e skipped put_in =
      ap (λ b. with_tags (cond b (with_value (tags_by_key xs) y.0 y.1) (tags_by_key xs)) ys) e
      ∙ ap (λ l. with_tags l ys) (sym (tags_by_key-push xs y.0 y.1))
      ∙ put_in
      ∙ ap tags_by_key (append_assoc xs (y ∷ []) (filter has_key ys))
      ∙ sym (ap (λ b. tags_by_key (xs ++ cond b (y ∷ filter has_key ys) (filter has_key ys))) e)
  go false e skipped put_in =
      ap (λ b. with_tags (cond b (with_value (tags_by_key xs) y.0 y.1) (tags_by_key xs)) ys) e
      ∙ skipped
      ∙ sym (ap (λ b. tags_by_key (xs ++ cond b (y ∷ filter has_key ys) (filter has_key ys))) e)

-- the tags of all the parts, put in one after another, are the tag list
pub with_tags-all : (bytes : List ℕ) → with_tags [] (map tag_of (slice_split is_semicolon bytes)) ≡ tag_list bytes
unfolding tag_list
with_tags-all bytes =
    ap (λ l. with_tags l (map tag_of (slice_split is_semicolon bytes))) (sym tags_by_key-nil)
    ∙ with_tags-tags_by_key [] (map tag_of (slice_split is_semicolon bytes))

-- one part more
pub with_tags-part : (tags new all : List Tag) (rest : List ℕ) (at : ℕ) → position is_semicolon rest ≡ Some at
    → new ≡ with_tag tags (tag_of (take at rest)) → with_tags tags (map tag_of (slice_split is_semicolon rest)) ≡ all
    → with_tags new (map tag_of (slice_split is_semicolon (drop (at + 1) rest))) ≡ all
with_tags-part tags new all rest at place put_in so_far =
    ap (λ l. with_tags l (map tag_of (slice_split is_semicolon (drop (at + 1) rest)))) put_in
    ∙ sym (ap (λ parts. with_tags tags (map tag_of parts)) (parts_from is_semicolon rest at place))
    ∙ so_far

-- the last part
pub with_tags-end : (tags new all : List Tag) (rest : List ℕ) → position is_semicolon rest ≡ None
    → new ≡ with_tag tags (tag_of rest) → with_tags tags (map tag_of (slice_split is_semicolon rest)) ≡ all → new ≡ all
with_tags-end tags new all rest none put_in so_far =
    put_in ∙ sym (ap (λ parts. with_tags tags (map tag_of parts)) (one_part is_semicolon rest none)) ∙ so_far
