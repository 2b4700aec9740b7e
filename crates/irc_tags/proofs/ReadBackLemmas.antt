-- Tags that are written are read back.
use Rattle.std.proofs.Common.{◌≡◌, ℕ, ◌+◌, ◌<◌, Bool, true, false, not, cond, List, [], ◌∷◌, ◌++◌, length, map, filter, drop, refl, sym, ap, ◌∙◌, arith, ◌==◌}
use Rattle.std.specs.List.{All, AllByRecursion, IsDistinct, slice_split, position_or_len, before_first, after_first}
use Rattle.std.proofs.lemmas.Bool.{or_parts, or_from, cond-true}
use Rattle.std.proofs.lemmas.List.{take_at, drop_at, drop-drop}
use Rattle.std.proofs.lemmas.List.Splits.{slice_split_none, slice_split_at}
use Rattle.std.proofs.lemmas.List.Elements.{All-nil, All-cons, All-head, All-tail, All-append, All-weaker}
use Rattle.irc_tags.specs.Value.{semicolon, byte_spelling, value_text, value_in}
use Rattle.irc_tags.specs.TagList.{Tag, equals_sign, is_semicolon, is_equals, has_key, same_bytes, last_value, tags_by_key, tag_of, tag_list, tags_of}
use Rattle.irc_tags.specs.Text.{value_part, tag_text, tags_text}
use Rattle.irc_tags.specs.Standing.{ends_key, IsKey, CanStand, is_nul, ends_tag_data, CanStandInLine}
use Rattle.irc_tags.proofs.MergingLemmas.{without, tags_by_key-nil, tags_by_key-cons}
use Rattle.irc_tags.proofs.ValueLemmas.{value_in-nil, value_in-value_text}

-- a list behind one in which nothing passes is cut where it is cut itself
module _ (p : ℕ → Bool) where
  position_or_len-behind : (xs ys : List ℕ) → All (λ b. p b ≡ false) xs → position_or_len p (xs ++ ys) ≡ length xs + position_or_len p ys
  position_or_len-behind [] ys all = omega arith
  position_or_len-behind (x ∷ xs) ys all =
      let rest = position_or_len-behind xs ys (All-tail (λ b. p b ≡ false) x xs all) in
      ap (λ b. cond (not b) (1 + position_or_len p (xs ++ ys)) 0) (All-head (λ b. p b ≡ false) x xs all) ∙ omega arith

  before_first-behind : (xs ys : List ℕ) → All (λ b. p b ≡ false) xs → position_or_len p ys ≡ 0 → before_first p (xs ++ ys) ≡ xs
  before_first-behind xs ys all here =
      let at = position_or_len-behind xs ys all in
      take_at xs ys (position_or_len p (xs ++ ys)) (omega arith)

  after_first-behind : (xs ys : List ℕ) → All (λ b. p b ≡ false) xs → position_or_len p ys ≡ 0 → after_first p (xs ++ ys) ≡ drop 1 ys
  after_first-behind xs ys all here =
      let at = position_or_len-behind xs ys all in
      let place : position_or_len p (xs ++ ys) + 1 ≡ length xs + 1 = omega arith in
      ap (λ n. drop n (xs ++ ys)) place ∙ sym (drop-drop 1 (length xs) (xs ++ ys)) ∙ ap (drop 1) (drop_at xs ys (length xs) refl)

key_without : (key : List ℕ) → All (λ b. ends_key b ≡ false) key → All (λ b. is_equals b ≡ false) key
key_without key all = All-weaker (λ b. ends_key b ≡ false) (λ b. is_equals b ≡ false) (λ b e. (or_parts (is_semicolon b) (is_equals b) e).1) key all

key_without_semicolon : (key : List ℕ) → All (λ b. ends_key b ≡ false) key → All (λ b. is_semicolon b ≡ false) key
key_without_semicolon key all = All-weaker (λ b. ends_key b ≡ false) (λ b. is_semicolon b ≡ false) (λ b e. (or_parts (is_semicolon b) (is_equals b) e).0) key all

-- a tag is read back
pub tag_of-tag_text : (key value : List ℕ) → All (λ b. ends_key b ≡ false) key → tag_of (key ++ value_part value) ≡ (key, value)
tag_of-tag_text key [] all =
    (λ i. (before_first-behind is_equals key [] (key_without key all) refl i, value_in (after_first-behind is_equals key [] (key_without key all) refl i)))
    ∙ ap (λ v. (key, v)) value_in-nil
tag_of-tag_text key (b ∷ value) all =
    (λ i. (
      before_first-behind is_equals key (equals_sign ∷ value_text (b ∷ value)) (key_without key all) refl i,
      value_in (after_first-behind is_equals key (equals_sign ∷ value_text (b ∷ value)) (key_without key all) refl i),
    ))
    ∙ ap (λ v. (key, v)) (value_in-value_text (b ∷ value))

-- the bytes that a value's text has
module _ (P Q : ℕ → Type 0) (backslash : P 92) (colon : P 58) (small_s : P 115) (small_r : P 114) (small_n : P 110)
    (other : (b : ℕ) → Q b → (b == 59) ≡ false → (b == 32) ≡ false → (b == 13) ≡ false → (b == 10) ≡ false → P b) where
  pub All-byte_text : (b : ℕ) → Q b → All P (byte_spelling b)
  All-byte_text b q = at_semicolon (b == 59) refl where
    two : (c d : ℕ) → P c → P d → All P (c ∷ d ∷ [])
    two c d h k = All-cons P c (d ∷ []) h (All-cons P d [] k (All-nil P))

    at_lf : (t : Bool) → (b == 10) ≡ t → (b == 59) ≡ false → (b == 32) ≡ false → (b == 13) ≡ false → All P (cond t (92 ∷ 110 ∷ []) (b ∷ []))
    at_lf true e e1 e2 e3 = two 92 110 backslash small_n
    at_lf false e e1 e2 e3 = All-cons P b [] (other b q e1 e2 e3 e) (All-nil P)

    at_cr : (t : Bool) → (b == 13) ≡ t → (b == 59) ≡ false → (b == 32) ≡ false → All P (cond t (92 ∷ 114 ∷ []) (cond (b == 10) (92 ∷ 110 ∷ []) (b ∷ [])))
    at_cr true e e1 e2 = two 92 114 backslash small_r
    at_cr false e e1 e2 = at_lf (b == 10) refl e1 e2 e

    at_backslash : (t : Bool) → (b == 59) ≡ false → (b == 32) ≡ false → All P (cond t (92 ∷ 92 ∷ []) (cond (b == 13) (92 ∷ 114 ∷ []) (cond (b == 10) (92 ∷ 110 ∷ []) (b ∷ []))))
    at_backslash true e1 e2 = two 92 92 backslash backslash
    at_backslash false e1 e2 = at_cr (b == 13) refl e1 e2

    at_space : (t : Bool) → (b == 32) ≡ t → (b == 59) ≡ false
        → All P (cond t (92 ∷ 115 ∷ []) (cond (b == 92) (92 ∷ 92 ∷ []) (cond (b == 13) (92 ∷ 114 ∷ []) (cond (b == 10) (92 ∷ 110 ∷ []) (b ∷ [])))))
    at_space true e e1 = two 92 115 backslash small_s
    at_space false e e1 = at_backslash (b == 92) e1 e

    at_semicolon : (t : Bool) → (b == 59) ≡ t
        → All P (cond t (92 ∷ 58 ∷ []) (cond (b == 32) (92 ∷ 115 ∷ []) (cond (b == 92) (92 ∷ 92 ∷ []) (cond (b == 13) (92 ∷ 114 ∷ []) (cond (b == 10) (92 ∷ 110 ∷ []) (b ∷ []))))))
    at_semicolon true e = two 92 58 backslash colon
    at_semicolon false e = at_space (b == 32) refl e

  pub All-value_text : (value : List ℕ) → All Q value → All P (value_text value)
  All-value_text [] all = All-nil P
  All-value_text (b ∷ value) all = All-append P (byte_spelling b) (value_text value) (All-byte_text b (All-head Q b value all)) (All-value_text value (All-tail Q b value all))

  pub All-value_part : P 61 → (value : List ℕ) → All Q value → All P (value_part value)
  All-value_part sign [] all = All-nil P
  All-value_part sign (b ∷ value) all = All-cons P 61 (value_text (b ∷ value)) sign (All-value_text (b ∷ value) all)

-- a tag's text has no semicolon
text_whole : (tag : Tag) → IsKey tag.0 → All (λ b. is_semicolon b ≡ false) (tag_text tag)
text_whole tag key =
    All-append (λ b. is_semicolon b ≡ false) tag.0 (value_part tag.1) (key_without_semicolon tag.0 key.1)
    (All-value_part (λ b. is_semicolon b ≡ false) (λ _. Unit {0}) refl refl refl refl refl (λ b q e1 e2 e3 e4. e1) refl tag.1 (λ k d h. tt))

-- the text of some tags is cut into their texts
pub parts_of_text : (t : Tag) (ts : List Tag) → All (λ tag. IsKey tag.0) (t ∷ ts) → slice_split is_semicolon (tags_text (t ∷ ts)) ≡ map tag_text (t ∷ ts)
parts_of_text t [] all = slice_split_none is_semicolon (tag_text t) (text_whole t (All-head (λ tag. IsKey tag.0) t [] all))
parts_of_text t (u ∷ ts) all =
    slice_split_at is_semicolon (tag_text t) semicolon (tags_text (u ∷ ts)) (text_whole t (All-head (λ tag. IsKey tag.0) t (u ∷ ts) all)) refl
    ∙ ap (λ l. tag_text t ∷ l) (parts_of_text u ts (All-tail (λ tag. IsKey tag.0) t (u ∷ ts) all))

-- each tag is read back, and has a key
tags_back : (ts : List Tag) → All (λ tag. IsKey tag.0) ts → filter has_key (map tag_of (map tag_text ts)) ≡ ts
tags_back [] all = refl
tags_back (t ∷ ts) all =
    let key = All-head (λ tag. IsKey tag.0) t ts all in
    let same = tag_of-tag_text t.0 t.1 key.1 in
    let some : has_key t ≡ true = some_key t.0 key.0 in
    let rest = tags_back ts (All-tail (λ tag. IsKey tag.0) t ts all) in
    (λ i. cond (has_key (same i)) (same i ∷ rest i) (rest i)) ∙ cond-true (has_key t) _ _ some
  where
    some_key : (key : List ℕ) → 0 < length key → not (length key == 0) ≡ true
    some_key key h = grind arith

tags_of-tags_text : (ts : List Tag) → All (λ tag. IsKey tag.0) ts → tags_of (tags_text ts) ≡ ts
tags_of-tags_text [] all = refl
tags_of-tags_text (t ∷ ts) all = ap (λ parts. filter has_key (map tag_of parts)) (parts_of_text t ts all) ∙ tags_back (t ∷ ts) all

-- tags with distinct_keys keys stay as they are
last_value-absent : (key value : List ℕ) (ts : List Tag) → AllByRecursion (λ y. same_bytes key y ≡ false) (map (λ t. t.0) ts) → last_value key value ts ≡ value
last_value-absent key value [] all = refl
last_value-absent key value (t ∷ ts) all = ap (λ b. last_value key (cond b t.1 value) ts) all.0 ∙ last_value-absent key value ts all.1

without-absent : (key : List ℕ) (ts : List Tag) → AllByRecursion (λ y. same_bytes key y ≡ false) (map (λ t. t.0) ts) → without key ts ≡ ts
without-absent key [] all = refl
without-absent key (t ∷ ts) all = ap (λ b. cond (not b) (t ∷ without key ts) (without key ts)) all.0 ∙ ap (λ l. t ∷ l) (without-absent key ts all.1)

pub tags_by_key-distinct : (ts : List Tag) → IsDistinct same_bytes (map (λ t. t.0) ts) → tags_by_key ts ≡ ts
unfolding IsDistinct
tags_by_key-distinct [] all = tags_by_key-nil
tags_by_key-distinct (t ∷ ts) all =
    tags_by_key-cons t ts
    ∙ (λ i. (t.0, last_value-absent t.0 t.1 ts all.0 i) ∷ without t.0 (tags_by_key-distinct ts all.1 i))
    ∙ ap (λ l. (t.0, t.1) ∷ l) (without-absent t.0 ts all.0)

pub tag_list-tags_text : (tags : List Tag) → CanStand tags → tag_list (tags_text tags) ≡ tags
unfolding tag_list
tag_list-tags_text tags stands = ap tags_by_key (tags_of-tags_text tags stands.1) ∙ tags_by_key-distinct tags stands.0

-- ---- texts that stand in a line

stays : (b : ℕ) → is_nul b ≡ false → (b == 59) ≡ false → (b == 32) ≡ false → (b == 13) ≡ false → (b == 10) ≡ false → ends_tag_data b ≡ false
stays b nul e1 e2 e3 e4 = or_from (is_nul b) _ nul (or_from (b == 13) _ e3 (or_from (b == 10) (b == 32) e4 e2))

pub value_in_line : (value : List ℕ) → All (λ b. is_nul b ≡ false) value → All (λ b. ends_tag_data b ≡ false) (value_text value)
value_in_line value all = All-value_text (λ b. ends_tag_data b ≡ false) (λ b. is_nul b ≡ false) refl refl refl refl refl stays value all

line_tag : (tag : Tag) → All (λ b. ends_tag_data b ≡ false) tag.0 → All (λ b. is_nul b ≡ false) tag.1 → All (λ b. ends_tag_data b ≡ false) (tag_text tag)
line_tag tag key value =
    All-append (λ b. ends_tag_data b ≡ false) tag.0 (value_part tag.1) key
    (All-value_part (λ b. ends_tag_data b ≡ false) (λ b. is_nul b ≡ false) refl refl refl refl refl stays refl tag.1 value)

pub text_in_line : (tags : List Tag) → CanStandInLine tags → All (λ b. ends_tag_data b ≡ false) (tags_text tags)
text_in_line [] all = All-nil (λ b. ends_tag_data b ≡ false)
text_in_line (t ∷ []) all = (let here = all 0 t (omega arith) in line_tag t here.0 here.1)
text_in_line (t ∷ u ∷ ts) all =
    (let here = all 0 t (omega arith) in
    All-append (λ b. ends_tag_data b ≡ false) (tag_text t) (semicolon ∷ tags_text (u ∷ ts)) (line_tag t here.0 here.1)
    (All-cons (λ b. ends_tag_data b ≡ false) semicolon (tags_text (u ∷ ts)) refl
    (text_in_line (u ∷ ts) (All-tail (λ tag. All (λ b. ends_tag_data b ≡ false) tag.0 × All (λ b. is_nul b ≡ false) tag.1) t (u ∷ ts) all))))
