-- What tag data says may stand as tag data.
use Rattle.std.proofs.Common.{◌≡◌, ℕ, ◌+◌, ◌<◌, Bool, true, false, not, cond, List, [], ◌∷◌, length, map, filter, drop, refl, sym, ap, subst, ◌∙◌, arith, ◌==◌}
use Rattle.std.specs.List.{All, AllByRecursion, IsDistinct, slice_split, onto_first, position_or_len}
use Rattle.std.proofs.lemmas.Bool.{or_from, or_parts}
use Rattle.std.proofs.lemmas.List.{get_or-take, length-take}
use Rattle.std.proofs.lemmas.List.Elements.{All-from_recursion, recursion_from_All, All-nil, All-cons, All-head, All-tail, All-filter, All-take, All-drop, All-weaker, filter_passes}
use Rattle.std.proofs.lemmas.List.Sums.{fails_before_first}
use Rattle.std.proofs.lemmas.Map.Made.{IsDistinct-keys_filter}
use Rattle.irc_tags.specs.TagList.{Tag, is_semicolon, is_equals, has_key, same_bytes, tags_by_key, tag_of, tags_of, tag_list, last_value}
use Rattle.irc_tags.specs.Standing.{ends_key, IsKey, CanStand, is_nul, ends_tag_data, CanStandInLine}
use Rattle.irc_tags.specs.Value.{backslash, escaped_byte, value_in}
use Rattle.irc_tags.proofs.ValueLemmas.{value_in-nil, value_in-plain, value_in-pair, value_in-last}
use Rattle.irc_tags.proofs.MergingLemmas.{without, tags_by_key-nil, tags_by_key-cons}

-- what is left without a key has other keys
other_keys : (key : List ℕ) (ts : List Tag) → AllByRecursion (λ y. same_bytes key y ≡ false) (map (λ t. t.0) (without key ts))
other_keys key [] = tt
other_keys key (t ∷ ts) = go (same_bytes key t.0) refl (other_keys key ts) where
  go : (b : Bool) → same_bytes key t.0 ≡ b → AllByRecursion (λ y. same_bytes key y ≡ false) (map (λ t. t.0) (without key ts))
      → AllByRecursion (λ y. same_bytes key y ≡ false) (map (λ t. t.0) (cond (not (same_bytes key t.0)) (t ∷ without key ts) (without key ts)))
  go true e rest = subst (λ b. AllByRecursion (λ y. same_bytes key y ≡ false) (map (λ t. t.0) (cond (not b) (t ∷ without key ts) (without key ts)))) (sym e) rest
  go false e rest = subst (λ b. AllByRecursion (λ y. same_bytes key y ≡ false) (map (λ t. t.0) (cond (not b) (t ∷ without key ts) (without key ts)))) (sym e) (e, rest)

merged_distinct : (ts : List Tag) → IsDistinct same_bytes (map (λ t. t.0) (tags_by_key ts))
unfolding IsDistinct
merged_distinct [] = subst (λ l. IsDistinct same_bytes (map (λ t. t.0) l)) (sym tags_by_key-nil) tt
merged_distinct (t ∷ ts) =
    subst (λ l. IsDistinct same_bytes (map (λ t. t.0) l)) (sym (tags_by_key-cons t ts))
    (other_keys t.0 (tags_by_key ts), IsDistinct-keys_filter same_bytes (λ e. not (same_bytes t.0 e.0)) (tags_by_key ts) (merged_distinct ts))

-- the keys of the tags_by_key list are keys of the list
merged_keys : (P : List ℕ → Type 0) (ts : List Tag) → All (λ t. P t.0) ts → All (λ t. P t.0) (tags_by_key ts)
merged_keys P [] all = subst (λ l. All (λ t. P t.0) l) (sym tags_by_key-nil) (All-nil (λ t. P t.0))
merged_keys P (t ∷ ts) all =
    subst (λ l. All (λ t. P t.0) l) (sym (tags_by_key-cons t ts))
    (All-cons (λ t. P t.0) (t.0, last_value t.0 t.1 ts) (without t.0 (tags_by_key ts)) (All-head (λ t. P t.0) t ts all)
    (All-filter (λ e. not (same_bytes t.0 e.0)) (λ t. P t.0) (tags_by_key ts) (merged_keys P ts (All-tail (λ t. P t.0) t ts all))))

onto_first_all : (P : ℕ → Type 0) (x : ℕ) (parts : List (List ℕ)) → P x → AllByRecursion (AllByRecursion P) parts → AllByRecursion (AllByRecursion P) (onto_first x parts)
onto_first_all P x [] h all = ((h, tt), tt)
onto_first_all P x (part ∷ parts) h all = ((h, all.0), all.1)

-- no part has an element that passes
pub parts_fail : (p : ℕ → Bool) (xs : List ℕ) → AllByRecursion (AllByRecursion (λ b. p b ≡ false)) (slice_split p xs)
parts_fail p [] = (tt, tt)
parts_fail p (x ∷ xs) = go (p x) refl (parts_fail p xs) where
  go : (b : Bool) → p x ≡ b → AllByRecursion (AllByRecursion (λ b. p b ≡ false)) (slice_split p xs)
      → AllByRecursion (AllByRecursion (λ b. p b ≡ false)) (cond (p x) ([] ∷ slice_split p xs) (onto_first x (slice_split p xs)))
  go true e rest = subst (λ b. AllByRecursion (AllByRecursion (λ b. p b ≡ false)) (cond b ([] ∷ slice_split p xs) (onto_first x (slice_split p xs)))) (sym e) (tt, rest)
  go false e rest = subst (λ b. AllByRecursion (AllByRecursion (λ b. p b ≡ false)) (cond b ([] ∷ slice_split p xs) (onto_first x (slice_split p xs)))) (sym e) (onto_first_all (λ b. p b ≡ false) x (slice_split p xs) e rest)

-- what stands before the first `=` of a part ends no key
key_bytes : (part : List ℕ) → All (λ b. is_semicolon b ≡ false) part → All (λ b. ends_key b ≡ false) (tag_of part).0
key_bytes part all k d h =
    let short = length-take (position_or_len is_equals part) part in
    let within : k < position_or_len is_equals part = omega arith in
    let inside : k < length part = omega arith in
    let same = get_or-take (position_or_len is_equals part) part k d within in
    or_from _ _ (ap is_semicolon same ∙ all k d inside) (ap is_equals same ∙ fails_before_first is_equals part k d within)

all_keys : (parts : List (List ℕ)) → AllByRecursion (AllByRecursion (λ b. is_semicolon b ≡ false)) parts → All (λ t. All (λ b. ends_key b ≡ false) t.0) (map tag_of parts)
all_keys [] all = All-nil (λ (t : Tag). All (λ b. ends_key b ≡ false) t.0)
all_keys (part ∷ parts) all =
    All-cons (λ (t : Tag). All (λ b. ends_key b ≡ false) t.0) (tag_of part) (map tag_of parts)
    (key_bytes part (All-from_recursion (λ b. is_semicolon b ≡ false) part all.0)) (all_keys parts all.1)

some_bytes : (key : List ℕ) → not (length key == 0) ≡ true → 0 < length key
some_bytes key e = grind arith

tags_of_keys : (bytes : List ℕ) → All (λ t. IsKey t.0) (tags_of bytes)
tags_of_keys bytes k d h = (
  some_bytes _ (filter_passes has_key (map tag_of (slice_split is_semicolon bytes)) k d h),
  All-filter has_key (λ t. All (λ b. ends_key b ≡ false) t.0) (map tag_of (slice_split is_semicolon bytes)) (all_keys (slice_split is_semicolon bytes) (parts_fail is_semicolon bytes)) k d h,
)

pub CanStand-tag_list : (bytes : List ℕ) → CanStand (tag_list bytes)
unfolding tag_list
CanStand-tag_list bytes = (merged_distinct (tags_of bytes), merged_keys IsKey (tags_of bytes) (tags_of_keys bytes))

-- tags that are left out leave the others as they stand
pub CanStand-filter : (test : List ℕ → Bool) (ts : List Tag) → CanStand ts → CanStand (filter (λ t. test t.0) ts)
CanStand-filter test ts stands = (
  IsDistinct-keys_filter same_bytes (λ t. test t.0) ts stands.0,
  All-filter (λ t. test t.0) (λ t. IsKey t.0) ts stands.1,
)

-- the elements of the parts are elements of the list
pub parts_all : (P : ℕ → Type 0) (p : ℕ → Bool) (xs : List ℕ) → AllByRecursion P xs → AllByRecursion (AllByRecursion P) (slice_split p xs)
parts_all P p [] all = (tt, tt)
parts_all P p (x ∷ xs) all = go (p x) (parts_all P p xs all.1) where
  go : (b : Bool) → AllByRecursion (AllByRecursion P) (slice_split p xs)
      → AllByRecursion (AllByRecursion P) (cond b ([] ∷ slice_split p xs) (onto_first x (slice_split p xs)))
  go true rest = (tt, rest)
  go false rest = onto_first_all P x (slice_split p xs) all.0 rest

-- no byte_spelling spells a NUL
unescaped : (b : ℕ) → is_nul b ≡ false → is_nul (escaped_byte b) ≡ false
unescaped b e = at_colon (b == 58) where
  at_n : (t : Bool) → is_nul (cond t 10 b) ≡ false
  at_n true = refl
  at_n false = e

  at_r : (t : Bool) → is_nul (cond t 13 (cond (b == 110) 10 b)) ≡ false
  at_r true = refl
  at_r false = at_n (b == 110)

  at_s : (t : Bool) → is_nul (cond t 32 (cond (b == 114) 13 (cond (b == 110) 10 b))) ≡ false
  at_s true = refl
  at_s false = at_r (b == 114)

  at_colon : (t : Bool) → is_nul (cond t 59 (cond (b == 115) 32 (cond (b == 114) 13 (cond (b == 110) 10 b)))) ≡ false
  at_colon true = refl
  at_colon false = at_s (b == 115)

abbrev HasNoNul : List ℕ → Type 0
HasNoNul bytes = AllByRecursion (λ b. is_nul b ≡ false) bytes

value_without_nul : (bytes : List ℕ) → HasNoNul bytes → HasNoNul (value_in bytes)
value_without_nul [] all = subst HasNoNul (sym value_in-nil) tt
value_without_nul (b ∷ []) all = go (b == backslash) refl where
  go : (t : Bool) → (b == backslash) ≡ t → HasNoNul (value_in (b ∷ []))
  go true e = subst HasNoNul (sym (value_in-last b e)) tt
  go false e = subst HasNoNul (sym (value_in-plain b [] e ∙ ap (λ l. b ∷ l) value_in-nil)) all
value_without_nul (b ∷ next ∷ bytes) all = go (b == backslash) refl (value_without_nul bytes all.1.1) (value_without_nul (next ∷ bytes) all.1) where
  go : (t : Bool) → (b == backslash) ≡ t → HasNoNul (value_in bytes) → HasNoNul (value_in (next ∷ bytes)) → HasNoNul (value_in (b ∷ next ∷ bytes))
  go true e behind_pair behind = subst HasNoNul (sym (value_in-pair b next bytes e)) (unescaped next all.1.0, behind_pair)
  go false e behind_pair behind = subst HasNoNul (sym (value_in-plain b (next ∷ bytes) e)) (all.0, behind)

-- a tag that may stand in a line
abbrev StandsInLine : Tag → Type 0
StandsInLine tag = All (λ b. ends_tag_data b ≡ false) tag.0 × All (λ b. is_nul b ≡ false) tag.1

tag_in_line : (part : List ℕ) → All (λ b. ends_tag_data b ≡ false) part → StandsInLine (tag_of part)
tag_in_line part all =
    let n = position_or_len is_equals part in
    let rest = All-drop (λ b. is_nul b ≡ false) (n + 1) part (All-weaker (λ b. ends_tag_data b ≡ false) (λ b. is_nul b ≡ false) (λ b e. (or_parts (is_nul b) _ e).0) part all) in (
      All-take (λ b. ends_tag_data b ≡ false) n part all,
      All-from_recursion (λ b. is_nul b ≡ false) (value_in (drop (n + 1) part)) (value_without_nul (drop (n + 1) part) (recursion_from_All (λ b. is_nul b ≡ false) (drop (n + 1) part) rest)),
    )

tags_in_line : (parts : List (List ℕ)) → AllByRecursion (AllByRecursion (λ b. ends_tag_data b ≡ false)) parts → All StandsInLine (map tag_of parts)
tags_in_line [] all = All-nil StandsInLine
tags_in_line (part ∷ parts) all =
    All-cons StandsInLine (tag_of part) (map tag_of parts) (tag_in_line part (All-from_recursion (λ b. ends_tag_data b ≡ false) part all.0)) (tags_in_line parts all.1)

last_value_of : (Q : List ℕ → Type 0) (key value : List ℕ) (ts : List Tag) → Q value → All (λ t. Q t.1) ts → Q (last_value key value ts)
last_value_of Q key value [] h all = h
last_value_of Q key value (t ∷ ts) h all =
    last_value_of Q key (cond (same_bytes key t.0) t.1 value) ts (one_of (same_bytes key t.0)) (All-tail (λ t. Q t.1) t ts all) where
      one_of : (b : Bool) → Q (cond b t.1 value)
      one_of true = All-head (λ t. Q t.1) t ts all
      one_of false = h

merged_in_line : (ts : List Tag) → All StandsInLine ts → All StandsInLine (tags_by_key ts)
merged_in_line [] all = subst (λ l. All StandsInLine l) (sym tags_by_key-nil) (All-nil StandsInLine)
merged_in_line (t ∷ ts) all =
    let here = All-head StandsInLine t ts all in
    let rest = All-tail StandsInLine t ts all in
    subst (λ l. All StandsInLine l) (sym (tags_by_key-cons t ts))
    (All-cons StandsInLine (t.0, last_value t.0 t.1 ts) (without t.0 (tags_by_key ts))
    (here.0, last_value_of (λ v. All (λ b. is_nul b ≡ false) v) t.0 t.1 ts here.1 (λ k d h. (rest k d h).1))
    (All-filter (λ e. not (same_bytes t.0 e.0)) StandsInLine (tags_by_key ts) (merged_in_line ts rest)))

pub CanStandInLine-tag_list : (bytes : List ℕ) → All (λ b. ends_tag_data b ≡ false) bytes → CanStandInLine (tag_list bytes)
unfolding tag_list
CanStandInLine-tag_list bytes all =
    merged_in_line (tags_of bytes)
    (All-filter has_key StandsInLine (map tag_of (slice_split is_semicolon bytes))
    (tags_in_line (slice_split is_semicolon bytes) (parts_all (λ b. ends_tag_data b ≡ false) is_semicolon bytes (recursion_from_All (λ b. ends_tag_data b ≡ false) bytes all))))
