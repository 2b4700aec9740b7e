-- What is written of tag data is no longer than the data.
use Rattle.std.proofs.Common.{◌≡◌, ℕ, ◌+◌, ◌-◌, ◌≤◌, Bool, true, false, cond, List, [], ◌∷◌, ◌++◌, length, map, filter, take, drop, get_or, refl, ap, ◌∙◌, arith, length-append, length-take, length-drop, inl, inr, ◌==◌}
use Rattle.std.specs.List.{All, AllByRecursion, slice_split, onto_first, position_or_len}
use Rattle.std.proofs.lemmas.Bool.{or_parts, cases_lt}
use Rattle.std.proofs.lemmas.List.{drop_all}
use Rattle.std.proofs.lemmas.List.Elements.{All-nil, All-cons, All-head, All-tail, All-drop, All-from_recursion, recursion_from_All}
use Rattle.std.proofs.lemmas.Slice.Eq.{bytes_eq-Decides}
use Rattle.irc_tags.specs.Value.{escaped_byte, byte_spelling, value_text, value_in}
use Rattle.irc_tags.specs.TagList.{Tag, is_semicolon, is_equals, has_key, same_bytes, tag_of, tag_list}
use Rattle.irc_tags.specs.Text.{value_part, tag_text, tags_text}
use Rattle.irc_tags.specs.Standing.{ends_tag_data, is_nul}
use Rattle.irc_tags.specs.Entries.{with_value, with_tags}
use Rattle.irc_tags.proofs.ValueLemmas.{value_in-nil, value_in-plain, value_in-pair, value_in-last}
use Rattle.irc_tags.proofs.MergingLemmas.{with_tags-all}
use Rattle.irc_tags.proofs.StandingLemmas.{parts_all, parts_fail}

-- a byte that is written as it is, unless it is a backslash
abbrev is_plain : ℕ → Type 0
is_plain b = ((b == 59) ≡ false) × ((b == 32) ≡ false) × ((b == 13) ≡ false) × ((b == 10) ≡ false)

escape_short : (b : ℕ) → length (byte_spelling b) ≤ 2
escape_short b = at_semicolon (b == 59) where
  at_lf : (t : Bool) → length (cond t (92 ∷ 110 ∷ []) (b ∷ [])) ≤ 2
  at_lf true = omega arith
  at_lf false = omega arith

  at_cr : (t : Bool) → length (cond t (92 ∷ 114 ∷ []) (cond (b == 10) (92 ∷ 110 ∷ []) (b ∷ []))) ≤ 2
  at_cr true = omega arith
  at_cr false = at_lf (b == 10)

  at_backslash : (t : Bool) → length (cond t (92 ∷ 92 ∷ []) (cond (b == 13) (92 ∷ 114 ∷ []) (cond (b == 10) (92 ∷ 110 ∷ []) (b ∷ [])))) ≤ 2
  at_backslash true = omega arith
  at_backslash false = at_cr (b == 13)

  at_space : (t : Bool) → length (cond t (92 ∷ 115 ∷ []) (cond (b == 92) (92 ∷ 92 ∷ []) (cond (b == 13) (92 ∷ 114 ∷ []) (cond (b == 10) (92 ∷ 110 ∷ []) (b ∷ []))))) ≤ 2
  at_space true = omega arith
  at_space false = at_backslash (b == 92)

  at_semicolon : (t : Bool) → length (cond t (92 ∷ 58 ∷ []) (cond (b == 32) (92 ∷ 115 ∷ []) (cond (b == 92) (92 ∷ 92 ∷ []) (cond (b == 13) (92 ∷ 114 ∷ []) (cond (b == 10) (92 ∷ 110 ∷ []) (b ∷ [])))))) ≤ 2
  at_semicolon true = omega arith
  at_semicolon false = at_space (b == 32)

-- a value's text is at most twice as long
pub length-value_text : (value : List ℕ) → length (value_text value) ≤ length value + length value
length-value_text [] = omega arith
length-value_text (b ∷ value) =
    let here = escape_short b in
    let rest = length-value_text value in
    omega (arith, length-append (byte_spelling b) (value_text value))

escape_plain : (b : ℕ) → is_plain b → (b == 92) ≡ false → byte_spelling b ≡ b ∷ []
escape_plain b plain other =
    (λ i. cond (plain.0 i) (92 ∷ 58 ∷ []) (cond (plain.1 i) (92 ∷ 115 ∷ []) (cond (other i) (92 ∷ 92 ∷ []) (cond (plain.2 i) (92 ∷ 114 ∷ []) (cond (plain.3 i) (92 ∷ 110 ∷ []) (b ∷ []))))))

-- one byte more
plain_length : (b : ℕ) (bytes : List ℕ) → is_plain b → (b == 92) ≡ false → length (value_text (value_in bytes)) ≤ length bytes → length (value_text (value_in (b ∷ bytes))) ≤ length (b ∷ bytes)
plain_length b bytes plain e rest =
    let value : value_text (value_in (b ∷ bytes)) ≡ (b ∷ []) ++ value_text (value_in bytes) =
    ap value_text (value_in-plain b bytes e) ∙ ap (λ l. l ++ value_text (value_in bytes)) (escape_plain b plain e) in
    omega (arith, ap length value)

value_length : (bytes : List ℕ) → All is_plain bytes → length (value_text (value_in bytes)) ≤ length bytes
value_length [] all = omega (arith, ap (λ l. length (value_text l)) value_in-nil)
value_length (b ∷ []) all = go (b == 92) refl where
  go : (t : Bool) → (b == 92) ≡ t → length (value_text (value_in (b ∷ []))) ≤ 1
  go true e = omega (arith, ap (λ l. length (value_text l)) (value_in-last b e))
  go false e = plain_length b [] (All-head is_plain b [] all) e (omega (arith, ap (λ l. length (value_text l)) value_in-nil))
value_length (b ∷ next ∷ bytes) all =
    let tail = All-tail is_plain b (next ∷ bytes) all in
    go (b == 92) refl (value_length bytes (All-tail is_plain next bytes tail)) (value_length (next ∷ bytes) tail) where
      go : (t : Bool) → (b == 92) ≡ t → length (value_text (value_in bytes)) ≤ length bytes → length (value_text (value_in (next ∷ bytes))) ≤ length (next ∷ bytes)
          → length (value_text (value_in (b ∷ next ∷ bytes))) ≤ length (b ∷ next ∷ bytes)
      go true e behind_pair behind =
          let short = escape_short (escaped_byte next) in
          let sum = length-append (byte_spelling (escaped_byte next)) (value_text (value_in bytes)) in
          omega (arith, ap (λ l. length (value_text l)) (value_in-pair b next bytes e))
      go false e behind_pair behind = plain_length b (next ∷ bytes) (All-head is_plain b (next ∷ bytes) all) e behind

value_part_length : (value : List ℕ) → length (value_part value) ≤ length (value_text value) + 1
value_part_length [] = omega arith
value_part_length (b ∷ value) = omega arith

-- a tag's text is no longer than the bytes that it was read from
tag_length : (part : List ℕ) → All is_plain part → length (tag_text (tag_of part)) ≤ length part
tag_length part all =
    let n = position_or_len is_equals part in
    let key = length-take n part in
    let sum = length-append (take n part) (value_part (value_in (drop (n + 1) part))) in
    elim (cases_lt n (length part)) [
      | inl within ↦ (
          let rest = value_length (drop (n + 1) part) (All-drop is_plain (n + 1) part all) in
          let value = value_part_length (value_in (drop (n + 1) part)) in
          let left = length-drop (n + 1) part in
          omega arith
          )
      | inr past ↦ (
          let none : length (value_part (value_in (drop (n + 1) part))) ≡ 0 =
          ap (λ l. length (value_part (value_in l))) (drop_all (n + 1) part (omega arith)) ∙ ap (λ l. length (value_part l)) value_in-nil in
          omega arith
          )
    ]

-- the length of the tags' texts with a byte behind each
abbrev total : List Tag → ℕ
total [] = 0
total (t ∷ ts) = length (tag_text t) + 1 + total ts

insert_total : (ts : List Tag) (k v : List ℕ) → total (with_value ts k v) ≤ total ts + (length (tag_text (k, v)) + 1)
insert_total [] k v = omega arith
insert_total (t ∷ ts) k v = go (same_bytes k t.0) refl (insert_total ts k v) where
  go : (b : Bool) → same_bytes k t.0 ≡ b → total (with_value ts k v) ≤ total ts + (length (tag_text (k, v)) + 1)
      → total (cond b ((t.0, v) ∷ ts) (t ∷ with_value ts k v)) ≤ total (t ∷ ts) + (length (tag_text (k, v)) + 1)
  go true e rest =
      let same : length (tag_text (k, v)) ≡ length (tag_text (t.0, v)) = ap (λ key. length (tag_text (key, v))) ((bytes_eq-Decides k t.0).0 e) in
      omega arith
  go false e rest = omega arith

-- the length of the parts with a byte behind each
abbrev total_of : List (List ℕ) → ℕ
total_of [] = 0
total_of (part ∷ parts) = length part + 1 + total_of parts

with_tags_total : (ts : List Tag) (parts : List (List ℕ)) → All (All is_plain) parts → total (with_tags ts (map tag_of parts)) ≤ total ts + total_of parts
with_tags_total ts [] all = omega arith
with_tags_total ts (part ∷ parts) all = go (has_key (tag_of part)) (with_tags_total ts parts (All-tail (All is_plain) part parts all)) (with_tags_total (with_value ts (tag_of part).0 (tag_of part).1) parts (All-tail (All is_plain) part parts all)) where
  go : (b : Bool) → total (with_tags ts (map tag_of parts)) ≤ total ts + total_of parts
      → total (with_tags (with_value ts (tag_of part).0 (tag_of part).1) (map tag_of parts)) ≤ total (with_value ts (tag_of part).0 (tag_of part).1) + total_of parts
      → total (with_tags (cond b (with_value ts (tag_of part).0 (tag_of part).1) ts) (map tag_of parts)) ≤ total ts + total_of (part ∷ parts)
  go true skipped put_in =
      let one = insert_total ts (tag_of part).0 (tag_of part).1 in
      let short = tag_length part (All-head (All is_plain) part parts all) in
      omega arith
  go false skipped put_in = omega arith

text_total : (ts : List Tag) → length (tags_text ts) ≤ total ts - 1
text_total [] = omega arith
text_total (t ∷ []) = omega arith
text_total (t ∷ u ∷ ts) =
    let rest = text_total (u ∷ ts) in
    let sum = length-append (tag_text t) (59 ∷ tags_text (u ∷ ts)) in
    omega arith

parts_total : (bytes : List ℕ) → total_of (slice_split is_semicolon bytes) ≡ length bytes + 1
parts_total [] = omega arith
parts_total (b ∷ bytes) = go (is_semicolon b) (slice_split is_semicolon bytes) (parts_total bytes) where
  go : (t : Bool) (parts : List (List ℕ)) → total_of parts ≡ length bytes + 1 → total_of (cond t ([] ∷ parts) (onto_first b parts)) ≡ length (b ∷ bytes) + 1
  go true parts e = omega arith
  go false [] e = omega arith
  go false (part ∷ parts) e = omega arith

-- the parts of the tag data of a line have plain bytes alone
plain_parts : (parts : List (List ℕ)) → AllByRecursion (AllByRecursion (λ b. is_semicolon b ≡ false)) parts
    → AllByRecursion (AllByRecursion (λ b. ends_tag_data b ≡ false)) parts → All (All is_plain) parts
plain_parts [] whole line = All-nil (All is_plain)
plain_parts (part ∷ parts) whole line =
    let here = All-from_recursion (λ b. is_semicolon b ≡ false) part whole.0 in
    let fits = All-from_recursion (λ b. ends_tag_data b ≡ false) part line.0 in
    let plain : All is_plain part = λ k d h. (
    let other = (or_parts (is_nul (get_or part k d)) _ (fits k d h)).1 in
    let after_cr = (or_parts (get_or part k d == 13) _ other).1 in
    let last = or_parts (get_or part k d == 10) (get_or part k d == 32) after_cr in
    (here k d h, last.1, (or_parts (get_or part k d == 13) _ other).0, last.0)) in
    All-cons (All is_plain) part parts plain (plain_parts parts whole.1 line.1)

-- some of the tags have no more
kept_total : (test : List ℕ → Bool) (ts : List Tag) → total (filter (λ t. test t.0) ts) ≤ total ts
kept_total test [] = omega arith
kept_total test (t ∷ ts) = go (test t.0) (kept_total test ts) where
  go : (b : Bool) → total (filter (λ t. test t.0) ts) ≤ total ts → total (cond b (t ∷ filter (λ t. test t.0) ts) (filter (λ t. test t.0) ts)) ≤ total (t ∷ ts)
  go true rest = omega arith
  go false rest = omega arith

tags_total : (bytes : List ℕ) → All (λ b. ends_tag_data b ≡ false) bytes → total (tag_list bytes) ≤ length bytes + 1
tags_total bytes all =
    let parts = slice_split is_semicolon bytes in
    let plain = plain_parts parts (parts_fail is_semicolon bytes) (parts_all (λ b. ends_tag_data b ≡ false) is_semicolon bytes (recursion_from_All (λ b. ends_tag_data b ≡ false) bytes all)) in
    let put_in = with_tags_total [] parts plain in
    let size = parts_total bytes in
    let same : total (with_tags [] (map tag_of parts)) ≡ total (tag_list bytes) = ap total (with_tags-all bytes) in
    omega arith

pub text_is_no_longer : (bytes : List ℕ) → All (λ b. ends_tag_data b ≡ false) bytes → length (tags_text (tag_list bytes)) ≤ length bytes
text_is_no_longer bytes all =
    let size = tags_total bytes all in
    let text = text_total (tag_list bytes) in
    omega arith

pub kept_text_is_no_longer : (test : List ℕ → Bool) (bytes : List ℕ) → All (λ b. ends_tag_data b ≡ false) bytes
    → length (tags_text (filter (λ t. test t.0) (tag_list bytes))) ≤ length bytes
kept_text_is_no_longer test bytes all =
    let size = tags_total bytes all in
    let kept = kept_total test (tag_list bytes) in
    let text = text_total (filter (λ t. test t.0) (tag_list bytes)) in
    omega arith
