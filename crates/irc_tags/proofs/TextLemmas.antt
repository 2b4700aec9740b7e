-- Texts of tags, one after another.
use Rattle.std.proofs.Common.{◌≡◌, ℕ, ◌+◌, ◌<◌, Bool, true, false, List, [], ◌∷◌, ◌++◌, Option, Some, length, take, drop, filter, get_or, slice_get, refl, sym, ap, subst, ◌∙◌, append_assoc, append-nil, length-append, arith}
use Rattle.std.proofs.lemmas.Bool.{cond-true, cond-false}
use Rattle.byte_text.specs.Writes.{AppendsPrefix}
use Rattle.std.specs.Io.KnownBytes.{Appends}
use Rattle.std.proofs.KnownBytes.{Appends-trans}
use Rattle.byte_text.proofs.CallerLemmas.{prefix_same, prefix_of_first, prefix_of_second}
use Rattle.std.proofs.lemmas.List.Elements.{filter-append}
use Rattle.std.proofs.lemmas.List.{take-append-drop, take_more, length-take-le}
use Rattle.std.proofs.lemmas.Option.{slice_get_within, slice_get-get_or, get_or_from_slice_get}
use Rattle.std.specs.Prelude.{◌==◌}
use Rattle.irc_tags.specs.Value.{semicolon, value_text}
use Rattle.irc_tags.specs.TagList.{Tag, equals_sign}
use Rattle.irc_tags.specs.Text.{value_part, tag_text, separator, tags_text}

-- what stands behind a key where the value isn't empty
pub some_value : (value : List ℕ) → (length value == 0) ≡ false → (equals_sign ∷ []) ++ value_text value ≡ value_part value
some_value [] e = cc
some_value (b ∷ value) e = refl

-- the text of one more tag
pub tags_text-push : (tags : List Tag) (tag : Tag) → tags_text (tags ++ tag ∷ []) ≡ tags_text tags ++ (separator (length tags) ++ tag_text tag)
tags_text-push [] tag = refl
tags_text-push (t ∷ []) tag = refl
tags_text-push (t ∷ u ∷ tags) tag =
    ap (λ l. tag_text t ++ semicolon ∷ l) (tags_text-push (u ∷ tags) tag)
    ∙ sym (append_assoc (tag_text t) (semicolon ∷ tags_text (u ∷ tags)) (semicolon ∷ tag_text tag))

-- the tags up to an index, and the one at it
take_one : (tags : List Tag) (i : ℕ) (tag : Tag) → slice_get tags i ≡ Some tag → take (i + 1) tags ≡ take i tags ++ tag ∷ []
take_one tags i tag e =
    take_more tags i tag (slice_get_within tags i tag e) ∙ ap (λ t. take i tags ++ t ∷ []) (get_or_from_slice_get tags i tag tag e)

-- the text of the tags up to an index and the one at it
pub tags_text-more : (tags : List Tag) (i : ℕ) (tag : Tag) → slice_get tags i ≡ Some tag
    → tags_text (take (i + 1) tags) ≡ tags_text (take i tags) ++ (separator i ++ tag_text tag)
tags_text-more tags i tag e =
    let within = slice_get_within tags i tag e in
    ap tags_text (take_one tags i tag e) ∙ tags_text-push (take i tags) tag
    ∙ ap (λ n. tags_text (take i tags) ++ (separator n ++ tag_text tag)) (length-take-le i tags (omega arith))

-- the first tags' text stands first
pub tags_text-prefix : (xs ys : List Tag) → (rest : List ℕ) × (tags_text (xs ++ ys) ≡ tags_text xs ++ rest)
tags_text-prefix [] ys = (tags_text ys, refl)
tags_text-prefix (x ∷ []) [] = ([], sym (append-nil (tag_text x)))
tags_text-prefix (x ∷ []) (y ∷ ys) = (semicolon ∷ tags_text (y ∷ ys), refl)
tags_text-prefix (x ∷ z ∷ xs) ys = go (tags_text-prefix (z ∷ xs) ys) where
  go : (rest : List ℕ) × (tags_text ((z ∷ xs) ++ ys) ≡ tags_text (z ∷ xs) ++ rest) → (rest : List ℕ) × (tags_text ((x ∷ z ∷ xs) ++ ys) ≡ tags_text (x ∷ z ∷ xs) ++ rest)
  go (rest, e) = (rest, ap (λ l. tag_text x ++ semicolon ∷ l) e ∙ sym (append_assoc (tag_text x) (semicolon ∷ tags_text (z ∷ xs)) rest))

-- a prefix of the first tags' text is one of the whole
pub prefix_of_all : (a b : Option (List ℕ)) (tags : List Tag) (n : ℕ) → AppendsPrefix a b (tags_text (take n tags)) → AppendsPrefix a b (tags_text tags)
prefix_of_all a b tags n p =
    let split = tags_text-prefix (take n tags) (drop n tags) in
    prefix_same a b _ _ (sym split.1 ∙ ap tags_text (take-append-drop n tags)) (prefix_of_first a b (tags_text (take n tags)) split.0 p)

module _ (old : Option (List ℕ)) (tags : List Tag) (i : ℕ) where
  -- a tag and what stands before it are written behind the tags up to it
  pub Appends-more : (a b new : Option (List ℕ)) (tag : Tag) → slice_get tags i ≡ Some tag → Appends old a (tags_text (take i tags))
      → Appends a b (separator i) → Appends b new (tag_text tag) → Appends old new (tags_text (take (i + 1) tags))
  Appends-more a b new tag at before between text =
      subst (λ l. Appends old new l) (sym (tags_text-more tags i tag at))
      (Appends-trans old a new _ _ before (Appends-trans a b new _ _ between text))

  -- a prefix of what stands before a tag
  pub prefix_of_separator : (a new : Option (List ℕ)) → i < length tags → Appends old a (tags_text (take i tags))
      → AppendsPrefix a new (separator i) → AppendsPrefix old new (tags_text tags)
  prefix_of_separator a new within before between =
      let none : Tag = ([], []) in
      prefix_of_all old new tags (i + 1)
      (prefix_same old new _ _ (sym (tags_text-more tags i (get_or tags i none) (slice_get-get_or tags i none within)))
      (prefix_of_second old a new _ _ before (prefix_of_first a new (separator i) (tag_text (get_or tags i none)) between)))

  -- a prefix of a tag
  pub prefix_of_tag : (a b new : Option (List ℕ)) (tag : Tag) → slice_get tags i ≡ Some tag → Appends old a (tags_text (take i tags))
      → Appends a b (separator i) → AppendsPrefix b new (tag_text tag) → AppendsPrefix old new (tags_text tags)
  prefix_of_tag a b new tag at before between text =
      prefix_of_all old new tags (i + 1)
      (prefix_same old new _ _ (sym (tags_text-more tags i tag at))
      (prefix_of_second old a new _ _ before (prefix_of_second a b new _ _ between text)))

-- ---- the tags that pass a test

module _ (test : Tag → Bool) (tags : List Tag) where
  -- those of the tags up to an index
  abbrev kept : ℕ → List Tag
  kept n = filter test (take n tags)

  -- a prefix of their text is one of the whole
  prefix_of_kept : (a b : Option (List ℕ)) (n : ℕ) → AppendsPrefix a b (tags_text (kept n)) → AppendsPrefix a b (tags_text (filter test tags))
  prefix_of_kept a b n p =
      let split = tags_text-prefix (kept n) (filter test (drop n tags)) in
      prefix_same a b _ _ (sym split.1 ∙ ap tags_text (sym (filter-append test (take n tags) (drop n tags)) ∙ ap (filter test) (take-append-drop n tags)))
      (prefix_of_first a b (tags_text (kept n)) split.0 p)

  module _ (i : ℕ) (tag : Tag) (at : slice_get tags i ≡ Some tag) where
    one_more : kept (i + 1) ≡ kept i ++ filter test (tag ∷ [])
    one_more = ap (filter test) (take_one tags i tag at) ∙ filter-append test (take i tags) (tag ∷ [])

    pub kept-skipped : test tag ≡ false → kept (i + 1) ≡ kept i
    kept-skipped fails = one_more ∙ ap (λ l. kept i ++ l) (cond-false (test tag) _ _ fails) ∙ append-nil (kept i)

    module _ (passes : test tag ≡ true) (old a : Option (List ℕ)) (count : ℕ) (so_many : length (kept i) ≡ count) (before : Appends old a (tags_text (kept i))) where
      kept-one : kept (i + 1) ≡ kept i ++ tag ∷ []
      kept-one = one_more ∙ ap (λ l. kept i ++ l) (cond-true (test tag) _ _ passes)

      text_more : tags_text (kept (i + 1)) ≡ tags_text (kept i) ++ (separator count ++ tag_text tag)
      text_more =
          ap tags_text kept-one ∙ tags_text-push (kept i) tag ∙ ap (λ n. tags_text (kept i) ++ (separator n ++ tag_text tag)) so_many

      pub kept-separator_failed : (new : Option (List ℕ)) → AppendsPrefix a new (separator count) → AppendsPrefix old new (tags_text (filter test tags))
      kept-separator_failed new between =
          prefix_of_kept old new (i + 1)
          (prefix_same old new _ _ (sym text_more) (prefix_of_second old a new _ _ before (prefix_of_first a new (separator count) (tag_text tag) between)))

      pub kept-tag_failed : (b new : Option (List ℕ)) → Appends a b (separator count) → AppendsPrefix b new (tag_text tag) → AppendsPrefix old new (tags_text (filter test tags))
      kept-tag_failed b new between text =
          prefix_of_kept old new (i + 1)
          (prefix_same old new _ _ (sym text_more) (prefix_of_second old a new _ _ before (prefix_of_second a b new _ _ between text)))

      pub kept-written : (b new : Option (List ℕ)) → Appends a b (separator count) → Appends b new (tag_text tag)
          → Appends old new (tags_text (kept (i + 1))) × (length (kept (i + 1)) ≡ count + 1)
      kept-written b new between text = (
        subst (λ l. Appends old new l) (sym text_more) (Appends-trans old a new _ _ before (Appends-trans a b new _ _ between text)),
        ap length kept-one ∙ omega (arith, length-append (kept i) (tag ∷ []), so_many),
      )
