-- Tag data that has client-only tags alone, as they are written.
use Rattle.std.proofs.Common.{◌≡◌, ℕ, ◌+◌, ◌<◌, ◌≤◌, Bool, true, false, not, cond, ◌&&◌, List, [], ◌∷◌, ◌++◌, Option, None, Some, length, map, filter, take, drop, get_or, position, refl, sym, ap, subst, ◌∙◌, append-nil, length-take, arith, ◌==◌, inl, inr}
use Rattle.std.specs.List.{All, AllByRecursion, IsDistinct, slice_split, position_or_len, before_first, after_first, join_with_byte}
use Rattle.std.specs.Option.{is_none}
use Rattle.std.proofs.lemmas.Bool.{and_parts, and_from, and_right, both_ways, cond-true, cond-false, ne_eqb, cases_lt, eqb-true}
use Rattle.std.proofs.lemmas.List.{take_all, drop_all}
use Rattle.std.proofs.lemmas.List.Elements.{All-nil, All-filter, recursion_from_All, filter_passes}
use Rattle.std.proofs.lemmas.List.Splits.{join_with_byte-slice_split}
use Rattle.std.proofs.lemmas.List.Sums.{passes_at_first, split_at_first}
use Rattle.std.proofs.lemmas.Slice.Eq.{bytes_eq-Decides}
use Rattle.irc_tags.specs.Value.{semicolon, value_text, value_in}
use Rattle.irc_tags.specs.TagList.{Tag, has_key, same_bytes, tags_by_key, tag_list, tag_of, is_semicolon, is_equals}
use Rattle.irc_tags.specs.Text.{value_part, tag_text, tags_text}
use Rattle.irc_tags.specs.Standing.{IsKey, CanStand, is_client_only, HasNoEnd, is_nul}
use Rattle.irc_tags.specs.ClientOnly.{client_only_of, client_only_text, is_client_only_text}
use Rattle.irc_tags.specs.Entries.{found_in, last_found}
use Rattle.irc_tags.specs.Kept.{is_client_only_tag, is_kept}
use Rattle.irc_tags.proofs.CuttingLemmas.{parts_from, one_part}
use Rattle.irc_tags.proofs.LengthLemmas.{kept_text_is_no_longer}
use Rattle.irc_tags.proofs.LookupLemmas.{found-all}
use Rattle.irc_tags.proofs.ReadBackLemmas.{tag_of-tag_text, parts_of_text, tags_by_key-distinct, tag_list-tags_text, text_in_line}
use Rattle.irc_tags.proofs.RewriteLemmas.{same_behind, stands}
use Rattle.irc_tags.proofs.StandingLemmas.{CanStand-tag_list, CanStand-filter, CanStandInLine-tag_list}
use Rattle.irc_tags.proofs.TextLemmas.{some_value}
use Rattle.irc_tags.proofs.ValueLemmas.{value_in-nil}

-- ---- a tag that stands as it is written

same_behind_all : (front xs ys : List ℕ) → same_bytes (front ++ xs) (front ++ ys) ≡ same_bytes xs ys
same_behind_all [] xs ys = refl
same_behind_all (b ∷ front) xs ys = same_behind b (front ++ xs) (front ++ ys) ∙ same_behind_all front xs ys

-- a tag without `=`
pub bare_tag : (part : List ℕ) → length (before_first is_equals part) ≡ length part → tag_text (tag_of part) ≡ part
bare_tag part bare =
    let n = position_or_len is_equals part in
    let short = length-take n part in
    (λ i. take_all n part (omega arith) i ++ value_part (value_in (drop_all (n + 1) part (omega arith) i)))
    ∙ ap (λ value. part ++ value_part value) value_in-nil
    ∙ append-nil part

module _ (part : List ℕ) (valued : length (before_first is_equals part) ≡ length part → ⊥) where
  key_and_value : part ≡ before_first is_equals part ++ 61 ∷ after_first is_equals part
  key_and_value =
      let n = position_or_len is_equals part in
      let short = length-take n part in
      elim (cases_lt n (length part)) [
        | inl within ↦ split_at_first is_equals part 0 within
            ∙ ap (λ b. before_first is_equals part ++ b ∷ after_first is_equals part) (eqb-true (get_or part n 0) 61 (passes_at_first is_equals part 0 within))
        | inr past ↦ absurd (valued (omega arith))
      ]

  -- a tag with a value that isn't empty
  pub valued_tag : (length (value_in (after_first is_equals part)) == 0) ≡ false → same_bytes (tag_text (tag_of part)) part ≡ stands (after_first is_equals part)
  valued_tag some =
      let key = before_first is_equals part in
      let value = after_first is_equals part in
      ap (λ l. same_bytes (key ++ l) part) (sym (some_value (value_in value) some))
      ∙ ap (λ l. same_bytes (key ++ 61 ∷ value_text (value_in value)) l) key_and_value
      ∙ same_behind_all key (61 ∷ value_text (value_in value)) (61 ∷ value)
      ∙ same_behind 61 (value_text (value_in value)) value

  -- and with an empty one
  pub empty_tag : (length (value_in (after_first is_equals part)) == 0) ≡ true → same_bytes (tag_text (tag_of part)) part ≡ false
  empty_tag none =
      let key = before_first is_equals part in
      let value = after_first is_equals part in
      ap (λ l. same_bytes (key ++ l) part) (no_part (value_in value) none)
      ∙ ap (λ l. same_bytes (key ++ []) l) key_and_value
      ∙ same_behind_all key [] (61 ∷ value)
    where
      no_part : (text : List ℕ) → (length text == 0) ≡ true → value_part text ≡ []
      no_part [] e = refl
      no_part (b ∷ text) e = absurd (omega (arith, eqb-true (length (b ∷ text)) 0 e))

-- ---- tags that stay

kept_all : (test : Tag → Bool) (ts : List Tag) → AllByRecursion (λ t. test t ≡ true) ts → filter test ts ≡ ts
kept_all test [] all = refl
kept_all test (t ∷ ts) all = cond-true (test t) _ _ all.0 ∙ ap (λ l. t ∷ l) (kept_all test ts all.1)

client_has_key : (t : Tag) → is_client_only t.0 ≡ true → has_key t ≡ true
client_has_key ([], value) e = absurd (both_ways (is_client_only []) refl e)
client_has_key (b ∷ key, value) e = ap not (ne_eqb (length (b ∷ key)) 0 (λ same. omega arith))

all_keys : (ts : List Tag) → AllByRecursion (λ t. is_client_only t.0 ≡ true) ts → AllByRecursion (λ t. has_key t ≡ true) ts
all_keys [] all = tt
all_keys (t ∷ ts) all = (client_has_key t all.0, all_keys ts all.1)

-- ---- laws

pub kept_as_written : (tags : List Tag) → CanStand tags → All (λ tag. is_client_only tag.0 ≡ true) tags → is_client_only_text (tags_text tags) ≡ true
unfolding client_only_text is_client_only_text
kept_as_written tags stand client =
    (bytes_eq-Decides _ _).1
    (ap (λ l. tags_text (filter (λ tag. is_client_only tag.0) l)) (tag_list-tags_text tags stand)
    ∙ ap tags_text (kept_all (λ tag. is_client_only tag.0) tags (recursion_from_All (λ tag. is_client_only tag.0 ≡ true) tags client)))

pub is_client_only_text-client_only_text : (bytes : List ℕ) → is_client_only_text (client_only_text bytes) ≡ true
unfolding client_only_text
is_client_only_text-client_only_text bytes =
    kept_as_written (filter (λ tag. is_client_only tag.0) (tag_list bytes)) (CanStand-filter is_client_only (tag_list bytes) (CanStand-tag_list bytes))
    (filter_passes (λ tag. is_client_only tag.0) (tag_list bytes))

-- what is written of the client-only ones of tags is such text
pub client_only_of-as_written : (tags : List Tag) → CanStand tags → is_client_only_text (client_only_of tags) ≡ true
client_only_of-as_written tags stand =
    kept_as_written (filter (λ tag. is_client_only tag.0) tags) (CanStand-filter is_client_only tags stand) (filter_passes (λ tag. is_client_only tag.0) tags)

pub client_only_text-same : (bytes : List ℕ) → is_client_only_text bytes ≡ true → client_only_text bytes ≡ bytes
unfolding is_client_only_text
client_only_text-same bytes e = (bytes_eq-Decides (client_only_text bytes) bytes).0 e

module _ (bytes : List ℕ) (kept : is_client_only_text bytes ≡ true) where
  text_of_kept : tags_text (filter (λ tag. is_client_only tag.0) (tag_list bytes)) ≡ bytes
  unfolding client_only_text
  text_of_kept = client_only_text-same bytes kept

  tags_kept : tag_list bytes ≡ filter (λ tag. is_client_only tag.0) (tag_list bytes)
  tags_kept =
      ap tag_list (sym text_of_kept)
      ∙ tag_list-tags_text (filter (λ tag. is_client_only tag.0) (tag_list bytes)) (CanStand-filter is_client_only (tag_list bytes) (CanStand-tag_list bytes))

  pub kept_text : bytes ≡ tags_text (tag_list bytes)
  kept_text = sym text_of_kept ∙ ap tags_text (sym tags_kept)

  pub kept_keys : All (λ tag. is_client_only tag.0 ≡ true) (tag_list bytes)
  kept_keys = subst (λ l. All (λ tag. is_client_only tag.0 ≡ true) l) (sym tags_kept) (filter_passes (λ tag. is_client_only tag.0) (tag_list bytes))

-- what is written of the tags
pub client_only_text_is : (bytes : List ℕ) → client_only_of (tag_list bytes) ≡ client_only_text bytes
unfolding client_only_text
client_only_text_is bytes = refl

-- a text is that of the client-only tags
pub same_text : (bytes text : List ℕ) → text ≡ client_only_text bytes → same_bytes text bytes ≡ is_client_only_text bytes
unfolding is_client_only_text
same_text bytes text is = ap (λ l. same_bytes l bytes) is

pub client_only_text-in_line : (bytes : List ℕ) → HasNoEnd bytes → HasNoEnd (client_only_text bytes)
unfolding client_only_text
client_only_text-in_line bytes line =
    text_in_line (filter (λ tag. is_client_only tag.0) (tag_list bytes))
    (All-filter (λ tag. is_client_only tag.0) (λ tag. HasNoEnd tag.0 × All (λ b. is_nul b ≡ false) tag.1) (tag_list bytes) (CanStandInLine-tag_list bytes line))

pub client_only_text-no_longer : (bytes : List ℕ) → HasNoEnd bytes → length (client_only_text bytes) ≤ length bytes
unfolding client_only_text
client_only_text-no_longer bytes line = kept_text_is_no_longer is_client_only bytes line

-- ---- part by part

-- each part is kept as it stands, and no part behind it has its key
abbrev pub all_kept : List (List ℕ) → Bool
all_kept [] = true
all_kept (part ∷ parts) = (is_client_only_tag part && is_none (last_found (tag_of part).0 None (map tag_of parts))) && all_kept parts

pub all_kept-next : (rest : List ℕ) (at : ℕ) → position is_semicolon rest ≡ Some at
    → all_kept (slice_split is_semicolon rest)
    ≡ (is_kept (take at rest) (drop (at + 1) rest) && all_kept (slice_split is_semicolon (drop (at + 1) rest)))
all_kept-next rest at place =
    ap all_kept (parts_from is_semicolon rest at place)
    ∙ ap (λ found. (is_client_only_tag (take at rest) && is_none found) && all_kept (slice_split is_semicolon (drop (at + 1) rest))) (found-all (tag_of (take at rest)).0 (drop (at + 1) rest))

pub all_kept-last : (rest : List ℕ) → position is_semicolon rest ≡ None → all_kept (slice_split is_semicolon rest) ≡ is_client_only_tag rest
all_kept-last rest none = ap all_kept (one_part is_semicolon rest none) ∙ alone (is_client_only_tag rest) where
  alone : (b : Bool) → ((b && true) && true) ≡ b
  alone true = refl
  alone false = refl

-- a key that isn't found has no part
none_found : (key : List ℕ) (found : Option (List ℕ)) (ts : List Tag) → AllByRecursion (λ t. is_client_only t.0 ≡ true) ts → is_none (last_found key found ts) ≡ true
    → (is_none found ≡ true) × AllByRecursion (λ other. same_bytes key other ≡ false) (map (λ t. t.0) ts)
none_found key found [] client e = (e, tt)
none_found key found (t ∷ ts) client e =
    let rest = none_found key (found_in key found t) ts client.1 e in
    go (same_bytes key t.0) refl (ap (λ b. is_none (cond (b && same_bytes key t.0) (Some t.1) found)) (sym (client_has_key t client.0)) ∙ rest.0) rest.1 where
      go : (b : Bool) → same_bytes key t.0 ≡ b → is_none (cond (same_bytes key t.0) (Some t.1) found) ≡ true → AllByRecursion (λ other. same_bytes key other ≡ false) (map (λ t. t.0) ts)
          → (is_none found ≡ true) × AllByRecursion (λ other. same_bytes key other ≡ false) (map (λ t. t.0) (t ∷ ts))
      go true same none behind = absurd (both_ways (is_none (cond (same_bytes key t.0) (Some t.1) found)) (ap (λ b. is_none (cond b (Some t.1) found)) same) none)
      go false same none behind = (sym (ap (λ b. is_none (cond b (Some t.1) found)) same) ∙ none, (same, behind))

-- and the other way
not_found : (key : List ℕ) (ts : List Tag) → AllByRecursion (λ other. same_bytes key other ≡ false) (map (λ t. t.0) ts) → last_found key None ts ≡ None
not_found key [] apart = refl
not_found key (t ∷ ts) apart = ap (λ found. last_found key found ts) (cond-false (has_key t && same_bytes key t.0) _ _ (and_right (has_key t) _ apart.0)) ∙ not_found key ts apart.1

-- what parts that are kept say
abbrev AreKept : List (List ℕ) → Type 0
AreKept parts = (map tag_text (map tag_of parts) ≡ parts) × AllByRecursion (λ t. is_client_only t.0 ≡ true) (map tag_of parts) × IsDistinct same_bytes (map (λ t. t.0) (map tag_of parts))

parts_kept : (parts : List (List ℕ)) → all_kept parts ≡ true → AreKept parts
unfolding IsDistinct
parts_kept [] e = (refl, tt, tt)
parts_kept (part ∷ parts) e =
    let both = and_parts (is_client_only_tag part && is_none (last_found (tag_of part).0 None (map tag_of parts))) (all_kept parts) e in
    let here = and_parts (is_client_only_tag part) _ both.0 in
    let kept = and_parts (is_client_only (tag_of part).0) _ here.0 in
    let rest = parts_kept parts both.1 in
    let text = (bytes_eq-Decides (tag_text (tag_of part)) part).0 kept.1 in (
      λ i. text i ∷ rest.0 i,
      (kept.0, rest.1),
      ((none_found (tag_of part).0 None (map tag_of parts) rest.1 here.1).1, rest.2),
    )

read_back : (ts : List Tag) → AllByRecursion (λ t. IsKey t.0) ts → map tag_of (map tag_text ts) ≡ ts
read_back [] keys = refl
read_back (t ∷ ts) keys = λ i. tag_of-tag_text t.0 t.1 keys.0.1 i ∷ read_back ts keys.1 i

texts_kept : (ts : List Tag) → IsDistinct same_bytes (map (λ t. t.0) ts) → AllByRecursion (λ t. IsKey t.0) ts → AllByRecursion (λ t. is_client_only t.0 ≡ true) ts
    → all_kept (map tag_text ts) ≡ true
unfolding IsDistinct
texts_kept [] distinct keys client = refl
texts_kept (t ∷ ts) distinct keys client =
    let same : tag_of (tag_text t) ≡ t = tag_of-tag_text t.0 t.1 keys.0.1 in
    let found : last_found (tag_of (tag_text t)).0 None (map tag_of (map tag_text ts)) ≡ None =
    (λ i. last_found (same i).0 None (read_back ts keys.1 i)) ∙ not_found t.0 ts distinct.0 in
    and_from _ _
    (and_from _ _ (and_from _ _ (ap (λ u. is_client_only u.0) same ∙ client.0) ((bytes_eq-Decides (tag_text (tag_of (tag_text t))) (tag_text t)).1 (ap tag_text same))) (ap is_none found))
    (texts_kept ts distinct.1 keys.1 client.1)

-- ---- all of them

same_truth : (a b : Bool) → (a ≡ true → b ≡ true) → (b ≡ true → a ≡ true) → a ≡ b
same_truth true b f g = sym (f refl)
same_truth false true f g = g refl
same_truth false false f g = refl

text_from_kept : (bytes : List ℕ) → all_kept (slice_split is_semicolon bytes) ≡ true → is_client_only_text bytes ≡ true
unfolding client_only_text is_client_only_text tag_list
text_from_kept bytes e =
    let kept = parts_kept (slice_split is_semicolon bytes) e in
    let ts = map tag_of (slice_split is_semicolon bytes) in
    (bytes_eq-Decides _ _).1
    (ap (λ l. tags_text (filter (λ tag. is_client_only tag.0) (tags_by_key l))) (kept_all has_key ts (all_keys ts kept.1))
    ∙ ap (λ l. tags_text (filter (λ tag. is_client_only tag.0) l)) (tags_by_key-distinct ts kept.2)
    ∙ ap tags_text (kept_all (λ tag. is_client_only tag.0) ts kept.1)
    ∙ ap (join_with_byte semicolon) kept.0
    ∙ join_with_byte-slice_split semicolon bytes)

kept_from_tags : (ts : List Tag) → CanStand ts → All (λ t. is_client_only t.0 ≡ true) ts → 0 < length (tags_text ts) → all_kept (slice_split is_semicolon (tags_text ts)) ≡ true
kept_from_tags [] stand client some = absurd (omega arith)
kept_from_tags (t ∷ ts) stand client some =
    ap all_kept (parts_of_text t ts stand.1)
    ∙ texts_kept (t ∷ ts) stand.0 (recursion_from_All (λ t. IsKey t.0) (t ∷ ts) stand.1) (recursion_from_All (λ t. is_client_only t.0 ≡ true) (t ∷ ts) client)

pub is_client_only_text-nil : is_client_only_text [] ≡ true
unfolding IsDistinct
is_client_only_text-nil = kept_as_written [] (tt, All-nil (λ tag. IsKey tag.0)) (All-nil (λ tag. is_client_only tag.0 ≡ true))

pub all_kept-is_client_only_text : (bytes : List ℕ) → 0 < length bytes → all_kept (slice_split is_semicolon bytes) ≡ is_client_only_text bytes
all_kept-is_client_only_text bytes some =
    same_truth (all_kept (slice_split is_semicolon bytes)) (is_client_only_text bytes) (text_from_kept bytes)
    (λ e. ap (λ l. all_kept (slice_split is_semicolon l)) (kept_text bytes e)
    ∙ kept_from_tags (tag_list bytes) (CanStand-tag_list bytes) (kept_keys bytes e) (omega (arith, ap length (kept_text bytes e))))

pub no_bytes : (bytes : List ℕ) → (length bytes == 0) ≡ true → bytes ≡ []
no_bytes [] e = refl
no_bytes (b ∷ bytes) e = absurd (omega (arith, eqb-true (length (b ∷ bytes)) 0 e))

pub some_bytes : (bytes : List ℕ) → (length bytes == 0) ≡ false → 0 < length bytes
some_bytes bytes e = grind arith
