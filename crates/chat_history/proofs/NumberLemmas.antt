-- How the front and the numbers of the pieces go on with one more change.
use Rattle.std.proofs.Common.{◌≡◌, ℕ, suc, ◌+◌, Bool, true, false, cond, ◌||◌, Option, Some, None, List, [], ◌∷◌, ◌++◌, map, length, refl, sym, ◌∙◌, ap, arith, append_assoc, length-append}
use Rattle.std.proofs.lemmas.List.Folds.{list_any-append}
use Rattle.std.specs.List.{list_any}
use Rattle.std.specs.Option.{option_map, is_some}
use Rattle.std.specs.FinMap as finite
use Rattle.chat_change.specs.declared.change.Change.{Change}
use Rattle.chat_change.specs.Key.{Key, key_cmp, key_of, same_key}
use Rattle.chat_history.specs.History.{History, norm}
use Rattle.chat_history.specs.Numbering.{counts_after, changes_that_count, front, up_to_last, number, numbers, has_piece, numbers_after}
use Rattle.chat_change.proofs.CallerLemmas.{key_total, key_exact, same_key_is}

pub counted-append : (before xs ys : List Change) → changes_that_count before (xs ++ ys) ≡ changes_that_count before xs ++ changes_that_count (before ++ xs) ys
counted-append before [] ys = ap (λ b. changes_that_count b ys) (sym (no_more before))
  where
    no_more : (zs : List Change) → zs ++ [] ≡ zs
    no_more [] = refl
    no_more (z ∷ zs) = ap (λ ws. z ∷ ws) (no_more zs)
counted-append before (x ∷ xs) ys =
    let rest = counted-append (before ++ x ∷ []) xs ys ∙ ap (λ b. changes_that_count (before ++ x ∷ []) xs ++ changes_that_count b ys) (append_assoc before (x ∷ []) xs) in
    elim (counts_after before x) as (λ b. cond b (x ∷ changes_that_count (before ++ x ∷ []) (xs ++ ys)) (changes_that_count (before ++ x ∷ []) (xs ++ ys)) ≡ cond b (x ∷ changes_that_count (before ++ x ∷ []) xs) (changes_that_count (before ++ x ∷ []) xs) ++ changes_that_count (before ++ x ∷ xs) ys) [
      | true ↦ ap (λ zs. x ∷ zs) rest
      | false ↦ rest
    ]

pub counted-push : (changes : List Change) (c : Change) → changes_that_count [] (changes ++ c ∷ []) ≡ changes_that_count [] changes ++ cond (counts_after changes c) (c ∷ []) []
counted-push changes c = counted-append [] changes (c ∷ [])

or_false : (a : Bool) → (a || false) ≡ a
or_false true = refl
or_false false = refl

or_true : (a : Bool) → (a || true) ≡ true
or_true true = refl
or_true false = refl

module _ (k : Key) where
  abbrev borne : List Change → Bool
  borne cs = list_any (λ d. same_key k (key_of d)) cs

  pub up_to_last-push : (xs : List Change) (c : Change) → up_to_last k (xs ++ c ∷ []) ≡ cond (same_key k (key_of c)) (suc (length xs)) (up_to_last k xs)
  up_to_last-push [] c = elim (same_key k (key_of c)) as (λ b. cond b 1 0 ≡ cond b (suc 0) 0) [ true ↦ refl | false ↦ refl ]
  up_to_last-push (x ∷ xs) c =
      let here = cond (same_key k (key_of x)) 1 0 in
      ap (λ b. cond b (suc (up_to_last k (xs ++ c ∷ []))) here) (list_any-append (λ d. same_key k (key_of d)) xs (c ∷ []))
      ∙ ap (λ n. cond (borne xs || (same_key k (key_of c) || false)) (suc n) here) (up_to_last-push xs c)
      ∙ elim (same_key k (key_of c)) as (λ b. cond (borne xs || (b || false)) (suc (cond b (suc (length xs)) (up_to_last k xs))) here ≡ cond b (suc (suc (length xs))) (cond (borne xs) (suc (up_to_last k xs)) here)) [
        | true ↦ ap (λ b. cond b (suc (suc (length xs))) here) (or_true (borne xs))
        | false ↦ ap (λ b. cond b (suc (up_to_last k xs)) here) (or_false (borne xs))
      ]

pub front-push : (start : ℕ) (changes : List Change) (c : Change) → front start (changes ++ c ∷ []) ≡ cond (counts_after changes c) (front start changes + 1) (front start changes)
front-push start changes c =
    ap (λ cs. start + length cs) (counted-push changes c)
    ∙ elim (counts_after changes c) as (λ b. start + length (changes_that_count [] changes ++ cond b (c ∷ []) []) ≡ cond b ((start + length (changes_that_count [] changes)) + 1) (start + length (changes_that_count [] changes))) [
      | true ↦ omega (arith, length-append (changes_that_count [] changes) (c ∷ []))
      | false ↦ omega (arith, length-append {A = Change} (changes_that_count [] changes) [])
    ]

pub number-push : (start : ℕ) (changes : List Change) (c : Change) (k : Key) → counts_after changes c ≡ true → number start (changes ++ c ∷ []) k ≡ cond (same_key k (key_of c)) (front start changes + 1) (number start changes k)
number-push start changes c k e =
    ap (λ cs. start + up_to_last k cs) (counted-push changes c ∙ ap (λ b. changes_that_count [] changes ++ cond b (c ∷ []) []) e)
    ∙ ap (λ n. start + n) (up_to_last-push k (changes_that_count [] changes) c)
    ∙ elim (same_key k (key_of c)) as (λ b. start + cond b (suc (length (changes_that_count [] changes))) (up_to_last k (changes_that_count [] changes)) ≡ cond b ((start + length (changes_that_count [] changes)) + 1) (start + up_to_last k (changes_that_count [] changes))) [
      | true ↦ omega arith
      | false ↦ refl
    ]

-- what the numbers after a change that counts have at a key
pub get-numbers_after : (old : finite.FinMap key_cmp ℕ) (h : History) (k : Key) (n : ℕ) (j : Key) → finite.get (numbers_after old h k n) j ≡ cond (same_key j k) (Some n) (cond (has_piece h j) (finite.get old j) None)
get-numbers_after old h k n j =
    finite.get-insert key_total (finite.retain_keys old (has_piece h)) k n j
    ∙ ap (cond (same_key j k) (Some n)) (finite.get-retain_keys old (has_piece h) j (λ x e. ap (has_piece h) (sym (key_exact j x e))))

find_number : (f : Key → ℕ) (k : Key) (es : List (Key × Change)) → finite.find key_cmp k (map (λ l. (l, f l)) (map (λ (e : Key × Change). e.0) es)) ≡ option_map (λ _. f k) (finite.find key_cmp k es)
find_number f k [] = refl
find_number f k (e ∷ es) =
    elim (same_key k e.0) as (λ b. same_key k e.0 ≡ b → cond b (Some (f e.0)) (finite.find key_cmp k (map (λ l. (l, f l)) (map (λ (e : Key × Change). e.0) es))) ≡ option_map (λ _. f k) (cond b (Some e.1) (finite.find key_cmp k es))) [
      | true ↦ λ t. ap (λ l. Some (f l)) (sym (same_key_is k e.0 t))
      | false ↦ λ _. find_number f k es
    ] refl

-- each piece has a number, and nothing else has one
pub get-numbers : (start : ℕ) (changes : List Change) (k : Key) → finite.get (numbers start changes) k ≡ option_map (λ _. number start changes k) (finite.get (norm changes) k)
get-numbers start changes k =
    finite.get-from_entries key_total (map (λ l. (l, number start changes l)) (finite.keys (norm changes))) k
    ∙ find_number (number start changes) k (finite.entries (norm changes))
    ∙ ap (option_map (λ _. number start changes k)) (sym (finite.get-entries (norm changes) k))

renumber : (n m : ℕ) (u v : Option Change) → (v ≡ None → u ≡ None) → option_map (λ _. n) u ≡ cond (is_some u) (option_map (λ _. n) v) None
renumber n m None v h = refl
renumber n m (Some c) None h = absurd (some_none c (h refl))
  where
    some_none : (c : Change) → Some c ≡ None → ⊥
    some_none c e = cc
renumber n m (Some c) (Some d) h = refl

-- where a change counts, its key has a piece, and no other key gets one, its key gets the next number
pub numbers-push : (start : ℕ) (changes : List Change) (c w : Change) → counts_after changes c ≡ true → finite.get (norm (changes ++ c ∷ [])) (key_of c) ≡ Some w → ((k : Key) → same_key k (key_of c) ≡ false → finite.get (norm changes) k ≡ None → finite.get (norm (changes ++ c ∷ [])) k ≡ None) → numbers start (changes ++ c ∷ []) ≡ numbers_after (numbers start changes) (norm (changes ++ c ∷ [])) (key_of c) (front start changes + 1)
numbers-push start changes c w e here others = finite.same_map key_total key_exact (numbers start (changes ++ c ∷ [])) (numbers_after (numbers start changes) (norm (changes ++ c ∷ [])) (key_of c) (front start changes + 1)) (λ k.
    get-numbers start (changes ++ c ∷ []) k
    ∙ ap (λ n. option_map (λ _. n) (finite.get (norm (changes ++ c ∷ [])) k)) (number-push start changes c k e)
    ∙ elim (same_key k (key_of c)) as (λ b. same_key k (key_of c) ≡ b → option_map (λ _. cond b (front start changes + 1) (number start changes k)) (finite.get (norm (changes ++ c ∷ [])) k) ≡ cond b (Some (front start changes + 1)) (cond (has_piece (norm (changes ++ c ∷ [])) k) (option_map (λ _. number start changes k) (finite.get (norm changes) k)) None)) [
      | true ↦ λ t. ap (λ l. option_map (λ _. front start changes + 1) (finite.get (norm (changes ++ c ∷ [])) l)) (same_key_is k (key_of c) t) ∙ ap (option_map (λ _. front start changes + 1)) here
      | false ↦ λ t. renumber (number start changes k) 0 (finite.get (norm (changes ++ c ∷ [])) k) (finite.get (norm changes) k) (others k t)
    ] refl
    ∙ ap (λ o. cond (same_key k (key_of c)) (Some (front start changes + 1)) (cond (has_piece (norm (changes ++ c ∷ [])) k) o None)) (sym (get-numbers start changes k))
    ∙ sym (get-numbers_after (numbers start changes) (norm (changes ++ c ∷ [])) (key_of c) (front start changes + 1) k))
