-- What a delta has, how far it comes, and that whoever takes it is up to date so far.
use Rattle.std.proofs.Common.{◌≡◌, ℕ, zero, suc, ◌≤◌, ◌<◌, max, true, false, cond, Some, None, List, [], ◌∷◌, ◌++◌, map, take, length, refl, sym, ◌∙◌, ap, subst, arith, ◌⊎◌, inl, inr, ⊎_elim}
use Rattle.std.proofs.lemmas.Bool.{false≢true}
use Rattle.std.proofs.lemmas.Bool.Decides.{nat_tests}
use Rattle.std.proofs.lemmas.Cmp.{nat_cmp_total, tied_itself}
use Rattle.std.proofs.lemmas.List.{take_all}
use Rattle.std.proofs.lemmas.List.Elements.{All-from_recursion, recursion_from_All, All-weaker, All-filter, All-take, All-map, Contains-append_right, filter_passes}
use Rattle.std.proofs.lemmas.Map.Lookups.{exact_unsigned}
use Rattle.std.specs.List.{All, AllByRecursion, filter_map, cons_option}
use Rattle.std.specs.Ordering.{is_eq, nat_cmp, eq_by_cmp}
use Rattle.std.specs.Option.{option_map, unwrap_or}
use Rattle.std.specs.Prelude.{Contains, nat_lt}
use Rattle.std.specs.FinMap.{FinMap, find, entries, entries_sorted, get, get-entries, from_entries, get-from_entries, is_sorted}
use Rattle.std.specs.FinMap.Entries.{find-where_key, is_sorted-where_key}
use Rattle.std.proofs.Common.{T}
use Rattle.chat_change.specs.declared.change.Change.{Change}
use Rattle.chat_history.specs.Choice.{greatest}
use Rattle.chat_change.specs.Key.{Key, key_cmp, same_key}
use Rattle.chat_history.specs.History.{norm, changes_of, Includes}
use Rattle.chat_history.specs.Numbering.{front, number, numbers, numbered_entry, newer, delta_limit, delta}
use Rattle.chat_change.proofs.CallerLemmas.{key_total, same_key_itself, same_key_is}
use Rattle.chat_history.specs.UpTo.{IncludesUpTo}
use Rattle.chat_history.proofs.SetLemmas.{norm_right, norm_swap}
use Rattle.chat_history.proofs.NumberLemmas.{get-numbers}
use Rattle.chat_history.proofs.IncludesLemmas.{Includes-more, Includes-member, includes_all}
use Rattle.chat_history.proofs.PieceStepLemmas.{piece_step, front_rises, on_and_on, number_above, number_within, number_tells}
use Rattle.chat_history.proofs.NumberedEntryLemmas.{entries_found, number_is, found_within, Contains-found, Contains-first, greatest_within, greatest_least, found_all}

module _ (start : ℕ) (changes : List Change) where
  abbrev pub IsPiece : Key × Change → Type 0
  IsPiece e = get (norm changes) e.0 ≡ Some e.1

  -- pieces under their numbers
  abbrev pub numbered : List (Key × Change) → List (ℕ × Change)
  numbered es = filter_map (numbered_entry (numbers start changes)) es

  pub entry_is : (e : Key × Change) → IsPiece e → numbered_entry (numbers start changes) e ≡ Some (number start changes e.0, e.1)
  entry_is e h = ap (option_map (λ (n : ℕ). (n, e.1))) (get-numbers start changes e.0 ∙ ap (option_map (λ _. number start changes e.0)) h)

  apart : (k l : Key) (p : Change) → get (norm changes) k ≡ Some p → same_key k l ≡ false → eq_by_cmp nat_cmp (number start changes k) (number start changes l) ≡ false
  apart k l p is t =
      elim (eq_by_cmp nat_cmp (number start changes k) (number start changes l)) as (λ b. eq_by_cmp nat_cmp (number start changes k) (number start changes l) ≡ b → b ≡ false) [
        | true ↦ λ e. absurd (false≢true (sym t ∙ subst (λ x. same_key k x ≡ true) (number_tells start changes k l p is (number_is _ _ e)) (same_key_itself k)))
        | false ↦ λ _. refl
      ] refl

  find_numbered : (k : Key) (p : Change) → get (norm changes) k ≡ Some p → (es : List (Key × Change)) → AllByRecursion IsPiece es → find key_cmp k es ≡ Some p → find nat_cmp (number start changes k) (numbered es) ≡ Some p
  find_numbered k p is [] a h = cc
  find_numbered k p is (e ∷ es) a h =
      let f = number start changes in
      ap (λ o. find nat_cmp (f k) (cons_option o (numbered es))) (entry_is e a.0)
      ∙ elim (same_key k e.0) as (λ b. same_key k e.0 ≡ b → cond b (Some e.1) (find key_cmp k es) ≡ Some p → cond (eq_by_cmp nat_cmp (f k) (f e.0)) (Some e.1) (find nat_cmp (f k) (numbered es)) ≡ Some p) [
        | true ↦ λ t h. ap (λ b. cond b (Some e.1) (find nat_cmp (f k) (numbered es))) (ap (λ l. eq_by_cmp nat_cmp (f k) (f l)) (sym (same_key_is k e.0 t)) ∙ ap is_eq (tied_itself nat_cmp_total (f k))) ∙ h
        | false ↦ λ t h. ap (λ b. cond b (Some e.1) (find nat_cmp (f k) (numbered es))) (apart k e.0 p is t) ∙ find_numbered k p is es a.1 h
      ] refl h

  numbered_within : (es : List (Key × Change)) → AllByRecursion IsPiece es → AllByRecursion (λ (e : ℕ × Change). e.0 ≤ front start changes) (numbered es)
  numbered_within [] a = tt
  numbered_within (e ∷ es) a =
      subst (λ o. AllByRecursion (λ (e : ℕ × Change). e.0 ≤ front start changes) (cons_option o (numbered es))) (sym (entry_is e a.0))
      (number_within start changes e.0, numbered_within es a.1)

  pub pieces_held : AllByRecursion IsPiece (entries (norm changes))
  pieces_held = entries_found key_total (norm changes)

  abbrev pub by_number : FinMap nat_cmp Change
  by_number = from_entries (numbered (entries (norm changes)))

  get_by_number : (k : Key) (p : Change) → get (norm changes) k ≡ Some p → get by_number (number start changes k) ≡ Some p
  get_by_number k p is =
      get-from_entries nat_cmp_total (numbered (entries (norm changes))) (number start changes k)
      ∙ find_numbered k p is (entries (norm changes)) pieces_held (sym (get-entries (norm changes) k) ∙ is)

  module _ (from : ℕ) where
    abbrev pub all : List (ℕ × Change)
    all = newer (norm changes) (numbers start changes) from

    pub all_sorted : T (is_sorted nat_cmp all)
    all_sorted = is_sorted-where_key nat_cmp (nat_lt from) (entries by_number) (entries_sorted by_number)

    pub all_has : (k : Key) (p : Change) → get (norm changes) k ≡ Some p → from < number start changes k → find nat_cmp (number start changes k) all ≡ Some p
    all_has k p is l =
        let n = number start changes k in
        let newer_than : nat_lt from n ≡ true = grind (arith, nat_tests) in
        find-where_key nat_cmp (nat_lt from) n (λ x e. ap (nat_lt from) (sym (exact_unsigned n x e))) (entries by_number)
        ∙ ap (λ b. cond b (find nat_cmp n (entries by_number)) None) newer_than
        ∙ sym (get-entries by_number n)
        ∙ get_by_number k p is

    all_within : All (λ (e : ℕ × Change). e.0 ≤ front start changes) all
    all_within =
        All-filter (λ (e : ℕ × Change). nat_lt from e.0) (λ (e : ℕ × Change). e.0 ≤ front start changes) (entries by_number)
        (All-weaker (λ (e : ℕ × Change). get by_number e.0 ≡ Some e.1) (λ (e : ℕ × Change). e.0 ≤ front start changes)
        (λ e h. found_within (front start changes) e.0 e.1 (numbered (entries (norm changes))) (numbered_within (entries (norm changes)) pieces_held) (sym (get-from_entries nat_cmp_total (numbered (entries (norm changes))) e.0) ∙ h))
        (entries by_number)
        (All-from_recursion (λ (e : ℕ × Change). get by_number e.0 ≡ Some e.1) (entries by_number) (entries_found nat_cmp_total by_number)))

    -- how far the first m of the newer pieces come
    abbrev to_of : ℕ → ℕ
    to_of m = cond (nat_lt m (length all)) (unwrap_or (greatest (map (λ (e : ℕ × Change). e.0) (take m all))) from) (max from (front start changes))

    to_within : (m : ℕ) → from ≤ front start changes → to_of m ≤ front start changes
    to_within m l =
        elim (nat_lt m (length all)) as (λ b. cond b (unwrap_or (greatest (map (λ (e : ℕ × Change). e.0) (take m all))) from) (max from (front start changes)) ≤ front start changes) [
          | true ↦ greatest_within (front start changes) from (map (λ (e : ℕ × Change). e.0) (take m all)) l
              (recursion_from_All (λ n. n ≤ front start changes) (map (λ (e : ℕ × Change). e.0) (take m all))
              (All-map (λ n. n ≤ front start changes) (λ (e : ℕ × Change). e.0) (take m all) (All-take (λ (e : ℕ × Change). e.0 ≤ front start changes) m all all_within)))
          | false ↦ omega arith
        ]

    sent_has : (m : ℕ) (k : Key) (p : Change) → get (norm changes) k ≡ Some p → from < number start changes k → number start changes k ≤ to_of m → Contains (map (λ (e : ℕ × Change). e.1) (take m all)) p
    sent_has m k p is l =
        elim (nat_lt m (length all)) as (λ b. nat_lt m (length all) ≡ b → number start changes k ≤ cond b (unwrap_or (greatest (map (λ (e : ℕ × Change). e.0) (take m all))) from) (max from (front start changes)) → Contains (map (λ (e : ℕ × Change). e.1) (take m all)) p) [
          | true ↦ λ _ b. Contains-first m (number start changes k) from p all l all_sorted (all_has k p is l) b
          | false ↦ λ e _.
              let short : length all ≤ m = grind (arith, nat_tests) in
              subst (λ es. Contains (map (λ (e : ℕ × Change). e.1) es) p) (sym (take_all m all short)) (Contains-found (number start changes k) p all (all_has k p is l))
        ] refl

pub delta_within : (start from : ℕ) (changes : List Change) → from ≤ front start changes → (delta start changes from).to ≤ front start changes
delta_within start from changes l = to_within start changes from delta_limit l

-- ---- being up to date

pub UpTo-more : (start upto : ℕ) (taken more changes : List Change) → IncludesUpTo taken start changes upto → IncludesUpTo (taken ++ more) start changes upto
UpTo-more start upto taken more changes h = λ k c is b. Includes-more taken more c (h k c is b)

module _ (start upto : ℕ) (taken : List Change) where
  abbrev Stays : List Change → Type 0
  Stays changes = (upto ≤ front start changes) × IncludesUpTo taken start changes upto

  stays_more : (changes : List Change) (c : Change) → Stays changes → Stays (changes ++ c ∷ [])
  stays_more changes c h =
      let rises = front_rises changes c start in
      let fits = h.0 in (
        omega (arith, rises, fits),
        λ k p is b. ⊎_elim
            (λ e. absurd (omega (arith, e, b, fits)))
            (λ e. e.0.2 taken (h.1 k e.0.0 e.0.1 (subst (λ n. n ≤ upto) e.1 b)))
            (piece_step changes c start k p is),
      )

  -- what the other takes later gets higher numbers
  pub UpTo-later : (earlier later : List Change) → upto ≤ front start earlier → IncludesUpTo taken start earlier upto → IncludesUpTo taken start (earlier ++ later) upto
  UpTo-later earlier later l h = (on_and_on Stays stays_more earlier later (l, h)).1

pub UpTo-both : (start upto : ℕ) (taken more earlier later : List Change) → upto ≤ front start earlier → IncludesUpTo taken start earlier upto → IncludesUpTo (taken ++ more) start (earlier ++ later) upto
UpTo-both start upto taken more earlier later l h = UpTo-more start upto taken more (earlier ++ later) (UpTo-later start upto taken earlier later l h)

or_above : (n m : ℕ) → (n ≤ m) ⊎ (m < n)
or_above n m = elim (nat_lt m n) as (λ b. nat_lt m n ≡ b → (n ≤ m) ⊎ (m < n)) [ true ↦ λ e. inr (grind (arith, nat_tests)) | false ↦ λ e. inl (grind (arith, nat_tests)) ] refl

-- whoever is up to date to `from` and takes the delta is so to `to`
pub UpTo-delta : (start from : ℕ) (taken changes : List Change) → IncludesUpTo taken start changes from → IncludesUpTo (taken ++ (delta start changes from).changes) start changes (delta start changes from).to
UpTo-delta start from taken changes h = λ k c is b. ⊎_elim
    (λ l. Includes-more taken (delta start changes from).changes c (h k c is l))
    (λ l. Includes-member (taken ++ (delta start changes from).changes) c
    (Contains-append_right taken (delta start changes from).changes c (sent_has start changes from delta_limit k c is l b)))
    (or_above (number start changes k) from)

pub delta_carries : (start from : ℕ) (taken earlier more : List Change) → from ≤ front start earlier → IncludesUpTo taken start earlier from → IncludesUpTo (taken ++ (delta start (earlier ++ more) from).changes) start (earlier ++ more) (delta start (earlier ++ more) from).to
delta_carries start from taken earlier more l h = UpTo-delta start from taken (earlier ++ more) (UpTo-later start from taken earlier more l h)

-- ---- all the way to the front

included : (start : ℕ) (taken changes : List Change) → IncludesUpTo taken start changes (front start changes) → (es : List (Key × Change)) → AllByRecursion (IsPiece start changes) es → AllByRecursion (Includes taken) (map (λ (e : Key × Change). e.1) es)
included start taken changes h [] a = tt
included start taken changes h (e ∷ es) a = (h e.0 e.1 a.0 (number_within start changes e.0), included start taken changes h es a.1)

-- whoever is up to date to the front includes all
pub includes_to_front : (start : ℕ) (taken changes : List Change) → IncludesUpTo taken start changes (front start changes) → norm (taken ++ changes) ≡ norm taken
unfolding changes_of
includes_to_front start taken changes h =
    sym (norm_right taken changes) ∙ includes_all taken (changes_of (norm changes)) (included start taken changes h (entries (norm changes)) (pieces_held start changes))

-- two that are up to date with each other to the front hold the same
pub same_at_fronts : (start other : ℕ) (xs ys : List Change) → IncludesUpTo ys start xs (front start xs) → IncludesUpTo xs other ys (front other ys) → norm xs ≡ norm ys
same_at_fronts start other xs ys h g = sym (includes_to_front other xs ys g) ∙ norm_swap xs ys ∙ includes_to_front start ys xs h

-- whoever took nothing of one that has no numbers yet is up to date to there
pub UpTo-start : (start : ℕ) (taken : List Change) → IncludesUpTo taken start [] start
UpTo-start start taken = λ k c is b. absurd (omega (arith, number_above start [] k c is, b))

-- ---- what holds of each piece holds of each change of a delta

module _ (start from : ℕ) (changes : List Change) (P : Change → Type 0) (pieces : (k : Key) (c : Change) → get (norm changes) k ≡ Some c → P c) where
  numbered_all : (es : List (Key × Change)) → AllByRecursion (IsPiece start changes) es → AllByRecursion (λ (e : ℕ × Change). P e.1) (numbered start changes es)
  numbered_all [] a = tt
  numbered_all (e ∷ es) a =
      subst (λ o. AllByRecursion (λ (e : ℕ × Change). P e.1) (cons_option o (numbered start changes es))) (sym (entry_is start changes e a.0))
      (pieces e.0 e.1 a.0, numbered_all es a.1)

  pub delta_all : All P (delta start changes from).changes
  delta_all =
      let es = entries (by_number start changes) in
      let found = numbered start changes (entries (norm changes)) in
      All-map P (λ (e : ℕ × Change). e.1) (take delta_limit (all start changes from))
      (All-take (λ (e : ℕ × Change). P e.1) delta_limit (all start changes from)
      (All-filter (λ (e : ℕ × Change). nat_lt from e.0) (λ (e : ℕ × Change). P e.1) es
      (All-weaker (λ (e : ℕ × Change). get (by_number start changes) e.0 ≡ Some e.1) (λ (e : ℕ × Change). P e.1)
      (λ e h. found_all P e.0 e.1 found (numbered_all (entries (norm changes)) (pieces_held start changes)) (sym (get-from_entries nat_cmp_total found e.0) ∙ h))
      es
      (All-from_recursion (λ (e : ℕ × Change). get (by_number start changes) e.0 ≡ Some e.1) es (entries_found nat_cmp_total (by_number start changes))))))

-- ---- a delta with changes comes further than it began

module _ (start from : ℕ) (changes : List Change) where
  abbrev sent_of : ℕ → List (ℕ × Change)
  sent_of m = take m (all start changes from)

  newer_than : AllByRecursion (λ (e : ℕ × Change). nat_lt from e.0 ≡ true) (all start changes from)
  newer_than = recursion_from_All (λ (e : ℕ × Change). nat_lt from e.0 ≡ true) (all start changes from) (filter_passes (λ (e : ℕ × Change). nat_lt from e.0) (entries (by_number start changes)))

  further : (es : List (ℕ × Change)) (m : ℕ) → AllByRecursion (λ (e : ℕ × Change). nat_lt from e.0 ≡ true) es → AllByRecursion (λ (e : ℕ × Change). e.0 ≤ front start changes) es → 0 < length (map (λ (e : ℕ × Change). e.1) (take m es)) → from < cond (nat_lt m (length es)) (unwrap_or (greatest (map (λ (e : ℕ × Change). e.0) (take m es))) from) (max from (front start changes))
  further [] zero a b l = absurd (omega (arith, l))
  further [] (suc m) a b l = absurd (omega (arith, l))
  further (e ∷ es) zero a b l = absurd (omega (arith, l))
  further (e ∷ es) (suc m) a b l =
      let above : from < e.0 = let h = a.0 in grind (arith, nat_tests) in
      let fits = b.0 in
      let most = greatest_least e.0 from (greatest (map (λ (e : ℕ × Change). e.0) (take m es))) in
      elim (nat_lt (suc m) (suc (length es))) as (λ t. from < cond t (unwrap_or (greatest (map (λ (e : ℕ × Change). e.0) (e ∷ take m es))) from) (max from (front start changes))) [
        | true ↦ omega (arith, above, most)
        | false ↦ omega (arith, above, fits)
      ]

  pub delta_further : 0 < length (delta start changes from).changes → from < (delta start changes from).to
  delta_further l = further (all start changes from) delta_limit newer_than (recursion_from_All (λ (e : ℕ × Change). e.0 ≤ front start changes) (all start changes from) (all_within start changes from)) l
