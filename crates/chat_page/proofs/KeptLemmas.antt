-- The first or the last of a set of buffers, kept while buffers are put into it one by one.
use Rattle.std.proofs.Common.{◌≡◌, ◌<◌, ◌≤◌, ◌-◌, ℕ, zero, suc, Bool, true, false, List, [], ◌∷◌, ◌++◌, Some, length, take, drop, filter, map, if◌then◌else◌, slice_get, All, cond, min, max, nat_lt, refl, sym, ap, ◌∙◌, subst, append-nil, ⊎_elim, arith, length-drop}
use Rattle.std.specs.Prelude.{◌||◌}
use Rattle.std.specs.declared.cmp.Ordering.{Ordering}
use Rattle.std.specs.declared.cmp.Ordering.TheVariants.{Less, Equal, Greater}
use Rattle.std.specs.Ordering.{is_lt, is_le, is_ge, eq_by_cmp, match_ordering, ordering_reverse, nat_cmp}
use Rattle.std.specs.Cmp.{IsTotalOrder}
use Rattle.std.specs.List.{AllByRecursion, list_any}
use Rattle.std.specs.List.Sorted.{IsStrictlySortedBy}
use Rattle.std.specs.FinMap.{from_entries, keys}
use Rattle.std.specs.BTreeSet as tree
use Rattle.std.specs.BTreeSet.{BTreeSet, insert_key}
use Rattle.std.proofs.lemmas.Bool.{false≢true, cases_lt, cond-false, false_from_ne_true, and_parts, ltb-true, le-leb}
use Rattle.std.proofs.lemmas.Bool.Decides.{nat_tests}
use Rattle.std.proofs.lemmas.List.{take_all, take-take, length-take}
use Rattle.std.proofs.lemmas.List.Elements.{All-head, All-tail, filter-append}
use Rattle.std.proofs.lemmas.List.Folds.{list_any-append}
use Rattle.chat_change.specs.Buffer.{Buffer}
use Rattle.chat_history.specs.History.{History}
use Rattle.chat_history.specs.Latest.{latest_in}
use Rattle.chat_history.specs.Visible.{spot_cmp}
use Rattle.chat_history.proofs.CallerLemmas.{spot_total}
use Rattle.chat_state.specs.LatestSince.{is_since, latest_since_in}
use Rattle.chat_query.specs.Page.{last, listed, lies_between}
use Rattle.chat_query.proofs.CallerLemmas.{Listed, spot_exact, set_is}

-- ---- the last of a list

no_items : {A : Type 0} (xs : List A) → length xs ≡ 0 → xs ≡ []
no_items [] e = refl
no_items (x ∷ xs) e = absurd (omega arith)

module _ {A : Type 0} (n : ℕ) where
  last_all : (xs : List A) → length xs ≤ n → last n xs ≡ xs
  last_all xs h = let e : length xs - n ≡ 0 = omega arith in ap (λ k. drop k xs) e

  last_tail : (x : A) (xs : List A) → n ≤ length xs → last n (x ∷ xs) ≡ last n xs
  last_tail x xs h = let e : suc (length xs) - n ≡ suc (length xs - n) = omega arith in ap (λ k. drop k (x ∷ xs)) e

-- ---- one more key in a list of keys

by_order : {A : Type 0} (P : List A → Type 0) (o : Ordering) (xs ys zs : List A) → (o ≡ Less → P xs) → (o ≡ Equal → P ys) → (o ≡ Greater → P zs) → P (match_ordering o xs ys zs)
by_order P Less xs ys zs a b c = a refl
by_order P Equal xs ys zs a b c = b refl
by_order P Greater xs ys zs a b c = c refl

module _ {A : Type 0} (R : A → A → Ordering) where
  length-insert : (xs : List A) (x : A) → length xs ≤ length (insert_key R xs x)
  length-insert [] x = omega arith
  length-insert (y ∷ ys) x =
      let h = length-insert ys x in
      by_order (λ l. suc (length ys) ≤ length l) (R x y) _ _ _ (λ _. omega arith) (λ _. omega arith) (λ _. omega arith)

  insert_below : (xs : List A) (x : A) → AllByRecursion (λ y. R x y ≡ Less) xs → insert_key R xs x ≡ x ∷ xs
  insert_below [] x h = refl
  insert_below (y ∷ ys) x h = ap (λ o. match_ordering o (x ∷ y ∷ ys) (y ∷ ys) (y ∷ insert_key R ys x)) h.0

  all_insert : (P : A → Type 0) (xs : List A) (x : A) → P x → AllByRecursion P xs → AllByRecursion P (insert_key R xs x)
  all_insert P [] x p h = (p, tt)
  all_insert P (y ∷ ys) x p h =
      by_order (AllByRecursion P) (R x y) _ _ _ (λ _. (p, h)) (λ _. h) (λ _. (h.0, all_insert P ys x p h.1))

  -- ---- the first of them

  take_insert : (n : ℕ) (xs : List A) (x : A) → take n (insert_key R (take n xs) x) ≡ take n (insert_key R xs x)
  take_insert zero xs x = refl
  take_insert (suc n) [] x = refl
  take_insert (suc n) (y ∷ ys) x = by (R x y) (take_insert n ys x) where
    by : (o : Ordering) → take n (insert_key R (take n ys) x) ≡ take n (insert_key R ys x) → take (suc n) (match_ordering o (x ∷ y ∷ take n ys) (y ∷ take n ys) (y ∷ insert_key R (take n ys) x)) ≡ take (suc n) (match_ordering o (x ∷ y ∷ ys) (y ∷ ys) (y ∷ insert_key R ys x))
    by Less h = ap (λ l. x ∷ l) (take-take n (suc n) (y ∷ ys) (omega arith))
    by Equal h = ap (λ l. y ∷ l) (take-take n n ys (omega arith))
    by Greater h = ap (λ l. y ∷ l) h

  -- ---- the last of them

  pub last_before : (n : ℕ) (xs : List A) (x y : A) → length xs ≡ n → slice_get xs 0 ≡ Some y → is_le (R x y) ≡ true → last n (insert_key R xs x) ≡ xs
  last_before n [] x y e g h = cc
  last_before n (z ∷ zs) x y e g h =
      let same : z ≡ y = cc in
      by_order (λ l. last n l ≡ z ∷ zs) (R x z) _ _ _
      (λ _. last_tail n x (z ∷ zs) (omega arith) ∙ last_all n (z ∷ zs) (omega arith))
      (λ _. last_all n (z ∷ zs) (omega arith))
      (λ g. absurd (false≢true (ap is_le (sym g ∙ ap (R x) same) ∙ h)))

module _ {A : Type 0} {R : A → A → Ordering} (o : IsTotalOrder R) where
  -- what stands behind the last of some stands behind each of them
  behind_end : (x y z : A) → is_ge (R x y) ≡ true → is_lt (R y z) ≡ false → is_lt (R x z) ≡ false
  behind_end x y z g h =
      elim (R x z) as (λ w. R x z ≡ w → is_lt w ≡ false) [
        | Less ↦ λ l. elim (R x y) as (λ w. R x y ≡ w → is_ge w ≡ true → true ≡ false) [
          | Less ↦ λ _ k. absurd (false≢true k)
          | Equal ↦ λ e _. sym (ap is_lt (sym (o.congr x y z e) ∙ l)) ∙ h
          | Greater ↦ λ e _. sym (ap is_lt (o.trans y x z (o.antisymm y x ∙ ap ordering_reverse e) l)) ∙ h
        ] refl g
        | Equal ↦ λ _. refl
        | Greater ↦ λ _. refl
      ] refl

  pub take_behind : (n : ℕ) (xs : List A) (x y : A) → length xs ≡ n → is_ge (R x y) ≡ true → All (λ z. is_lt (R y z) ≡ false) xs → take n (insert_key R xs x) ≡ xs
  take_behind zero [] x y e g a = refl
  take_behind zero (z ∷ zs) x y e g a = absurd (omega arith)
  take_behind (suc n) [] x y e g a = absurd (omega arith)
  take_behind (suc n) (z ∷ zs) x y e g a =
      let m : length zs ≡ n = omega arith in
      by_order (λ l. take (suc n) l ≡ z ∷ zs) (R x z) _ _ _
      (λ l. absurd (false≢true (sym (behind_end x y z g (All-head (λ z. is_lt (R y z) ≡ false) z zs a)) ∙ ap is_lt l)))
      (λ _. take_all (suc n) (z ∷ zs) (omega arith))
      (λ _. ap (λ l. z ∷ l) (take_behind n zs x y m g (All-tail (λ z. is_lt (R y z) ≡ false) z zs a)))

  below_all : (x y : A) (ys : List A) → R x y ≡ Less → AllByRecursion (λ z. R y z ≡ Less) ys → AllByRecursion (λ z. R x z ≡ Less) ys
  below_all x y [] l h = tt
  below_all x y (z ∷ zs) l h = (o.trans x y z l h.0, below_all x y zs l h.1)

  tied_below : (x y : A) (ys : List A) → R x y ≡ Equal → AllByRecursion (λ z. R y z ≡ Less) ys → AllByRecursion (λ z. R x z ≡ Less) ys
  tied_below x y [] e h = tt
  tied_below x y (z ∷ zs) e h = (o.congr x y z e ∙ h.0, tied_below x y zs e h.1)

  sorted_insert : (xs : List A) (x : A) → IsStrictlySortedBy R xs → IsStrictlySortedBy R (insert_key R xs x)
  unfolding IsStrictlySortedBy
  sorted_insert [] x s = (tt, tt)
  sorted_insert (y ∷ ys) x s =
      by_order (IsStrictlySortedBy R) (R x y) _ _ _
      (λ l. ((l, below_all x y ys l s.0), s))
      (λ _. s)
      (λ g. (all_insert R (λ z. R y z ≡ Less) ys x (o.antisymm y x ∙ ap ordering_reverse g) s.0, sorted_insert ys x s.1))

  last_insert : (n : ℕ) (xs : List A) (x : A) → IsStrictlySortedBy R xs → last n (insert_key R (last n xs) x) ≡ last n (insert_key R xs x)
  unfolding IsStrictlySortedBy
  last_insert n [] x s = ap (λ l. last n (insert_key R l x)) (last_all n [] (omega arith))
  last_insert n (y ∷ ys) x s = ⊎_elim
      (λ (l : length ys < n). ap (λ l. last n (insert_key R l x)) (last_all n (y ∷ ys) (omega arith)))
      (λ (m : n ≤ length ys).
      ap (λ l. last n (insert_key R l x)) (last_tail n y ys m)
      ∙ last_insert n ys x s.1
      ∙ by_order (λ l. last n (insert_key R ys x) ≡ last n l) (R x y) _ _ _
      (λ l. ap (last n) (insert_below R ys x (below_all x y ys l s.0)) ∙ last_tail n x ys m ∙ sym (last_tail n y ys m) ∙ sym (last_tail n x (y ∷ ys) (omega arith)))
      (λ e. ap (last n) (insert_below R ys x (tied_below x y ys e s.0)) ∙ last_tail n x ys m ∙ sym (last_tail n y ys m))
      (λ _. sym (last_tail n y (insert_key R ys x) (let h = length-insert R ys x in omega arith))))
      (cases_lt (length ys) n)

-- ---- what is kept of a list

turned : (a b : Bool) → (a || b) ≡ (b || (a || false))
turned true true = refl
turned true false = refl
turned false true = refl
turned false false = refl

absorbed : (a b c : Bool) → a ≡ b → (b || c) ≡ ((b || c) || (a || false))
absorbed true true c e = refl
absorbed true false c e = absurd (false≢true (sym e))
absorbed false true c e = refl
absorbed false false true e = refl
absorbed false false false e = refl

regrouped : (a b c : Bool) → (a || (b || c)) ≡ ((a || b) || c)
regrouped true b c = refl
regrouped false b c = refl

module _ (q : Listed) where
  abbrev is_q : Listed → Bool
  is_q = eq_by_cmp spot_cmp q

  member-insert : (xs : List Listed) (x : Listed) → list_any is_q (insert_key spot_cmp xs x) ≡ (list_any is_q xs || list_any is_q (x ∷ []))
  member-insert [] x = refl
  member-insert (y ∷ ys) x =
      by_order (λ l. list_any is_q l ≡ (list_any is_q (y ∷ ys) || list_any is_q (x ∷ []))) (spot_cmp x y) _ _ _
      (λ _. turned (is_q x) (list_any is_q (y ∷ ys)))
      (λ e. absorbed (is_q x) (is_q y) (list_any is_q ys) (ap is_q (spot_exact x y e)))
      (λ _. ap (λ b. is_q y || b) (member-insert ys x) ∙ regrouped (is_q y) (list_any is_q ys) (list_any is_q (x ∷ [])))

module _ (forward : Bool) (n : ℕ) where
  abbrev cut : List Listed → List Listed
  cut xs = if forward then take n xs else last n xs

  -- the set has the first n, or the last n, of the set that a list makes
  abbrev pub IsCutOf : List Listed → BTreeSet Listed → Type 0
  IsCutOf xs kept = (all : BTreeSet Listed) × tree.IsFromIterResult spot_cmp xs all × (kept.keys ≡ cut all.keys)

  pub cut_none : (kept : BTreeSet Listed) → length kept.keys ≡ 0 → IsCutOf [] kept
  unfolding IsStrictlySortedBy
  cut_none kept e = (record { keys = [] }, (λ q. refl, tt), by forward) where
    by : (b : Bool) → kept.keys ≡ (if b then take n [] else last n [])
    by true = no_items kept.keys e ∙ sym (take_all n [] (omega arith))
    by false = no_items kept.keys e ∙ sym (last_all n [] (omega arith))

  pub cut_more : (xs : List Listed) (x : Listed) (old kept : BTreeSet Listed) → IsCutOf xs old → kept.keys ≡ cut (insert_key spot_cmp old.keys x) → IsCutOf (xs ++ x ∷ []) kept
  cut_more xs x old kept h e = (
    record { keys = insert_key spot_cmp h.0.keys x },
    (λ q. member-insert q h.0.keys x ∙ ap (λ b. b || list_any (eq_by_cmp spot_cmp q) (x ∷ [])) (h.1.0 q) ∙ sym (list_any-append (eq_by_cmp spot_cmp q) xs (x ∷ [])), sorted_insert spot_total h.0.keys x h.1.1),
    e ∙ ap (λ l. cut (insert_key spot_cmp l x)) h.2 ∙ by forward,
  ) where
    by : (b : Bool) → (λ (f : List Listed → List Listed). f (insert_key spot_cmp (f h.0.keys) x) ≡ f (insert_key spot_cmp h.0.keys x)) (λ l. if b then take n l else last n l)
    by true = take_insert spot_cmp n h.0.keys x
    by false = last_insert spot_total n h.0.keys x h.1.1

  pub cut_fits : (xs : List Listed) (kept : BTreeSet Listed) → IsCutOf xs kept → length kept.keys ≤ n
  cut_fits xs kept h = subst (λ l. length l ≤ n) (sym h.2) (by forward) where
    by : (b : Bool) → length (if b then take n h.0.keys else last n h.0.keys) ≤ n
    by true = omega (arith, length-take n h.0.keys)
    by false = omega (arith, length-drop (length h.0.keys - n) h.0.keys)

  -- the same where those of a list that pass are put in
  pub cut_passing : (p : Listed → Bool) (xs : List Listed) (x : Listed) (old kept : BTreeSet Listed) → p x ≡ true → IsCutOf (filter p xs) old → kept.keys ≡ cut (insert_key spot_cmp old.keys x) → IsCutOf (filter p (xs ++ x ∷ [])) kept
  cut_passing p xs x old kept t h e =
      subst (λ l. IsCutOf l kept) (sym (filter-append p xs (x ∷ []) ∙ ap (λ b. filter p xs ++ cond b (x ∷ []) []) t)) (cut_more (filter p xs) x old kept h e)

  pub cut_other : (p : Listed → Bool) (xs : List Listed) (x : Listed) (kept : BTreeSet Listed) → p x ≡ false → IsCutOf (filter p xs) kept → IsCutOf (filter p (xs ++ x ∷ [])) kept
  cut_other p xs x kept f h =
      subst (λ l. IsCutOf l kept) (sym (filter-append p xs (x ∷ []) ∙ ap (λ b. filter p xs ++ cond b (x ∷ []) []) f ∙ append-nil (filter p xs))) h

  pub cut_is : (p : Listed → Bool) (xs : List Listed) (kept : BTreeSet Listed) → IsCutOf (filter p xs) kept → kept.keys ≡ cut (filter p (keys (from_entries {R = spot_cmp} (map (λ (e : Listed). (e, e)) xs))))
  cut_is p xs kept h = h.2 ∙ ap cut (set_is p xs h.0 h.1)

-- ---- what is left out before

-- what is left out for a reason why it wouldn't pass changes nothing
passing_alike : {A B : Type 0} (f : A → B) (p : B → Bool) (q : A → Bool) → ((x : A) → p (f x) ≡ true → q x ≡ true) → (xs : List A) → filter p (map f (filter q xs)) ≡ filter p (map f xs)
passing_alike f p q h [] = refl
passing_alike f p q h (x ∷ xs) =
    elim (q x) as (λ b. q x ≡ b → filter p (map f (cond b (x ∷ filter q xs) (filter q xs))) ≡ cond (p (f x)) (f x ∷ filter p (map f xs)) (filter p (map f xs))) [
      | true ↦ λ _. ap (λ l. cond (p (f x)) (f x ∷ l) l) (passing_alike f p q h xs)
      | false ↦ λ e. passing_alike f p q h xs ∙ sym (cond-false (p (f x)) (f x ∷ filter p (map f xs)) (filter p (map f xs)) (false_from_ne_true (p (f x)) (λ t. false≢true (sym e ∙ h x t))))
    ] refl

pub least_is : (t u : ℕ) → cond (is_lt (nat_cmp u t)) u t ≡ min t u
least_is t u = grind (arith, nat_tests)

-- of the buffers that lie between two moments none has its latest record before the lower one
pub between_since : (history : History) (account network : List ℕ) (t u low : ℕ) → low ≡ min t u → filter (lies_between t u) (listed (latest_since_in history account network low)) ≡ filter (lies_between t u) (listed (latest_in history account network))
between_since history account network t u low is =
    passing_alike (λ (b : Buffer × ℕ). (b.1, b.0.target)) (lies_between t u) (is_since low) late (latest_in history account network) where
      late : (b : Buffer × ℕ) → lies_between t u (b.1, b.0.target) ≡ true → is_since low b ≡ true
      late b e =
          let above : min t u < b.1 = ltb-true (min t u) b.1 (and_parts (nat_lt (min t u) b.1) (nat_lt b.1 (max t u)) e).0 in
          le-leb low b.1 (omega arith)
