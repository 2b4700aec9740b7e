-- The pieces of a state by rising number, and what another state has after it took them.
use Rattle.std.proofs.Common.{◌≡◌, ℕ, ◌+◌, ◌<◌, ◌≤◌, zero, suc, true, false, Option, Some, None, List, [], ◌∷◌, ◌++◌, map, length, get_or, take, drop, refl, sym, ◌∙◌, ap, subst, arith, ⊎_elim, inl, inr}
use Rattle.std.proofs.lemmas.Bool.Decides.{nat_tests}
use Rattle.std.proofs.lemmas.Cmp.{nat_cmp_total}
use Rattle.std.proofs.lemmas.List.Elements.{Contains-get_or, Contains-append_left, Contains-append_right, Contains-append_cases}
use Rattle.std.proofs.lemmas.Map.Keys.{IsDistinct-cons}
use Rattle.std.proofs.lemmas.Map.Lookups.{exact_unsigned}
use Rattle.std.specs.declared.cmp.Ordering.TheVariants.{Less}
use Rattle.std.specs.FinMap as finite
use Rattle.std.specs.List.{filter, IsDistinct, AllByRecursion}
use Rattle.std.specs.List.Sorted.{IsStrictlySortedBy}
use Rattle.std.specs.Option.{IfSome, option_map, unwrap_or}
use Rattle.std.proofs.lemmas.Option.{same_Some, slice_get-get_or}
use Rattle.std.proofs.lemmas.List.{get_or-map, length-map}
use Rattle.std.proofs.lemmas.Cmp.{tied_itself}
use Rattle.std.specs.Ordering.{nat_cmp, is_lt, is_gt}
use Rattle.std.specs.Prelude.{nat_lt, ◌↔◌}
use Rattle.chat_change.specs.Key.{key_of, same_key}
use Rattle.chat_change.specs.declared.change.Change.{Change}
use Rattle.chat_change.proofs.CallerLemmas.{key_total, key_exact, same_key_is}
use Rattle.chat_history.specs.Choice.{Among, IsFirst}
use Rattle.chat_history.specs.StateValue.{StateValue, IsStoppedAt, IsPastTheLast}
use Rattle.chat_history.specs.History.{norm, changes_of, SameSet, join}
use Rattle.chat_history.specs.Merging.{number_in, IsByNumber}
use Rattle.chat_buffers.specs.Store.{Store, Numbered, history_in, numbers_in, by_number, pieces_above}
use Rattle.chat_state.specs.State.{value_of, IsSound}
use Rattle.chat_history.proofs.CallerLemmas.{valued, value_among, got, get_entry, ordered_member, member_ordered, ordered_by_key}
use Rattle.chat_history.proofs.CallerLemmas.{among, contained, among-filter, among_passing, mapped, image}
use Rattle.chat_history.proofs.CallerLemmas.{norm_of_set}
use Rattle.chat_history.proofs.CallerLemmas.{filter_alike, from_member, passing_from, none_passing}
use Rattle.chat_state.proofs.StateLemmas.{keyed, change_bears}
use Rattle.chat_buffers.proofs.CallerLemmas.{by_number_total, get-history, get-numbers_in}
use Rattle.chat_history.proofs.CallerLemmas.{change_held, held_change}

abbrev pub change : Numbered → Change
change p = p.change

abbrev pub number : Numbered → ℕ
number p = p.number

-- ---- lists of pieces

pub some_of : {A B : Type 0} (f : A → B) (o : Option A) (y : B) → option_map f o ≡ Some y → (x : A) × (o ≡ Some x) × (f x ≡ y)
some_of f None y e = cc
some_of f (Some x) y e = (x, refl, cc e)

less_at : (p : Numbered) (qs : List Numbered) (j : ℕ) (d : Numbered) → AllByRecursion (λ q. by_number p q ≡ Less) qs → j < length qs → by_number p (get_or qs j d) ≡ Less
less_at p [] j d h l = absurd (omega arith)
less_at p (q ∷ qs) zero d h l = h.0
less_at p (q ∷ qs) (suc j) d h l = less_at p qs j d h.1 (omega arith)

le_of_less : (p q : Numbered) → by_number p q ≡ Less → p.number ≤ q.number
le_of_less p q e = let t : is_lt (by_number p q) ≡ true = ap is_lt e in grind (arith, nat_tests)

pub rising_at : (ps : List Numbered) (i j : ℕ) (d : Numbered) → IsStrictlySortedBy by_number ps → i ≤ j → j < length ps → (get_or ps i d).number ≤ (get_or ps j d).number
unfolding IsStrictlySortedBy
rising_at [] i j d h le l = absurd (omega arith)
rising_at (p ∷ ps) zero zero d h le l = omega arith
rising_at (p ∷ ps) zero (suc j) d h le l = le_of_less p (get_or ps j d) (less_at p ps j d h.0 (omega arith))
rising_at (p ∷ ps) (suc i) zero d h le l = absurd (omega arith)
rising_at (p ∷ ps) (suc i) (suc j) d h le l = rising_at ps i j d h.1 (omega arith) (omega arith)

-- ---- the pieces in order

-- the pieces by rising number
abbrev pub turn : Store → List Numbered
turn s = finite.values (finite.from_entries {R = nat_cmp} (map (λ (p : Numbered). (p.number, p)) (finite.values s)))

-- those of them above a number
abbrev pub left : Store → ℕ → List Numbered
left s n = filter (λ (p : Numbered). nat_lt n p.number) (turn s)

module _ (s : Store) (front : ℕ) (sound : IsSound s front) where
  -- a piece stands under the key that its change bears
  pub held_at : (p : Numbered) → Among p (finite.values s) → finite.get s (key_of p.change) ≡ Some p
  held_at p m =
      let v = valued (finite.entries s) p m in
      let at : finite.get s v.0 ≡ Some p = get_entry key_total key_exact s v.0 p v.1 in
      let bears : key_of p.change ≡ v.0 = subst (λ o. IfSome (option_map change o) (λ c. key_of c ≡ v.0)) at (change_bears s sound.normal v.0) in
      ap (finite.get s) bears ∙ at

  pub number_of : (p : Numbered) → Among p (finite.values s) → finite.get (numbers_in s) (key_of p.change) ≡ Some p.number
  number_of p m = get-numbers_in s (key_of p.change) ∙ ap (option_map number) (held_at p m)

  one_number : (p q : Numbered) → Among p (finite.values s) → Among q (finite.values s) → q.number ≡ p.number → q ≡ p
  one_number p q m n e =
      let k : key_of q.change ≡ key_of p.change = sound.numbers.distinct (key_of q.change) (key_of p.change) p.number (number_of q n ∙ ap Some e) (number_of p m) in
      same_Some q p (sym (held_at q n) ∙ ap (finite.get s) k ∙ held_at p m)

  pub in_turn : (p : Numbered) → Among p (turn s) ↔ Among p (finite.values s)
  in_turn p = (
    λ m. ordered_member nat_cmp_total exact_unsigned number (finite.values s) p m,
    λ m. member_ordered nat_cmp_total exact_unsigned number (finite.values s) p m (λ q n e. one_number p q m n e),
  )

  pub turn_sorted : IsStrictlySortedBy by_number (turn s)
  turn_sorted = ordered_by_key nat_cmp_total exact_unsigned number (finite.values s)

  -- ---- what is left above a number

  passing : (n : ℕ) (p : Numbered) → Among p (pieces_above n s) ↔ (Among p (turn s) × (nat_lt n p.number ≡ true))
  passing n p = (
    λ m. let r = among-filter (λ (p : Numbered). nat_lt n p.number) (finite.values s) p m in ((in_turn p).1 r.0, r.1),
    λ v. among_passing (λ (p : Numbered). nat_lt n p.number) (finite.values s) p ((in_turn p).0 v.0) v.1,
  )

  closed : (n : ℕ) (x y : Numbered) → nat_lt n x.number ≡ true → is_gt (by_number x y) ≡ false → nat_lt n y.number ≡ true
  closed n x y t l = grind (arith, nat_tests)

  lt_test : (x y : Numbered) → is_lt (by_number x y) ≡ nat_lt x.number y.number
  lt_test x y = grind (arith, nat_tests)

  pub left_none : (n : ℕ) → IsFirst by_number (pieces_above n s) None → left s n ≡ []
  left_none n f = none_passing by_number_total (turn s) (pieces_above n s) (λ (p : Numbered). nat_lt n p.number) (closed n) (passing n) f

  pub left_some : (n : ℕ) (p : Numbered) → IsFirst by_number (pieces_above n s) (Some p) → left s n ≡ p ∷ left s p.number
  left_some n p f =
      passing_from by_number_total (turn s) (pieces_above n s) (λ (p : Numbered). nat_lt n p.number) (closed n) (passing n) p f
      ∙ from_member by_number_total (turn s) p turn_sorted ((passing n p).0 f.0).0
      ∙ ap (λ ps. p ∷ ps) (filter_alike (λ y. is_lt (by_number p y)) (λ (q : Numbered). nat_lt p.number q.number) (turn s) (λ y m. lt_test p y))

  pub is_above : (n : ℕ) (p : Numbered) → IsFirst by_number (pieces_above n s) (Some p) → n < p.number
  is_above n p f = let t = ((passing n p).0 f.0).1 in grind (arith, nat_tests)

  pub left_all : left s 0 ≡ (turn s)
  left_all = filter_alike (λ (p : Numbered). nat_lt 0 p.number) (λ (p : Numbered). true) (turn s) (λ p m.
      let l = sound.numbers.positive (key_of p.change) p.number (number_of p ((in_turn p).0 m)) in
      grind (arith, nat_tests)) ∙ all_of (turn s)
    where
      all_of : (ps : List Numbered) → filter (λ (p : Numbered). true) ps ≡ ps
      all_of [] = refl
      all_of (p ∷ ps) = ap (λ qs. p ∷ qs) (all_of ps)

  -- ---- the turn is what is meant by the pieces by rising number

  one_set : SameSet (map change (turn s)) (changes_of (history_in s))
  one_set c =
      let k = keyed s sound.normal in (
        λ h.
            let r = mapped change (turn s) c (among (map change (turn s)) c h) in
            let at : finite.get (history_in s) (key_of r.0.change) ≡ Some r.0.change = get-history s (key_of r.0.change) ∙ ap (option_map change) (held_at r.0 ((in_turn r.0).0 r.1)) in
            contained (changes_of (history_in s)) c (subst (λ d. Among d (changes_of (history_in s))) r.2 (held_change (history_in s) k r.0.change at)),
        λ h.
            let at = change_held (history_in s) k c (among (changes_of (history_in s)) c h) in
            let r = some_of change (finite.get s (key_of c)) c (sym (get-history s (key_of c)) ∙ at) in
            let m = (in_turn r.0).1 (value_among (finite.entries s) (key_of c) r.0 (got key_total key_exact s (key_of c) r.0 r.1)) in
            contained (map change (turn s)) c (subst (λ d. Among d (map change (turn s))) r.2 (image change (turn s) r.0 m)),
      )

  apart_keys : (p q : Numbered) → Among p (finite.values s) → Among q (finite.values s) → by_number p q ≡ Less → same_key (key_of p.change) (key_of q.change) ≡ false
  apart_keys p q m n l =
      elim (same_key (key_of p.change) (key_of q.change)) as (λ b. same_key (key_of p.change) (key_of q.change) ≡ b → b ≡ false) [
        | true ↦ λ e.
            let same : p ≡ q = same_Some p q (sym (held_at p m) ∙ ap (finite.get s) (same_key_is (key_of p.change) (key_of q.change) e) ∙ held_at q n) in
            let both : by_number p p ≡ Less = ap (by_number p) same ∙ l in
            let tied = tied_itself by_number_total p in
            cc
        | false ↦ λ _. refl
      ] refl

  apart_all : (p : Numbered) (qs : List Numbered) → Among p (finite.values s) → ((q : Numbered) → Among q qs → Among q (finite.values s)) → AllByRecursion (λ q. by_number p q ≡ Less) qs → AllByRecursion (λ k. same_key (key_of p.change) k ≡ false) (map key_of (map change qs))
  apart_all p [] m within h = tt
  apart_all p (q ∷ qs) m within h = (apart_keys p q m (within q (inl refl)) h.0, apart_all p qs m (λ r n. within r (inr n)) h.1)

  pub once_in : (ps : List Numbered) → ((p : Numbered) → Among p ps → Among p (finite.values s)) → IsStrictlySortedBy by_number ps → IsDistinct same_key (map key_of (map change ps))
  unfolding IsStrictlySortedBy IsDistinct
  once_in [] within h = tt
  once_in (p ∷ ps) within h =
      IsDistinct-cons same_key (key_of p.change) (map key_of (map change ps)) (apart_all p ps (within p (inl refl)) (λ q m. within q (inr m)) h.0) (once_in ps (λ q m. within q (inr m)) h.1)

  number_at : (i : ℕ) (d : Change) → i < length (turn s) → let q : Numbered = record { number = 0; change = d } in number_in (value_of s front) (get_or (map change (turn s)) i d) ≡ (get_or (turn s) i q).number
  number_at i d l =
      let q : Numbered = record { number = 0; change = d } in
      let m : Among (get_or (turn s) i q) (turn s) = among (turn s) (get_or (turn s) i q) (Contains-get_or (turn s) i q l) in
      ap (number_in (value_of s front)) (get_or-map change (turn s) i q d l)
      ∙ ap (λ o. unwrap_or o 0) (number_of (get_or (turn s) i q) ((in_turn (get_or (turn s) i q)).0 m))

  pub by_number_is : IsByNumber (value_of s front) (map change (turn s))
  by_number_is = record {
    pieces = one_set;
    once = once_in (turn s) (λ p m. (in_turn p).0 m) turn_sorted;
    rising = λ i j d le l.
        let q : Numbered = record { number = 0; change = d } in
        let inside : j < length (turn s) = omega (arith, length-map (turn s) change) in
        let a = number_at i d (omega arith) in
        let b = number_at j d inside in
        let c = rising_at (turn s) i j q turn_sorted le inside in
        omega arith;
  }

-- ---- how far the turn is taken

pub drop_step : (all : List Numbered) (i : ℕ) (p : Numbered) (rest : List Numbered) → drop i all ≡ p ∷ rest → (i < length all) × (get_or all i p ≡ p) × (drop (i + 1) all ≡ rest)
drop_step [] zero p rest e = absurd (let no : ⊥ = cc in no)
drop_step [] (suc i) p rest e = absurd (let no : ⊥ = cc in no)
drop_step (q ∷ all) zero p rest e = let is : q ≡ p = cc e in let r : all ≡ rest = cc e in ((omega arith), is, r)
drop_step (q ∷ all) (suc i) p rest e =
    let r = drop_step all i p rest e in
    let more : suc i + 1 ≡ suc (i + 1) = omega arith in
    (omega (arith, r.0), r.1, ap (λ k. drop k (q ∷ all)) more ∙ r.2)

pub next_in : (all : List Numbered) (i : ℕ) (p : Numbered) (rest : List Numbered) → drop i all ≡ p ∷ rest → (i < length (map change all)) × (p.change ≡ get_or (map change all) i p.change)
next_in all i p rest e =
    let r = drop_step all i p rest e in
    (omega (arith, r.0, length-map all change), sym (get_or-map change all i p p.change r.0 ∙ ap change r.1))

pub stopped_at : (h : StateValue) (cs : List Change) (i : ℕ) (c : Change) (E : Type 0) → i < length cs → c ≡ get_or cs i c → E ↔ IsPastTheLast h c → IsStoppedAt h cs i E
stopped_at h cs i c E l is past = (
  l,
  λ d e.
      let same : c ≡ d = same_Some c d (ap Some is ∙ sym (slice_get-get_or cs i c l) ∙ e) in
      subst (λ x. E ↔ IsPastTheLast h x) same past,
)

pub drop_end : (all : List Numbered) (i : ℕ) → drop i all ≡ [] → take i (map change all) ≡ map change all
drop_end [] zero e = refl
drop_end [] (suc i) e = refl
drop_end (q ∷ all) zero e = cc
drop_end (q ∷ all) (suc i) e = ap (λ cs. q.change ∷ cs) (drop_end all i e)

-- ---- what is taken

module _ (old other new : StateValue) (turn : List Change) (by_number : IsByNumber other turn) where
  joined_set : SameSet (changes_of old.history ++ turn) (changes_of old.history ++ changes_of other.history)
  joined_set c = (
    λ h. ⊎_elim (Contains-append_left (changes_of old.history) (changes_of other.history) c) (λ t. Contains-append_right (changes_of old.history) (changes_of other.history) c ((by_number.pieces c).0 t)) (Contains-append_cases (changes_of old.history) turn c h),
    λ h. ⊎_elim (Contains-append_left (changes_of old.history) turn c) (λ t. Contains-append_right (changes_of old.history) turn c ((by_number.pieces c).1 t)) (Contains-append_cases (changes_of old.history) (changes_of other.history) c h),
  )

  pub merged : new.history ≡ norm (changes_of old.history ++ turn) → new.history ≡ join (changes_of old.history) (changes_of other.history)
  merged h = h ∙ norm_of_set (changes_of old.history ++ turn) (changes_of old.history ++ changes_of other.history) joined_set
