-- The delta that is made of the pieces of a state by rising number is the delta of the list that it took.
use Rattle.std.proofs.Common.{◌≡◌, ℕ, suc, ◌+◌, ◌-◌, ◌≤◌, ◌<◌, max, Bool, true, false, cond, ◌&&◌, Option, Some, None, List, [], ◌∷◌, map, take, length, get_or, refl, sym, ◌∙◌, ap, subst, arith, T}
use Rattle.std.proofs.lemmas.Bool.{false≢true}
use Rattle.std.proofs.lemmas.Bool.Decides.{nat_tests}
use Rattle.std.proofs.lemmas.Cmp.{nat_cmp_total}
use Rattle.std.proofs.lemmas.List.{length-map, length-take, take-map, take-take, get_or-map}
use Rattle.std.proofs.lemmas.List.Sorted.{IsNonDecreasingBy-take}
use Rattle.std.proofs.lemmas.List.Elements.{Contains-get_or, recursion_from_All, All-from_recursion}
use Rattle.std.proofs.lemmas.Map.Keys.{IsDistinct-head, IsDistinct-tail}
use Rattle.std.proofs.lemmas.Map.Lookups.{exact_unsigned}
use Rattle.std.specs.List.{All, AllByRecursion, IsDistinct, cons_option}
use Rattle.std.specs.List.Sorted.{IsNonDecreasingBy, IsNonDecreasing}
use Rattle.std.specs.Ordering.{is_lt, nat_cmp, eq_by_cmp, flip_args}
use Rattle.std.specs.Option.{IfSome, option_map, unwrap_or}
use Rattle.std.specs.Prelude.{Contains, nat_lt, Result, Ok, Err, IfOk}
use Rattle.std.specs.FinMap.{find, entries, get, get-entries, get-from_entries, is_sorted}
use Rattle.std.specs.FinMap.Entries.{below_all, find-where_key, same_entries}
use Rattle.chat_change.specs.declared.change.Change.{Change}
use Rattle.chat_history.specs.Choice.{earlier, greatest}
use Rattle.chat_change.specs.Key.{Key, key_of, same_key}
use Rattle.chat_history.specs.History.{norm}
use Rattle.chat_history.specs.StateValue.{StateValue, state_after}
use Rattle.chat_history.specs.Newer.{HasPiece, IsNewer, AreFirstNewer}
use Rattle.chat_history.specs.Numbering as numbering
use Rattle.chat_history.specs.Numbering.{number, numbers, newer, delta, delta_from, delta_limit}
use Rattle.chat_state.specs.Piece.{entry_of}
use Rattle.chat_state.specs.declared.store.piece.Piece.{Piece}
use Rattle.chat_change.proofs.CallerLemmas.{same_key_itself}
use Rattle.chat_history.proofs.CallerLemmas.{get-numbers, Bears, get-norm, piece_bears, number_tells}
use Rattle.chat_history.proofs.CallerLemmas.{all_found, number_is, greatest_more}
use Rattle.chat_history.proofs.CallerLemmas as of_list
use Rattle.chat_state.specs.Turn.{number_at, change_at}

-- ---- the greatest of rising numbers

abbrev last_of : ℕ → List ℕ → ℕ
last_of n [] = n
last_of n (m ∷ ms) = last_of m ms

other_least : (a b d : ℕ) → b ≤ unwrap_or (earlier (flip_args nat_cmp) (Some a) (Some b)) d
other_least a b d = grind (arith, nat_tests)

later_is : (a b : ℕ) → a ≤ b → earlier (flip_args nat_cmp) (Some a) (Some b) ≡ Some b
later_is a b l =
    let m = greatest_more a 0 (Some b) in
    let o = other_least a b 0 in
    ap Some (omega (arith, l, m, o))

tail_rises : {X : Type 0} (n : X → ℕ) (x : X) (xs : List X) → IsNonDecreasingBy n (x ∷ xs) → IsNonDecreasingBy n xs
tail_rises n x xs h = λ i j d le l. h (suc i) (suc j) d (omega (arith, le)) (omega (arith, l))

greatest_rises : (n : ℕ) (ns : List ℕ) → IsNonDecreasing (n ∷ ns) → (greatest (n ∷ ns) ≡ Some (last_of n ns)) × (n ≤ last_of n ns)
greatest_rises n [] h = (refl, omega arith)
greatest_rises n (m ∷ ms) h =
    let rest = greatest_rises m ms (tail_rises (λ x. x) n (m ∷ ms) h) in
    let r : m ≤ last_of m ms = rest.1 in
    let here : n ≤ m = h 0 1 0 (omega arith) (omega arith) in
    let all : n ≤ last_of m ms = omega (arith, r, here) in
    (ap (earlier (flip_args nat_cmp) (Some n)) rest.0 ∙ later_is n (last_of m ms) all, all)

last_got : (n d : ℕ) (ns : List ℕ) → last_of n ns ≡ get_or (n ∷ ns) (length ns) d
last_got n d [] = refl
last_got n d (m ∷ ms) = last_got m d ms

numbers_rise : {X : Type 0} (n : X → ℕ) (xs : List X) → IsNonDecreasingBy n xs → (x : X) → IsNonDecreasing (map n xs)
numbers_rise n xs h x = λ i j d le l.
    let inside : j < length xs = omega (arith, length-map xs n) in
    let a = get_or-map n xs i x d (omega arith) in
    let b = get_or-map n xs j x d inside in
    let c = h i j x le inside in
    omega arith

pub greatest_last : {X : Type 0} (n : X → ℕ) (x r : X) (xs : List X) (d : ℕ) → IsNonDecreasingBy n (x ∷ xs) → unwrap_or (greatest (map n (x ∷ xs))) d ≡ n (get_or (x ∷ xs) (length xs) r)
greatest_last n x r xs d h =
    ap (λ o. unwrap_or o d) (greatest_rises (n x) (map n xs) (numbers_rise n (x ∷ xs) h x)).0
    ∙ last_got (n x) d (map n xs)
    ∙ ap (λ k. get_or (map n (x ∷ xs)) k d) (length-map xs n)
    ∙ get_or-map n (x ∷ xs) (length xs) r d (omega arith)

pub greatest_at_end : {X : Type 0} (n : X → ℕ) (r : X) (xs : List X) (d : ℕ) → IsNonDecreasingBy n xs → 0 < length xs → r ≡ get_or xs (length xs - 1) r → n r ≡ unwrap_or (greatest (map n xs)) d
greatest_at_end n r [] d h l e = absurd (omega (arith, l))
greatest_at_end n r (x ∷ xs) d h l e =
    let at : length (x ∷ xs) - 1 ≡ length xs = omega arith in
    ap n (e ∙ ap (λ k. get_or (x ∷ xs) k r) at) ∙ sym (greatest_last n x r xs d h)

-- ---- the pieces of a state by rising number are those of the list that it took

both : (a b : Bool) → T a → T b → T (a && b)
both true b p q = q
both false b p q = absurd p

below : (a b : ℕ) → a < b → T (is_lt (nat_cmp a b))
below a b l = grind (arith, nat_tests)

same_option : {X : Type 0} (o p : Option X) → ((x : X) → o ≡ Some x → p ≡ Some x) → ((x : X) → p ≡ Some x → o ≡ Some x) → o ≡ p
same_option None None f g = refl
same_option None (Some y) f g = g y refl
same_option (Some x) p f g = sym (f x refl)

member_from : {X : Type 0} (n : ℕ) (x : X) (es : List (ℕ × X)) → find nat_cmp n es ≡ Some x → Contains es (n, x)
member_from n x [] h = cc
member_from n x (e ∷ es) h =
    elim (eq_by_cmp nat_cmp n e.0) as (λ b. eq_by_cmp nat_cmp n e.0 ≡ b → cond b (Some e.1) (find nat_cmp n es) ≡ Some x → Contains (e ∷ es) (n, x)) [
      | true ↦ λ t h. (0, omega arith, (let p = number_is n e.0 t in let q : e.1 ≡ x = cc h in λ i. (sym p i, q i)))
      | false ↦ λ _ h. let rest = member_from n x es h in (suc rest.0, (let l = rest.1 in omega arith), rest.2)
    ] refl h

module _ (start from : ℕ) (changes : List Change) where
  abbrev IsOne : ℕ × Change → Type 0
  IsOne e = HasPiece (state_after start changes) e × (from < e.0)

  number_of : (k : Key) (c : Change) (n : ℕ) → get (norm changes) k ≡ Some c → get (numbers start changes) k ≡ Some n → number start changes k ≡ n
  number_of k c n is at = cc (sym (get-numbers start changes k ∙ ap (option_map (λ _. number start changes k)) is) ∙ at)

  apart : (e f : ℕ × Change) → IsOne e → IsOne f → e.0 ≤ f.0 → same_key (key_of e.1) (key_of f.1) ≡ false → e.0 < f.0
  apart e f p q l differ =
      elim (nat_lt e.0 f.0) as (λ b. nat_lt e.0 f.0 ≡ b → e.0 < f.0) [
        | true ↦ λ t. grind (arith, nat_tests)
        | false ↦ λ t.
            let tie : e.0 ≡ f.0 = grind (arith, nat_tests) in
            let k = number_tells start changes (key_of e.1) (key_of f.1) e.1 p.0.0 (number_of (key_of e.1) e.1 e.0 p.0.0 p.0.1 ∙ tie ∙ sym (number_of (key_of f.1) f.1 f.0 q.0.0 q.0.1)) in
            absurd (false≢true (sym differ ∙ subst (λ x. same_key (key_of e.1) x ≡ true) k (same_key_itself (key_of e.1))))
      ] refl

  below_rest : (e : ℕ × Change) (es : List (ℕ × Change)) → IsOne e → AllByRecursion IsOne es → AllByRecursion (λ k. same_key (key_of e.1) k ≡ false) (map (λ (f : ℕ × Change). key_of f.1) es) → AllByRecursion (λ (f : ℕ × Change). e.0 ≤ f.0) es → T (below_all nat_cmp e.0 es)
  below_rest e [] p all differ rise = tt
  below_rest e (f ∷ es) p all differ rise =
      both (is_lt (nat_cmp e.0 f.0)) (below_all nat_cmp e.0 es) (below e.0 f.0 (apart e f p all.0 rise.0 differ.0)) (below_rest e es p all.1 differ.1 rise.1)

  rising_sorted : (es : List (ℕ × Change)) → AllByRecursion IsOne es → IsDistinct same_key (map (λ (f : ℕ × Change). key_of f.1) es) → IsNonDecreasingBy (λ (f : ℕ × Change). f.0) es → T (is_sorted nat_cmp es)
  rising_sorted [] all once rise = tt
  rising_sorted (e ∷ es) all once rise =
      let keys = map (λ (f : ℕ × Change). key_of f.1) es in
      let above : All (λ (f : ℕ × Change). e.0 ≤ f.0) es = λ i d l. rise 0 (suc i) d (omega arith) (omega (arith, l)) in
      both (below_all nat_cmp e.0 es) (is_sorted nat_cmp es)
      (below_rest e es all.0 all.1 (IsDistinct-head same_key (key_of e.1) keys once) (recursion_from_All (λ (f : ℕ × Change). e.0 ≤ f.0) es above))
      (rising_sorted es all.1 (IsDistinct-tail same_key (key_of e.1) keys once) (tail_rises (λ (f : ℕ × Change). f.0) e es rise))

  found_key : (es : List (Key × Change)) → AllByRecursion (of_list.IsPiece start changes) es → (n : ℕ) (c : Change) → find nat_cmp n (of_list.numbered start changes es) ≡ Some c → (k : Key) × (get (norm changes) k ≡ Some c) × (number start changes k ≡ n)
  found_key [] a n c h = cc
  found_key (e ∷ es) a n c h =
      let f = number start changes e.0 in
      let rest = of_list.numbered start changes es in
      elim (eq_by_cmp nat_cmp n f) as (λ b. eq_by_cmp nat_cmp n f ≡ b → cond b (Some e.1) (find nat_cmp n rest) ≡ Some c → (k : Key) × (get (norm changes) k ≡ Some c) × (number start changes k ≡ n)) [
        | true ↦ λ t h. (e.0, a.0 ∙ h, sym (number_is n f t))
        | false ↦ λ _ h. found_key es a.1 n c h
      ] refl (sym (ap (λ o. find nat_cmp n (cons_option o rest)) (of_list.entry_is start changes e a.0)) ∙ h)

  passed : (b : Bool) (o : Option Change) (c : Change) → cond b o None ≡ Some c → (b ≡ true) × (o ≡ Some c)
  passed true o c h = (refl, h)
  passed false o c h = cc

  newer_one : (n : ℕ) (c : Change) → find nat_cmp n (of_list.all start changes from) ≡ Some c → IsOne (n, c)
  newer_one n c h =
      let map = of_list.by_number start changes in
      let p = passed (nat_lt from n) (find nat_cmp n (entries map)) c (sym (find-where_key nat_cmp (nat_lt from) n (λ x e. ap (nat_lt from) (sym (exact_unsigned n x e))) (entries map)) ∙ h) in
      let t : nat_lt from n ≡ true = p.0 in
      let k = found_key (entries (norm changes)) (of_list.pieces_held start changes) n c (sym (get-from_entries nat_cmp_total (of_list.numbered start changes (entries (norm changes))) n) ∙ get-entries map n ∙ p.1) in
      let same : k.0 ≡ key_of c = sym (subst (λ o. IfSome o (Bears k.0)) (sym (get-norm changes k.0) ∙ k.1) (piece_bears changes k.0)) in
      let is = subst (λ j. get (norm changes) j ≡ Some c) same k.1 in (
        (is, get-numbers start changes (key_of c) ∙ ap (option_map (λ _. number start changes (key_of c))) is ∙ ap Some (ap (number start changes) (sym same) ∙ k.2)),
        grind (arith, nat_tests),
      )

  pub newer_unique : (es : List (ℕ × Change)) → IsNewer (state_after start changes) from es → es ≡ newer (norm changes) (numbers start changes) from
  newer_unique es h =
      let ones = recursion_from_All IsOne es (λ i d l. (h.pieces (get_or es i d)).0 (Contains-get_or es i d l)) in
      let sorted = rising_sorted es ones h.once h.rising in
      same_entries nat_cmp nat_cmp_total exact_unsigned es (of_list.all start changes from) sorted (of_list.all_sorted start changes from) (λ n. same_option (find nat_cmp n es) (find nat_cmp n (of_list.all start changes from))
      (λ c e.
      let one = (h.pieces (n, c)).0 (member_from n c es e) in
      let m = number_of (key_of c) c n one.0.0 one.0.1 in
      let l : from < n = one.1 in
      subst (λ x. find nat_cmp x (of_list.all start changes from) ≡ Some c) m (of_list.all_has start changes from (key_of c) c one.0.0 (subst (λ x. from < x) (sym m) l)))
      (λ c e.
      let there = (h.pieces (n, c)).1 (newer_one n c e) in
      let all = All-from_recursion (λ (f : ℕ × Change). find nat_cmp f.0 es ≡ Some f.1) es (all_found nat_cmp_total es sorted) in
      subst (λ (f : ℕ × Change). find nat_cmp f.0 es ≡ Some f.1) there.2 (all there.0 (n, c) there.1)))

pub delta_of_newer : (h : StateValue) (from : ℕ) (es : List (ℕ × Change)) → IsNewer h from es → (start : ℕ) (changes : List Change) → h ≡ state_after start changes → delta_from from h.front es ≡ delta start changes from
delta_of_newer h from es newest start changes is =
    ap (λ (g : StateValue). delta_from from g.front es) is
    ∙ ap (delta_from from (numbering.front start changes)) (newer_unique start from changes es (subst (λ g. IsNewer g from es) is newest))

-- ---- lent pieces

map_pairs : {X Y Z : Type 0} (f : X → Y) (g : Y → Z) (xs : List X) → map g (map f xs) ≡ map (λ x. g (f x)) xs
map_pairs f g [] = refl
map_pairs f g (x ∷ xs) = ap (λ ys. g (f x) ∷ ys) (map_pairs f g xs)

first_of : {Z : Type 0} (g : ℕ × Change → Z) (turn : List Piece) → map g (take delta_limit (map entry_of turn)) ≡ map (λ p. g (entry_of p)) (take delta_limit turn)
first_of g turn = ap (map g) (take-map entry_of delta_limit turn) ∙ map_pairs entry_of g (take delta_limit turn)

-- the delta of what was listed
pub delta_listed : (from front to : ℕ) (turn sent : List Piece) (changes : List Change) → sent ≡ take delta_limit turn → to ≡ cond (nat_lt delta_limit (length turn)) (unwrap_or (greatest (map number_at sent)) from) (max from front) → changes ≡ map change_at sent → record { from = from; to = to; changes = changes } ≡ delta_from from front (map entry_of turn)
delta_listed from front to turn sent changes cut reached copied =
    let p : to ≡ (delta_from from front (map entry_of turn)).to =
    reached
    ∙ ap (λ qs. cond (nat_lt delta_limit (length turn)) (unwrap_or (greatest (map number_at qs)) from) (max from front)) cut
    ∙ ap (λ ns. cond (nat_lt delta_limit (length turn)) (unwrap_or (greatest ns) from) (max from front)) (sym (first_of (λ (e : ℕ × Change). e.0) turn))
    ∙ ap (λ l. cond (nat_lt delta_limit l) (unwrap_or (greatest (map (λ (e : ℕ × Change). e.0) (take delta_limit (map entry_of turn)))) from) (max from front)) (sym (length-map turn entry_of)) in
    let q : changes ≡ (delta_from from front (map entry_of turn)).changes =
    copied ∙ ap (map change_at) cut ∙ sym (first_of (λ (e : ℕ × Change). e.1) turn) in
    λ i. record { from = from; to = p i; changes = q i }

-- lent pieces in order of the numbers
pub in_order : (turn : List Piece) → IsNonDecreasingBy (λ (e : ℕ × Change). e.0) (map entry_of turn) → IsNonDecreasingBy number_at turn
in_order turn h = λ i j d le l.
    let inside : j < length (map entry_of turn) = omega (arith, length-map turn entry_of) in
    let a = ap (λ (e : ℕ × Change). e.0) (get_or-map entry_of turn i d (entry_of d) (omega arith)) in
    let b = ap (λ (e : ℕ × Change). e.0) (get_or-map entry_of turn j d (entry_of d) l) in
    let c = h i j (entry_of d) le inside in
    omega arith

-- ---- the first pieces, one more than a delta has

abbrev enough : ℕ
enough = delta_limit + 1

takes_first : {X : Type 0} (xs : List X) → take delta_limit (take enough xs) ≡ take delta_limit xs
takes_first xs = take-take delta_limit enough xs (omega arith)

tells_more : {X : Type 0} (xs : List X) → nat_lt delta_limit (length (take enough xs)) ≡ nat_lt delta_limit (length xs)
tells_more xs = (let l = length-take enough xs in grind (arith, nat_tests))

-- they make the same delta as all
delta_of_first : (from front : ℕ) (all : List (ℕ × Change)) → delta_from from front (take enough all) ≡ delta_from from front all
delta_of_first from front all =
    let p : (delta_from from front (take enough all)).to ≡ (delta_from from front all).to =
    (λ i. cond (tells_more all i) (unwrap_or (greatest (map (λ (e : ℕ × Change). e.0) (takes_first all i))) from) (max from front)) in
    let q : (delta_from from front (take enough all)).changes ≡ (delta_from from front all).changes =
    ap (map (λ (e : ℕ × Change). e.1)) (takes_first all) in
    λ i. record { from = from; to = p i; changes = q i }

first_rising : (turn first : List (ℕ × Change)) → first ≡ take enough turn → IsNonDecreasingBy (λ (e : ℕ × Change). e.0) turn → IsNonDecreasingBy (λ (e : ℕ × Change). e.0) first
first_rising turn first is rising = subst (IsNonDecreasingBy (λ (e : ℕ × Change). e.0)) (sym is) (IsNonDecreasingBy-take (λ (e : ℕ × Change). e.0) enough turn rising)

pub given_in_order : (h : StateValue) (from : ℕ) (turn given : List Piece) → given ≡ turn → AreFirstNewer h from enough (map entry_of turn) → IsNonDecreasingBy number_at given
given_in_order h from turn given same newest = subst (IsNonDecreasingBy number_at) (sym same) (in_order turn (first_rising newest.0 (map entry_of turn) newest.2 newest.1.rising))

pub delta_sent : {E : Type 0} (r : Result numbering.Delta E) (h : StateValue) (from front : ℕ) (turn given : List Piece) → given ≡ turn → front ≡ h.front → AreFirstNewer h from enough (map entry_of turn) → IfOk r (λ d. d ≡ delta_from from front (map entry_of given)) → IfOk r (λ d. (start : ℕ) (list : List Change) → h ≡ state_after start list → d ≡ delta start list from)
delta_sent (Ok d) h from front turn given same at_front newest made = λ start list is.
    made
    ∙ ap (λ qs. delta_from from front (map entry_of qs)) same
    ∙ ap (λ n. delta_from from n (map entry_of turn)) at_front
    ∙ ap (delta_from from h.front) newest.2
    ∙ delta_of_first from h.front newest.0
    ∙ delta_of_newer h from newest.0 newest.1 start list is
delta_sent (Err e) h from front turn given same at_front newest made = tt
