-- The connections of the table, by their numbers.
use Rattle.std.proofs.Common.{◌≡◌, ◌≢◌, ℕ, ◌+◌, ◌<◌, ◌≤◌, Bool, true, false, cond, not, ◌&&◌, List, [], ◌∷◌, ◌++◌, Option, None, Some, Result, Ok, Err, refl, sym, ap, ◌∙◌, subst, arith, length, map, inl, inr}
use Rattle.std.specs.Prelude.{is_some, OnErr, OnOk, IfNone, IfSome, MatchOption, if◌then◌else◌, nat_lt, ◌==◌, ◌⊎◌}
use Rattle.std.proofs.lemmas.Bool.{cases_lt}
use Rattle.std.proofs.lemmas.Bool.Decides.{nat_tests}
use Rattle.std.proofs.lemmas.List.Elements.{All-push, All-weaker, All-head, All-tail}
use Rattle.std.proofs.lemmas.List.{map_push}
use Rattle.std.proofs.lemmas.List.Sums.{sum_by-cons}
use Rattle.std.proofs.lemmas.Map.Entries.{All-lookup, sum_by-set_value, sum_by-remove_entry, sum_by-insert_entry}
use Rattle.std.specs.BTreeMap.{is_at, insert_entry}
use Rattle.std.specs.Cmp.{nat_cmp_total}
use Rattle.std.specs.List.{All, count_by, sum_by}
use Rattle.std.specs.List.Sorted.{IsStrictlySortedBy}
use Rattle.std.specs.Map.{keys_of, lookup, remove_entry, set_value, values_of}
use Rattle.std.specs.Option.{option_map}
use Rattle.std.specs.Ordering.{nat_cmp}
use Rattle.node_peers.specs.PeersState.{IsConnected, IsGreetedAs, IsMadeWay, IsOldest, PeersState, most, room_for, seat_at, waiting, without}
use Rattle.node_peers.specs.Seat.{IsSameSeat, Seat, is_greeted, is_stranger, is_waiting}

-- ---- what stands at other numbers

at-own : (n : ℕ) → is_at (nat_cmp n) n ≡ true
at-own n = grind (arith, nat_tests)

pub apart : (n q : ℕ) → n ≢ q → is_at (nat_cmp n) q ≡ false
apart n q d = grind (arith, nat_tests)

same-key : (k q : ℕ) → is_at (nat_cmp k) q ≡ true → k ≡ q
same-key k q e = grind (arith, nat_tests)

other-key : (n k q : ℕ) → n ≢ k → is_at (nat_cmp k) q ≡ true → is_at (nat_cmp n) q ≡ false
other-key n k q d e = apart n q (λ s. d (s ∙ sym (same-key k q e)))

module _ (n k : ℕ) (d : n ≢ k) where
  pub other-set : (es : List (ℕ × Seat)) (w : Seat)
      → lookup (is_at (nat_cmp n)) (set_value (is_at (nat_cmp k)) es w) ≡ lookup (is_at (nat_cmp n)) es
  other-set [] w = refl
  other-set (e ∷ es) w =
      elim (is_at (nat_cmp k) e.0) as (λ b. is_at (nat_cmp k) e.0 ≡ b → lookup (is_at (nat_cmp n)) (cond b ((e.0, w) ∷ es) (e ∷ set_value (is_at (nat_cmp k)) es w))
      ≡ lookup (is_at (nat_cmp n)) (e ∷ es)) [
        | true ↦ λ is.
            let h : is_at (nat_cmp n) e.0 ≡ false = other-key n k e.0 d is in
            ap (λ b. cond b (Some w) (lookup (is_at (nat_cmp n)) es)) h ∙ sym (ap (λ b. cond b (Some e.1) (lookup (is_at (nat_cmp n)) es)) h)
        | false ↦ λ is. ap (λ t. cond (is_at (nat_cmp n) e.0) (Some e.1) t) (other-set es w)
      ] refl

  pub other-removed : (es : List (ℕ × Seat))
      → lookup (is_at (nat_cmp n)) (remove_entry (is_at (nat_cmp k)) es) ≡ lookup (is_at (nat_cmp n)) es
  other-removed [] = refl
  other-removed (e ∷ es) =
      elim (is_at (nat_cmp k) e.0) as (λ b. is_at (nat_cmp k) e.0 ≡ b → lookup (is_at (nat_cmp n)) (cond b es (e ∷ remove_entry (is_at (nat_cmp k)) es))
      ≡ lookup (is_at (nat_cmp n)) (e ∷ es)) [
        | true ↦ λ is. sym (ap (λ b. cond b (Some e.1) (lookup (is_at (nat_cmp n)) es)) (other-key n k e.0 d is))
        | false ↦ λ is. ap (λ t. cond (is_at (nat_cmp n) e.0) (Some e.1) t) (other-removed es)
      ] refl

-- ---- over which connection a peer said hello

abbrev pub IsNotAs : ℕ → ℕ × Seat → Type 0
IsNotAs place e = e.1.peer.talk.noted ≢ Some place

-- where it did so over none of them
pub not-as : (s : PeersState) (number place : ℕ) → All (IsNotAs place) s.seats → IsGreetedAs s number place → ⊥
not-as s number place none is =
    let k : IfSome (seat_at s number) (λ seat. seat.peer.talk.noted ≢ Some place) = All-lookup (λ seat. seat.peer.talk.noted ≢ Some place) (is_at (nat_cmp number)) s.seats none in
    (subst (λ (o : Option Seat). IfSome o (λ seat. seat.peer.talk.noted ≢ Some place)) is.is_there k) is.is_noted

pub not-connected : (s : PeersState) (place : ℕ) → All (IsNotAs place) s.seats → IsConnected s place → ⊥
not-connected s place none is = not-as s is.0 place none is.1

-- it stays so at other numbers
pub greeted-still : (old new : PeersState) (number place : ℕ) → seat_at new number ≡ seat_at old number → IsGreetedAs new number place → IsGreetedAs old number place
greeted-still old new number place e is = record { seat = is.seat; is_there = sym e ∙ is.is_there; is_noted = is.is_noted }

-- one item of a walk through the connections more, or all of them
module _ {A : Type 0} (f : A → ℕ × Seat) where
  pub push-seen : (P : ℕ × Seat → Type 0) (xs : List A) (x : A) → All P (map f xs) → P (f x) → All P (map f (xs ++ x ∷ []))
  push-seen P xs x k here = subst (λ (l : List (ℕ × Seat)). All P l) (sym (map_push f xs x)) (All-push P (map f xs) (f x) k here)

-- ---- how many strangers wait

abbrev as_one : Bool → ℕ
as_one b = cond b 1 0

abbrev one : Seat → ℕ
one seat = cond (is_waiting seat) 1 0

pub fewer-removed : (t : ℕ → Bool) (es : List (ℕ × Seat)) → count_by is_waiting (values_of (remove_entry t es)) ≤ count_by is_waiting (values_of es)
fewer-removed t es = omega (arith, sum_by-remove_entry one t es)

and-false : (b : Bool) → (b && false) ≡ false
and-false true = refl
and-false false = refl

-- one that makes way is no longer among them
pub fewer-marked : (t : ℕ → Bool) (es : List (ℕ × Seat)) (seat : Seat) → lookup t es ≡ Some seat → is_waiting seat ≡ true
    → count_by is_waiting (values_of (set_value t es (record seat { is_awaited = true }))) + 1 ≡ count_by is_waiting (values_of es)
fewer-marked t es seat there is =
    let marked : Seat = record seat { is_awaited = true } in
    let k = sum_by-set_value one t es seat marked there in
    let before : one seat ≡ 1 = ap as_one is in
    let after : one marked ≡ 0 = ap as_one (and-false (is_stranger seat)) in
    omega (arith, k, before, after)

-- of one more connection
pub more-inserted : (es : List (ℕ × Seat)) (number : ℕ) (seat : Seat) → IsStrictlySortedBy nat_cmp (keys_of es)
    → count_by is_waiting (values_of (insert_entry nat_cmp es number seat)) ≤ count_by is_waiting (values_of es) + one seat
more-inserted es number seat ordered =
    omega (arith, sum_by-insert_entry one nat_cmp_total es number seat ordered)

most-one : (seat : Seat) → one seat ≤ 1
most-one seat = by (is_waiting seat) where
  by : (b : Bool) → as_one b ≤ 1
  by true = omega arith
  by false = omega arith

dialed-none : (seat : Seat) → is_some seat.dialed ≡ true → one seat ≡ 0
dialed-none seat is = ap (λ (b : Bool). as_one (not b && not (is_greeted seat) && not seat.is_awaited)) is

-- one that a peer said hello over stays so
fewer-served : (t : ℕ → Bool) (old new : List (ℕ × Seat)) (v w : Seat) → new ≡ set_value t old w → lookup t old ≡ Some v → one w ≤ one v
    → count_by is_waiting (values_of new) ≤ count_by is_waiting (values_of old)
fewer-served t old new v w e there less =
    let k = sum_by-set_value one t old v w there in
    let n : count_by is_waiting (values_of new) ≡ count_by is_waiting (values_of (set_value t old w)) = ap (λ (l : List (ℕ × Seat)). count_by is_waiting (values_of l)) e in
    omega (arith, k, n, less)

same-seat : (v w : Seat) → IsSameSeat v w → one w ≤ one v
same-seat v w is = by v.peer.talk.noted refl where
  of : Option ℕ → Option ℕ → Bool → ℕ
  of dialed noted awaited = as_one (not (is_some dialed) && not (is_some noted) && not awaited)

  same-but : one w ≡ of v.dialed w.peer.talk.noted v.is_awaited
  same-but = λ i. of (is.dialed i) w.peer.talk.noted (is.is_awaited i)

  noted-none : (d a : Bool) (n : ℕ) → as_one (d && false && a) ≡ 0
  noted-none true a n = refl
  noted-none false a n = refl

  unnoted : (d a : Bool) (m : Option ℕ) → as_one (d && not (is_some m) && a) ≤ as_one (d && true && a)
  unnoted false a m = omega arith
  unnoted true true None = omega arith
  unnoted true false None = omega arith
  unnoted true true (Some m) = omega arith
  unnoted true false (Some m) = omega arith

  by : (n : Option ℕ) → v.peer.talk.noted ≡ n → one w ≤ one v
  by (Some n) e =
      let s : w.peer.talk.noted ≡ v.peer.talk.noted = is.noted (ap is_some e) in
      let k : one w ≡ one v = same-but ∙ ap (λ (m : Option ℕ). of v.dialed m v.is_awaited) s in
      omega (arith, k)
  by None e =
      let k : one v ≡ of v.dialed None v.is_awaited = ap (λ (m : Option ℕ). of v.dialed m v.is_awaited) e in
      let less : of v.dialed w.peer.talk.noted v.is_awaited ≤ of v.dialed None v.is_awaited = unnoted (not (is_some v.dialed)) (not v.is_awaited) w.peer.talk.noted in
      omega (arith, same-but, k, less)

-- there is no more of them than there may be, where that was so
pub served-bounded : (t : ℕ → Bool) (old new : List (ℕ × Seat)) (v w : Seat) (peers later : ℕ) → new ≡ set_value t old w → lookup t old ≡ Some v → IsSameSeat v w
    → later ≡ peers → count_by is_waiting (values_of old) ≤ room_for peers → count_by is_waiting (values_of new) ≤ room_for later
served-bounded t old new v w peers later e there is same fits =
    let k = fewer-served t old new v w e there (same-seat v w is) in
    let m : room_for later ≡ room_for peers = ap room_for same in
    omega (arith, k, m, fits)

-- the same where there may be no memory for it
inserted : {E X : Type 0} (result : Result E X) (old new : List (ℕ × Seat)) (number : ℕ) (seat : Seat) → IsStrictlySortedBy nat_cmp (keys_of old)
    → OnOk result (new ≡ insert_entry nat_cmp old number seat) → OnErr result (new ≡ old)
    → count_by is_waiting (values_of new) ≤ count_by is_waiting (values_of old) + one seat
inserted (Ok e) old new number seat ordered taken refused =
    let k = more-inserted old number seat ordered in
    let e : count_by is_waiting (values_of new) ≡ count_by is_waiting (values_of (insert_entry nat_cmp old number seat)) =
    ap (λ (l : List (ℕ × Seat)). count_by is_waiting (values_of l)) taken in
    omega (arith, k, e)
inserted (Err e) old new number seat ordered taken refused =
    let e : count_by is_waiting (values_of new) ≡ count_by is_waiting (values_of old) = ap (λ (l : List (ℕ × Seat)). count_by is_waiting (values_of l)) refused in
    omega (arith, e)

-- ---- who came first of these

abbrev pub Passes : ℕ × Seat → Type 0
Passes e = is_waiting e.1 ≡ false

abbrev pub ComesLater : ℕ → ℕ × Seat → Type 0
ComesLater order e = is_waiting e.1 ≡ true → order ≤ e.1.order

-- of those that were seen so far, of all, that one came first, of so many others
abbrev pub IsOldestSoFar : List (ℕ × Seat) → List (ℕ × Seat) → Option (ℕ × ℕ) → Type 0
IsOldestSoFar all seen first = MatchOption first (All Passes seen)
    (λ f. (seat : Seat) × (lookup (is_at (nat_cmp f.0)) all ≡ Some seat) × (is_waiting seat ≡ true) × (seat.order ≡ f.1) × All (ComesLater f.1) seen)

false-true : {b : Bool} → b ≡ false → b ≡ true → ⊥
false-true e f = cc

pub so-far-passed : (all seen : List (ℕ × Seat)) (first : Option (ℕ × ℕ)) (e : ℕ × Seat) → is_waiting e.1 ≡ false
    → IsOldestSoFar all seen first → IsOldestSoFar all (seen ++ e ∷ []) first
so-far-passed all seen None e is k = All-push Passes seen e k is
so-far-passed all seen (Some f) e is k = (k.0, k.1, k.2, k.3, All-push (ComesLater f.1) seen e k.4 (λ w. absurd (false-true is w)))

pub so-far-kept : (all seen : List (ℕ × Seat)) (f : ℕ × ℕ) (e : ℕ × Seat) → f.1 ≤ e.1.order
    → IsOldestSoFar all seen (Some f) → IsOldestSoFar all (seen ++ e ∷ []) (Some f)
so-far-kept all seen f e less k = (k.0, k.1, k.2, k.3, All-push (ComesLater f.1) seen e k.4 (λ w. less))

pub so-far-first : (all seen : List (ℕ × Seat)) (e : ℕ × Seat) → lookup (is_at (nat_cmp e.0)) all ≡ Some e.1 → is_waiting e.1 ≡ true
    → IsOldestSoFar all seen None → IsOldestSoFar all (seen ++ e ∷ []) (Some (e.0, e.1.order))
so-far-first all seen e there is k =
    let before : All (ComesLater e.1.order) seen = All-weaker Passes (ComesLater e.1.order) (λ x h w. absurd (false-true h w)) seen k in
    (e.1, there, is, refl, All-push (ComesLater e.1.order) seen e before (λ w. omega arith))

pub so-far-older : (all seen : List (ℕ × Seat)) (f : ℕ × ℕ) (e : ℕ × Seat) → lookup (is_at (nat_cmp e.0)) all ≡ Some e.1 → is_waiting e.1 ≡ true
    → e.1.order ≤ f.1 → IsOldestSoFar all seen (Some f) → IsOldestSoFar all (seen ++ e ∷ []) (Some (e.0, e.1.order))
so-far-older all seen f e there is less k =
    let before : All (ComesLater e.1.order) seen = All-weaker (ComesLater f.1) (ComesLater e.1.order) (λ x h w. let m = h w in omega (arith, m, less)) seen k.4 in
    (e.1, there, is, refl, All-push (ComesLater e.1.order) seen e before (λ w. omega arith))

-- the same, by what `earlier_of` ensures
pub so-far-more : (all seen : List (ℕ × Seat)) (first : Option (ℕ × ℕ)) (r : ℕ × ℕ) (e : ℕ × Seat) → lookup (is_at (nat_cmp e.0)) all ≡ Some e.1
    → is_waiting e.1 ≡ true → (first ≡ None → r ≡ (e.0, e.1.order))
    → IfSome first (λ f. r ≡ (if nat_lt e.1.order f.1 then (e.0, e.1.order) else f))
    → IsOldestSoFar all seen first → IsOldestSoFar all (seen ++ e ∷ []) (Some r)
so-far-more all seen None r e there is none some k =
    subst (λ (r : ℕ × ℕ). IsOldestSoFar all (seen ++ e ∷ []) (Some r)) (sym (none refl)) (so-far-first all seen e there is k)
so-far-more all seen (Some f) r e there is none some k =
    subst (λ (r : ℕ × ℕ). IsOldestSoFar all (seen ++ e ∷ []) (Some r)) (sym some) (by (nat_lt e.1.order f.1) refl) where
      by : (b : Bool) → nat_lt e.1.order f.1 ≡ b → IsOldestSoFar all (seen ++ e ∷ []) (Some (if b then (e.0, e.1.order) else f))
      by true h = so-far-older all seen f e there is (grind (arith, nat_tests)) k
      by false h = so-far-kept all seen f e (grind (arith, nat_tests)) k

none-waits : (es : List (ℕ × Seat)) → All Passes es → count_by is_waiting (values_of es) ≡ 0
none-waits [] k = refl
none-waits (e ∷ es) k =
    let here : one e.1 ≡ 0 = ap as_one (All-head Passes e es k) in
    let rest : sum_by one (values_of es) ≡ 0 = none-waits es (All-tail Passes e es k) in
    let both : one e.1 + sum_by one (values_of es) ≡ 0 = omega (arith, here, rest) in
    sum_by-cons one e.1 (values_of es) ∙ both

-- where all were seen
pub oldest-of-all : (s : PeersState) (f : ℕ × ℕ) → IsOldestSoFar s.seats s.seats (Some f) → (seat : Seat) × IsOldest s f.0 seat
oldest-of-all s f k = (
  k.0,
  record {
    is_there = k.1;
    does_wait = k.2;
    is_first = All-weaker (ComesLater f.1) (ComesLater k.0.order) (λ x h w. let m = h w in omega (arith, m, k.3)) s.seats k.4;
  },
)

pub none-of-all : (s : PeersState) → IsOldestSoFar s.seats s.seats None → waiting s ≡ 0
none-of-all s k = none-waits s.seats k

pub found-oldest : (s : PeersState) (first : Option (ℕ × ℕ)) (r : Option ℕ) → r ≡ option_map (λ f. f.0) first → IsOldestSoFar s.seats s.seats first
    → IfSome r (λ n. (seat : Seat) × IsOldest s n seat)
found-oldest s None r e k = subst (λ (r : Option ℕ). IfSome r (λ n. (seat : Seat) × IsOldest s n seat)) (sym e) tt
found-oldest s (Some f) r e k = subst (λ (r : Option ℕ). IfSome r (λ n. (seat : Seat) × IsOldest s n seat)) (sym e) (oldest-of-all s f k)

pub none-found : (s : PeersState) (first : Option (ℕ × ℕ)) (r : Option ℕ) → r ≡ option_map (λ f. f.0) first → IsOldestSoFar s.seats s.seats first
    → IfNone r (waiting s ≡ 0)
none-found s None r e k = subst (λ (r : Option ℕ). IfNone r (waiting s ≡ 0)) (sym e) (none-of-all s k)
none-found s (Some f) r e k = subst (λ (r : Option ℕ). IfNone r (waiting s ≡ 0)) (sym e) tt

-- ---- what room there is

made-way-room : (old new : PeersState) → IsMadeWay old new → waiting new + 1 ≡ waiting old
made-way-room old new is =
    let k = fewer-marked (is_at (nat_cmp is.number)) old.seats is.seat is.is_oldest.is_there is.is_oldest.does_wait in
    ap (λ (s : PeersState). waiting s + 1) is.is_new ∙ k

made-way-peers : (old new : PeersState) → IsMadeWay old new → length new.dialings ≡ length old.dialings
made-way-peers old new is = ap (λ (s : PeersState). length s.dialings) is.is_new

-- there is room for one more once one made way, if it had to
pub room-made : (old new : PeersState) → (waiting old < most old → new ≡ old) → (most old ≤ waiting old → IsMadeWay old new)
    → waiting old ≤ most old → waiting new < most new
room-made old new spared oldest fits = by (cases_lt (waiting old) (most old)) where
  by : (waiting old < most old) ⊎ (most old ≤ waiting old) → waiting new < most new
  by (inl less) =
      let e = spared less in
      let w : waiting new ≡ waiting old = ap waiting e in
      let m : most new ≡ most old = ap most e in
      omega (arith, w, m, less)
  by (inr full) =
      let k = oldest full in
      let w : waiting new + 1 ≡ waiting old = made-way-room old new k in
      let m : most new ≡ most old = ap room_for (made-way-peers old new k) in
      omega (arith, w, m, fits)

-- a connection that doesn't wait stays where one makes way
pub kept-so : (old mid : PeersState) (n : ℕ) (seat : Seat) → (waiting old < most old → mid ≡ old) → (most old ≤ waiting old → IsMadeWay old mid)
    → seat_at old n ≡ Some seat → is_waiting seat ≡ false → seat_at mid n ≡ Some seat
kept-so old mid n seat spared oldest there is = by (cases_lt (waiting old) (most old)) where
  other : (k : IsMadeWay old mid) → n ≢ k.number
  other k e =
      let same : Some seat ≡ Some k.seat = sym there ∙ ap (λ (m : ℕ). seat_at old m) e ∙ k.is_oldest.is_there in
      let one : seat ≡ k.seat = cc in
      false-true is (ap is_waiting one ∙ k.is_oldest.does_wait)

  by : (waiting old < most old) ⊎ (most old ≤ waiting old) → seat_at mid n ≡ Some seat
  by (inl less) = ap (λ (s : PeersState). seat_at s n) (spared less) ∙ there
  by (inr full) =
      let k = oldest full in
      ap (λ (s : PeersState). seat_at s n) k.is_new ∙ other-set n k.number (other k) old.seats (record k.seat { is_awaited = true }) ∙ there

-- a connection that isn't there any more leaves as much room at least
pub removed-bounded : (t : ℕ → Bool) (old new : List (ℕ × Seat)) (peers : ℕ) → new ≡ remove_entry t old
    → count_by is_waiting (values_of old) ≤ room_for peers → count_by is_waiting (values_of new) ≤ room_for peers
removed-bounded t old new peers e fits =
    let n : count_by is_waiting (values_of new) ≡ count_by is_waiting (values_of (remove_entry t old)) = ap (λ (l : List (ℕ × Seat)). count_by is_waiting (values_of l)) e in
    let less = fewer-removed t old in
    omega (arith, n, less, fits)

-- one more is within the bound, where there was room or it is no stranger
pub inserted-bounded : {E X : Type 0} (result : Result E X) (old new : List (ℕ × Seat)) (number : ℕ) (seat : Seat) (peers : ℕ) → IsStrictlySortedBy nat_cmp (keys_of old)
    → OnOk result (new ≡ insert_entry nat_cmp old number seat) → OnErr result (new ≡ old)
    → (is_some seat.dialed ≡ false → count_by is_waiting (values_of old) < room_for peers)
    → count_by is_waiting (values_of old) ≤ room_for peers → count_by is_waiting (values_of new) ≤ room_for peers
inserted-bounded result old new number seat peers ordered taken refused room fits =
    let k = inserted result old new number seat ordered taken refused in
    by k (is_some seat.dialed) refl where
      by : count_by is_waiting (values_of new) ≤ count_by is_waiting (values_of old) + one seat → (b : Bool) → is_some seat.dialed ≡ b
          → count_by is_waiting (values_of new) ≤ room_for peers
      by k true e = omega (arith, k, dialed-none seat e, fits)
      by k false e = let m = room e in omega (arith, k, most-one seat, m)

-- one that is to make way leaves room
pub marked-bounded : (t : ℕ → Bool) (old new : List (ℕ × Seat)) (v w : Seat) (peers : ℕ) → new ≡ set_value t old w → lookup t old ≡ Some v
    → w ≡ record v { is_awaited = true } → count_by is_waiting (values_of old) ≤ room_for peers → count_by is_waiting (values_of new) ≤ room_for peers
marked-bounded t old new v w peers e there is fits =
    let less : one w ≤ one v = subst (λ (k : Seat). one k ≤ one v) (sym is) marked-one in
    let k = fewer-served t old new v w e there less in
    omega (arith, k, fits) where
      marked-one : one (record v { is_awaited = true }) ≤ one v
      marked-one =
          let none : one (record v { is_awaited = true }) ≡ 0 = ap as_one (and-false (is_stranger v)) in
          omega (arith, none)

pub marked-room : (t : ℕ → Bool) (old new : List (ℕ × Seat)) (v w : Seat) (peers : ℕ) → new ≡ set_value t old w → lookup t old ≡ Some v
    → w ≡ record v { is_awaited = true } → is_waiting v ≡ true → count_by is_waiting (values_of old) ≤ room_for peers → count_by is_waiting (values_of new) < room_for peers
marked-room t old new v w peers e there is waits fits =
    let n : count_by is_waiting (values_of new) ≡ count_by is_waiting (values_of (set_value t old (record v { is_awaited = true }))) =
    ap (λ (l : List (ℕ × Seat)). count_by is_waiting (values_of l)) e ∙ ap (λ (k : Seat). count_by is_waiting (values_of (set_value t old k))) is in
    let k = fewer-marked t old v there waits in
    omega (arith, n, k, fits)

pub oldest-waits : (s : PeersState) (number : ℕ) (v : Seat) → (seat : Seat) × IsOldest s number seat → seat_at s number ≡ Some v → is_waiting v ≡ true
oldest-waits s number v is there =
    let one : Some v ≡ Some is.0 = sym there ∙ is.1.is_there in
    let same : v ≡ is.0 = cc in
    ap is_waiting same ∙ is.1.does_wait

-- one of them is gone
pub shorter : (t : ℕ → Bool) (es : List (ℕ × Seat)) (seat : Seat) → lookup t es ≡ Some seat → length (remove_entry t es) < length es
shorter t [] seat there = absurd (cc)
shorter t (e ∷ es) seat there = by (λ k. shorter t es seat k) (t e.0) refl where
  by : (lookup t es ≡ Some seat → length (remove_entry t es) < length es) → (b : Bool) → t e.0 ≡ b
      → length (cond b es (e ∷ remove_entry t es)) < length (e ∷ es)
  by fewer true is = omega arith
  by fewer false is =
      let k : length (remove_entry t es) < length es = fewer (sym (ap (λ (b : Bool). cond b (Some e.1) (lookup t es)) is) ∙ there) in
      omega (arith, k)

-- ---- who is greeted last

pub still-there : (old mid new : PeersState) (number older place : ℕ) (seat : Seat) → seat_at old number ≡ Some seat → seat.peer.talk.noted ≡ None
    → seat_at mid number ≡ seat_at old number → IsGreetedAs mid older place → new.seats ≡ without older mid
    → seat_at new number ≡ seat_at old number
still-there old mid new number older place seat there unnoted same is e =
    ap (λ (l : List (ℕ × Seat)). lookup (is_at (nat_cmp number)) l) e ∙ other-removed number older apart-from mid.seats ∙ same where
      apart-from : number ≢ older
      apart-from d =
          let one : Some seat ≡ Some is.seat = sym there ∙ sym same ∙ ap (λ (m : ℕ). seat_at mid m) d ∙ is.is_there in
          let s : seat ≡ is.seat = cc in
          let n : None ≡ Some place = sym unnoted ∙ ap (λ (k : Seat). k.peer.talk.noted) s ∙ is.is_noted in
          cc

-- over no connection but that one did the same peer say hello
pub alone : (old mid new : PeersState) (number place : ℕ) → All (IsNotAs place) mid.seats
    → ((n : ℕ) → n ≢ number → seat_at new n ≡ seat_at mid n) → IsGreetedAs new number place
    → (n at : ℕ) → IsGreetedAs new number at → IsGreetedAs new n at → n ≡ number
alone old mid new number place none others own n at is other = by (n == number) refl where
  same-place : at ≡ place
  same-place =
      let one : Some is.seat ≡ Some own.seat = sym is.is_there ∙ own.is_there in
      let s : is.seat ≡ own.seat = cc in
      let k : Some at ≡ Some place = sym is.is_noted ∙ ap (λ (k : Seat). k.peer.talk.noted) s ∙ own.is_noted in
      cc

  by : (b : Bool) → (n == number) ≡ b → n ≡ number
  by true e = grind (arith, nat_tests)
  by false e =
      let d : n ≢ number = λ h. absurd (ne e h) in
      absurd (not-as mid n place none (greeted-still mid new n place (others n d) (subst (λ (k : ℕ). IsGreetedAs new n k) same-place other))) where
        ne : (n == number) ≡ false → n ≡ number → ⊥
        ne e h = grind (arith, nat_tests)
