-- A history keeps under each key a change that bears it: what `norm` has at a key, and which changes of a history bear a key.
use Rattle.std.proofs.Common.{◌≡◌, Bool, true, false, cond, ◌&&◌, ◌||◌, Option, Some, None, List, [], ◌∷◌, ◌++◌, map, refl, sym, ◌∙◌, ap, subst, T, ℕ, ◌<◌, length, arith}
use Rattle.std.specs.declared.cmp.Ordering.{Ordering}
use Rattle.std.specs.declared.cmp.Ordering.TheVariants.{Less, Equal, Greater}
use Rattle.std.proofs.lemmas.Bool.{false≢true}
use Rattle.std.proofs.lemmas.Bool.Decides.{nat_tests}
use Rattle.std.proofs.lemmas.List.Elements.{filter-append}
use Rattle.std.specs.Ordering.{is_lt, is_eq}
use Rattle.std.specs.List.{filter, filter_map, cons_option, list_any, AllByRecursion}
use Rattle.std.specs.Option.{IfSome, option_map, option_to_list, unwrap_or}
use Rattle.std.specs.Prelude.{nat_lt, nat_le}
use Rattle.std.specs.FinMap.{find, put, is_sorted, entries, entries_sorted, entries-insert, empty, len-empty, len-entries, from_entries, get, get-entries, get-from_entries, same_map}
use Rattle.std.specs.FinMap.Entries.{by_order, below_all}
use Rattle.chat_change.specs.Order.{record_cmp}
use Rattle.chat_change.specs.declared.change.Change.{Change}
use Rattle.chat_change.specs.declared.change.Change.TheVariants.{Post, Redact, Mark, Floor, AccountFloor}
use Rattle.chat_history.specs.Choice.{earlier, first_by, greatest}
use Rattle.chat_change.specs.Extent.{Extent, OfAccount, OfBuffer}
use Rattle.chat_change.specs.Key.{Key, FloorOf, MarkerOf, MessageOf, key_cmp, same_key, key_of, bearers_of, floor_change}
use Rattle.chat_history.specs.History.{floor, own_floor, floor_around, mark, is_gone, kept_record, position_of, floor_moment, marker_moment, posted_record, message_moment, is_redaction, piece, piece_entry, History, norm, changes_of, IsKeyedEntry, IsKeyed}
use Rattle.chat_change.proofs.CallerLemmas.{key_total, key_exact, same_key_is}

-- ---- a change of a key in the piece of that key

abbrev pub Bears : Key → Change → Type 0
Bears k c = key_of c ≡ k

IfSome-keep : {A : Type 0} (P : A → Type 0) (xs : List A) (p : A → Bool) → AllByRecursion P xs → AllByRecursion P (filter p xs)
IfSome-keep P [] p h = tt
IfSome-keep P (x ∷ xs) p h =
    elim (p x) as (λ b. AllByRecursion P (cond b (x ∷ filter p xs) (filter p xs))) [ true ↦ (h.0, IfSome-keep P xs p h.1) | false ↦ IfSome-keep P xs p h.1 ]

IfSome-earlier : {A : Type 0} (R : A → A → Ordering) (P : A → Type 0) (x : A) (u : Option A) → P x → IfSome u P → IfSome (earlier R (Some x) u) P
IfSome-earlier R P x None h k = h
IfSome-earlier R P x (Some y) h k = elim (is_lt (R y x)) as (λ b. P (cond b y x)) [ true ↦ k | false ↦ h ]

IfSome-first_by : {A : Type 0} (R : A → A → Ordering) (P : A → Type 0) (xs : List A) → AllByRecursion P xs → IfSome (first_by R xs) P
IfSome-first_by R P [] h = tt
IfSome-first_by R P (x ∷ xs) h = IfSome-earlier R P x (first_by R xs) h.0 (IfSome-first_by R P xs h.1)

All-bearers_of : (k : Key) (changes : List Change) → AllByRecursion (Bears k) (bearers_of k changes)
All-bearers_of k [] = tt
All-bearers_of k (c ∷ cs) =
    elim (same_key k (key_of c)) as (λ b. same_key k (key_of c) ≡ b → AllByRecursion (Bears k) (cond b (c ∷ bearers_of k cs) (bearers_of k cs))) [
      | true ↦ λ e. (sym (same_key_is k (key_of c) e), All-bearers_of k cs)
      | false ↦ λ _. All-bearers_of k cs
    ] refl

All-posted : (k : Key) (changes : List Change) → AllByRecursion (Bears k) changes → AllByRecursion (λ r. Bears k (Post r)) (filter_map posted_record changes)
All-posted k [] h = tt
All-posted k (Post r ∷ cs) h = (h.0, All-posted k cs h.1)
All-posted k (Redact b m t ∷ cs) h = All-posted k cs h.1
All-posted k (Mark b t ∷ cs) h = All-posted k cs h.1
All-posted k (Floor b t ∷ cs) h = All-posted k cs h.1
All-posted k (AccountFloor a t ∷ cs) h = All-posted k cs h.1

IfSome-map : {A B : Type 0} (f : A → B) (P : B → Type 0) (u : Option A) → IfSome u (λ x. P (f x)) → IfSome (option_map f u) P
IfSome-map f P None h = tt
IfSome-map f P (Some x) h = h

IfSome-any : {A : Type 0} (P : A → Type 0) (u : Option A) → ((x : A) → P x) → IfSome u P
IfSome-any P None h = tt
IfSome-any P (Some x) h = h x

pub key_of-floor_change : (e : Extent) (t : ℕ) → key_of (floor_change e t) ≡ FloorOf e
key_of-floor_change (OfAccount a) t = refl
key_of-floor_change (OfBuffer b) t = refl

-- the piece of a floor: the own one, where it is above the one around
abbrev pub floor_piece : Extent → ℕ → ℕ → Option Change
floor_piece e around own = cond (nat_lt around own) (Some (floor_change e own)) None

pub piece_bears : (changes : List Change) (k : Key) → IfSome (piece changes k) (Bears k)
piece_bears changes (FloorOf e) =
    elim (nat_lt (floor_around changes e) (own_floor changes e)) as (λ t. IfSome (cond t (Some (floor_change e (own_floor changes e))) None) (Bears (FloorOf e))) [
      | true ↦ key_of-floor_change e (own_floor changes e)
      | false ↦ tt
    ]
piece_bears changes (MarkerOf b) = IfSome-map (Mark b) (Bears (MarkerOf b)) (mark changes b) (IfSome-any _ (mark changes b) (λ t. refl))
piece_bears changes (MessageOf b m) =
    let k = MessageOf b m in
    let posts = IfSome-first_by record_cmp (λ r. Bears k (Post r)) _
    (IfSome-keep (λ r. Bears k (Post r)) (filter_map posted_record (bearers_of k changes)) (λ r. nat_le (floor changes b) r.at) (All-posted k (bearers_of k changes) (All-bearers_of k changes))) in
    elim (is_gone changes b m) as (λ t. IfSome (cond t (Some (Redact b m (position_of changes b m))) (option_map Post (kept_record changes b m))) (Bears k)) [
      | true ↦ refl
      | false ↦ IfSome-map Post (Bears k) (kept_record changes b m) posts
    ]

-- ---- what `norm` has at a key

pub not_below_zero : (around : ℕ) → nat_lt around 0 ≡ false
not_below_zero around = grind (arith, nat_tests)

less_from_test : (around own : ℕ) → nat_lt around own ≡ true → around < own
less_from_test around own e = grind (arith, nat_tests)

-- two own floors have one piece, where they are equal as soon as one of them is above the one around
pub floor_piece_alike : (e : Extent) (around own other : ℕ) → (around < own → own ≡ other) → (around < other → own ≡ other) → floor_piece e around own ≡ floor_piece e around other
floor_piece_alike e around own other h k = decide (nat_lt around own) (nat_lt around other) refl refl
  where
    decide : (s t : Bool) → nat_lt around own ≡ s → nat_lt around other ≡ t → floor_piece e around own ≡ floor_piece e around other
    decide true t p q = ap (floor_piece e around) (h (less_from_test around own p))
    decide false true p q = ap (floor_piece e around) (k (less_from_test around other q))
    decide false false p q = ap (λ s. cond s (Some (floor_change e own)) None) p ∙ sym (ap (λ t. cond t (Some (floor_change e other)) None) q)

-- a key that nothing bears has no piece
pub piece_none : (changes : List Change) (k : Key) → bearers_of k changes ≡ [] → piece changes k ≡ None
piece_none changes (FloorOf d) e =
    ap (λ cs. floor_piece d (floor_around changes d) (unwrap_or (greatest (filter_map floor_moment cs)) 0)) e
    ∙ ap (λ t. cond t (Some (floor_change d 0)) None) (not_below_zero (floor_around changes d))
piece_none changes (MarkerOf b) e = ap (λ cs. option_map (Mark b) (greatest (filter_map marker_moment cs))) e
piece_none changes (MessageOf b m) e =
    ap (λ cs. cond (list_any is_redaction cs)
    (Some (Redact b m (greatest (filter (λ t. nat_le (floor changes b) t) (filter_map message_moment cs)))))
    (option_map Post (first_by record_cmp (filter (λ r. nat_le (floor changes b) r.at) (filter_map posted_record cs))))) e

find_hit : (k l : Key) (o : Option Change) (rest : List (Key × Change)) (b : Bool) → same_key k l ≡ true → find key_cmp k rest ≡ cond b o None → find key_cmp k (cons_option (option_map (λ (p : Change). (l, p)) o) rest) ≡ o
find_hit k l None rest b e h = h ∙ elim b as (λ b. cond {A = Option Change} b None None ≡ None) [ true ↦ refl | false ↦ refl ]
find_hit k l (Some p) rest b e h = ap (λ t. cond t (Some p) (find key_cmp k rest)) e

find_miss : (k l : Key) (o : Option Change) (rest : List (Key × Change)) → same_key k l ≡ false → find key_cmp k (cons_option (option_map (λ (p : Change). (l, p)) o) rest) ≡ find key_cmp k rest
find_miss k l None rest e = refl
find_miss k l (Some p) rest e = ap (λ t. cond t (Some p) (find key_cmp k rest)) e

abbrev borne : Key → List Change → Bool
borne k cs = list_any (λ c. same_key k (key_of c)) cs

find_entry : (changes : List Change) (k : Key) (cs : List Change) → find key_cmp k (filter_map (piece_entry changes) cs) ≡ cond (borne k cs) (piece changes k) None
find_entry changes k [] = refl
find_entry changes k (c ∷ cs) =
    let rest = filter_map (piece_entry changes) cs in
    elim (same_key k (key_of c)) as (λ b. same_key k (key_of c) ≡ b → find key_cmp k (cons_option (piece_entry changes c) rest) ≡ cond (b || borne k cs) (piece changes k) None) [
      | true ↦ λ e.
          let here = ap (piece changes) (same_key_is k (key_of c) e) in
          find_hit k (key_of c) (piece changes (key_of c)) rest (borne k cs) e (find_entry changes k cs ∙ ap (λ o. cond (borne k cs) o None) here) ∙ sym here
      | false ↦ λ e. find_miss k (key_of c) (piece changes (key_of c)) rest e ∙ find_entry changes k cs
    ] refl

not_borne : (k : Key) (cs : List Change) → borne k cs ≡ false → bearers_of k cs ≡ []
not_borne k [] e = refl
not_borne k (c ∷ cs) e =
    elim (same_key k (key_of c)) as (λ b. (b || borne k cs) ≡ false → cond b (c ∷ bearers_of k cs) (bearers_of k cs) ≡ []) [
      | true ↦ λ e. absurd (false≢true (sym e))
      | false ↦ λ e. not_borne k cs e
    ] e

pub get-norm : (changes : List Change) (k : Key) → get (norm changes) k ≡ piece changes k
unfolding norm
get-norm changes k =
    get-from_entries key_total (filter_map (piece_entry changes) changes) k ∙ find_entry changes k changes
    ∙ elim (borne k changes) as (λ b. borne k changes ≡ b → cond b (piece changes k) None ≡ piece changes k) [
      | true ↦ λ _. refl
      | false ↦ λ e. sym (piece_none changes k (not_borne k changes e))
    ] refl

-- sets with equal pieces have one normal form
pub norm_from_pieces : (xs ys : List Change) → ((k : Key) → piece xs k ≡ piece ys k) → norm xs ≡ norm ys
norm_from_pieces xs ys h = same_map key_total key_exact (norm xs) (norm ys) (λ k. get-norm xs k ∙ h k ∙ sym (get-norm ys k))

-- ---- histories that keep each change under its key

pub All-put : (k : Key) (c : Change) (es : List (Key × Change)) → key_of c ≡ k → AllByRecursion IsKeyedEntry es → AllByRecursion IsKeyedEntry (put key_cmp k c es)
All-put k c [] p h = (p, tt)
All-put k c (e ∷ es) p h =
    elim (key_cmp k e.0) as (λ o. key_cmp k e.0 ≡ o → AllByRecursion IsKeyedEntry (by_order o ((k, c) ∷ e ∷ es) ((e.0, c) ∷ es) (e ∷ put key_cmp k c es))) [
      | Less ↦ λ _. (p, h)
      | Equal ↦ λ t. (p ∙ key_exact k e.0 t, h.1)
      | Greater ↦ λ _. (h.0, All-put k c es p h.1)
    ] refl

All-none : {A : Type 0} (P : A → Type 0) (xs : List A) → length xs ≡ 0 → AllByRecursion P xs
All-none P [] e = tt
All-none P (x ∷ xs) e = absurd (omega (arith, e))

pub All-from_entries : (es : List (Key × Change)) → AllByRecursion IsKeyedEntry es → AllByRecursion IsKeyedEntry (entries (from_entries {R = key_cmp} es))
All-from_entries [] h = All-none IsKeyedEntry (entries empty) (sym (len-entries (empty {X = Change} {R = key_cmp})) ∙ len-empty key_cmp Change)
All-from_entries (e ∷ es) h = subst (AllByRecursion IsKeyedEntry) (sym (entries-insert key_total (from_entries es) e.0 e.1)) (All-put e.0 e.1 (entries (from_entries es)) h.0 (All-from_entries es h.1))

Keyed-entry : (l : Key) (o : Option Change) (rest : List (Key × Change)) → IfSome o (Bears l) → AllByRecursion IsKeyedEntry rest → AllByRecursion IsKeyedEntry (cons_option (option_map (λ (p : Change). (l, p)) o) rest)
Keyed-entry l None rest p h = h
Keyed-entry l (Some c) rest p h = (p, h)

All-piece_entries : (changes cs : List Change) → AllByRecursion IsKeyedEntry (filter_map (piece_entry changes) cs)
All-piece_entries changes [] = tt
All-piece_entries changes (c ∷ cs) = Keyed-entry (key_of c) (piece changes (key_of c)) _ (piece_bears changes (key_of c)) (All-piece_entries changes cs)

pub norm_keyed : (changes : List Change) → IsKeyed (norm changes)
unfolding norm IsKeyed
norm_keyed changes = All-from_entries _ (All-piece_entries changes changes)

pub from_entries_keyed : (es : List (Key × Change)) → AllByRecursion IsKeyedEntry es → IsKeyed (from_entries es)
unfolding IsKeyed
from_entries_keyed es h = All-from_entries es h

-- ---- which changes of a history bear a key

first : (a b : Bool) → T (a && b) → T a
first true b p = tt
first false b p = p

second : (a b : Bool) → T (a && b) → T b
second true b p = p
second false b p = absurd p

lt_not_eq : (o : Ordering) → T (is_lt o) → is_eq o ≡ false
lt_not_eq Less p = refl
lt_not_eq Equal p = absurd p
lt_not_eq Greater p = refl

-- a key below all those of the entries is borne by none
none_below : (k : Key) (es : List (Key × Change)) → T (below_all key_cmp k es) → AllByRecursion IsKeyedEntry es → bearers_of k (map (λ (e : Key × Change). e.1) es) ≡ []
none_below k [] s h = refl
none_below k (e ∷ es) s h =
    ap (λ b. cond b (e.1 ∷ bearers_of k (map (λ (e : Key × Change). e.1) es)) (bearers_of k (map (λ (e : Key × Change). e.1) es)))
    (ap (same_key k) h.0 ∙ lt_not_eq (key_cmp k e.0) (first _ _ s))
    ∙ none_below k es (second _ _ s) h.1

borne_in : (k : Key) (es : List (Key × Change)) → T (is_sorted key_cmp es) → AllByRecursion IsKeyedEntry es → bearers_of k (map (λ (e : Key × Change). e.1) es) ≡ option_to_list (find key_cmp k es)
borne_in k [] s h = refl
borne_in k (e ∷ es) s h =
    let rest = bearers_of k (map (λ (e : Key × Change). e.1) es) in
    ap (λ b. cond b (e.1 ∷ rest) rest) (ap (same_key k) h.0)
    ∙ elim (same_key k e.0) as (λ b. same_key k e.0 ≡ b → cond b (e.1 ∷ rest) rest ≡ option_to_list (cond b (Some e.1) (find key_cmp k es))) [
      | true ↦ λ t. ap (λ cs. e.1 ∷ cs) (ap (λ l. bearers_of l (map (λ (e : Key × Change). e.1) es)) (same_key_is k e.0 t) ∙ none_below e.0 es (first _ _ s) h.1)
      | false ↦ λ _. borne_in k es (second _ _ s) h.1
    ] refl

-- of a history one change bears a key, or none
pub bearers_of-changes_of : (h : History) → IsKeyed h → (k : Key) → bearers_of k (changes_of h) ≡ option_to_list (get h k)
unfolding IsKeyed changes_of
bearers_of-changes_of h keyed k = borne_in k (entries h) (entries_sorted h) keyed ∙ ap option_to_list (sym (get-entries h k))

pub bearers_of-append : (k : Key) (xs ys : List Change) → bearers_of k (xs ++ ys) ≡ bearers_of k xs ++ bearers_of k ys
bearers_of-append k xs ys = filter-append (λ c. same_key k (key_of c)) xs ys

pub bearers_of-norm : (changes : List Change) (k : Key) → bearers_of k (changes_of (norm changes)) ≡ option_to_list (piece changes k)
bearers_of-norm changes k = bearers_of-changes_of (norm changes) (norm_keyed changes) k ∙ ap option_to_list (get-norm changes k)
