-- What a node sends of lawful changes is lawful.
use Rattle.std.proofs.Common.{◌≡◌, ◌∙◌, ℕ, zero, suc, ◌≤◌, Bool, true, false, cond, Option, Some, None, List, [], ◌∷◌, map, take, length, sym, subst, arith}
use Rattle.std.specs.Prelude.{IfSome, unwrap_or, nat_lt, nat_le}
use Rattle.std.specs.declared.cmp.Ordering.{Ordering}
use Rattle.std.specs.declared.cmp.Ordering.TheVariants.{Less, Equal, Greater}
use Rattle.std.specs.Ordering.{is_lt, nat_cmp, flip_args}
use Rattle.std.specs.List.{filter, filter_map, cons_option, AllByRecursion}
use Rattle.std.specs.Option.{option_map}
use Rattle.std.specs.Cmp.{IsTotalOrder}
use Rattle.std.specs.FinMap.{put, entries, entries-insert, empty, len-empty, len-entries, from_entries, get}
use Rattle.std.specs.FinMap.Entries.{by_order}
use Rattle.std.proofs.lemmas.Cmp.{nat_cmp_total}
use Rattle.irc_time.specs.Time as time
use Rattle.chat_change.specs.Words.{is_name, is_id}
use Rattle.chat_change.specs.Buffer.{Buffer, IsLawfulBuffer}
use Rattle.chat_change.specs.Order.{record_cmp}
use Rattle.chat_change.specs.Lawful.{IsLawfulRecord, IsLawfulChange}
use Rattle.chat_change.specs.Extent.{Extent, OfAccount, OfBuffer}
use Rattle.chat_change.specs.Key.{Key, FloorOf, MarkerOf, MessageOf, same_key, key_of, bearers_of, floor_change}
use Rattle.chat_change.specs.declared.change.Change.{Change}
use Rattle.chat_change.specs.declared.change.Change.TheVariants.{Post, Redact, Mark, Floor, AccountFloor}
use Rattle.chat_change.proofs.CallerLemmas.{key_total}
use Rattle.chat_history.specs.Choice.{earlier, first_by, greatest}
use Rattle.chat_history.specs.History.{own_floor, floor_around, floor, mark, is_gone, kept_record, position_of, floor_moment, marker_moment, posted_record, message_moment, piece, piece_entry, norm}
use Rattle.chat_history.specs.Numbering.{delta, newer, numbers, numbered_entry, delta_limit}

-- ---- lists

module _ {A : Type 0} (P : A → Type 0) where
  all-filter : (p : A → Bool) (xs : List A) → AllByRecursion P xs → AllByRecursion P (filter p xs)
  all-filter p [] h = tt
  all-filter p (x ∷ xs) h =
      elim (p x) as (λ b. AllByRecursion P (cond b (x ∷ filter p xs) (filter p xs))) [ true ↦ (h.0, all-filter p xs h.1) | false ↦ all-filter p xs h.1 ]

  all-take : (n : ℕ) (xs : List A) → AllByRecursion P xs → AllByRecursion P (take n xs)
  all-take zero xs h = tt
  all-take (suc n) [] h = tt
  all-take (suc n) (x ∷ xs) h = (h.0, all-take n xs h.1)

  some-earlier : (R : A → A → Ordering) (x : A) (u : Option A) → P x → IfSome u P → IfSome (earlier R (Some x) u) P
  some-earlier R x None h k = h
  some-earlier R x (Some y) h k = elim (is_lt (R y x)) as (λ b. P (cond b y x)) [ true ↦ k | false ↦ h ]

  some-first : (R : A → A → Ordering) (xs : List A) → AllByRecursion P xs → IfSome (first_by R xs) P
  some-first R [] h = tt
  some-first R (x ∷ xs) h = some-earlier R x (first_by R xs) h.0 (some-first R xs h.1)

all-map : {A B : Type 0} (P : B → Type 0) (f : A → B) (xs : List A) → AllByRecursion (λ x. P (f x)) xs → AllByRecursion P (map f xs)
all-map P f [] h = tt
all-map P f (x ∷ xs) h = (h.0, all-map P f xs h.1)

-- what each element makes, if it makes anything
all-made : {A B : Type 0} (P : A → Type 0) (Q : B → Type 0) (f : A → Option B) → ((x : A) → P x → IfSome (f x) Q)
    → (xs : List A) → AllByRecursion P xs → AllByRecursion Q (filter_map f xs)
all-made P Q f makes [] h = tt
all-made {A} {B} P Q f makes (x ∷ xs) h = go (f x) (makes x h.0) (all-made P Q f makes xs h.1) where
  go : (o : Option B) → IfSome o Q → AllByRecursion Q (filter_map f xs) → AllByRecursion Q (cons_option o (filter_map f xs))
  go None i rest = rest
  go (Some y) i rest = (i, rest)

some-map : {A B : Type 0} (f : A → B) (P : B → Type 0) (u : Option A) → IfSome u (λ x. P (f x)) → IfSome (option_map f u) P
some-map f P None h = tt
some-map f P (Some x) h = h

some-any : {A : Type 0} (P Q : A → Type 0) (u : Option A) → IfSome u P → ((x : A) → P x → Q x) → IfSome u Q
some-any P Q None h f = tt
some-any P Q (Some x) h f = f x h

-- ---- entries

module _ {K X : Type 0} {R : K → K → Ordering} (total : IsTotalOrder R) (P : X → Type 0) where
  all-put : (k : K) (x : X) (es : List (K × X)) → P x → AllByRecursion (λ (e : K × X). P e.1) es → AllByRecursion (λ (e : K × X). P e.1) (put R k x es)
  all-put k x [] p h = (p, tt)
  all-put k x (e ∷ es) p h =
      elim (R k e.0) as (λ o. AllByRecursion (λ (e : K × X). P e.1) (by_order o ((k, x) ∷ e ∷ es) ((e.0, x) ∷ es) (e ∷ put R k x es))) [
        | Less ↦ (p, h)
        | Equal ↦ (p, h.1)
        | Greater ↦ (h.0, all-put k x es p h.1)
      ]

  none-of : (es : List (K × X)) → length es ≡ 0 → AllByRecursion (λ (e : K × X). P e.1) es
  none-of [] e = tt
  none-of (x ∷ es) e = absurd (omega (arith, e))

  all-entries : (es : List (K × X)) → AllByRecursion (λ (e : K × X). P e.1) es → AllByRecursion (λ (e : K × X). P e.1) (entries (from_entries {R = R} es))
  all-entries [] h = none-of (entries empty) (sym (len-entries (empty {X = X} {R = R})) ∙ len-empty R X)
  all-entries (e ∷ es) h =
      subst (AllByRecursion (λ (e : K × X). P e.1)) (sym (entries-insert total (from_entries es) e.0 e.1)) (all-put e.0 e.1 (entries (from_entries es)) h.0 (all-entries es h.1))

-- ---- pieces

abbrev IsMoment : ℕ → Type 0
IsMoment t = t ≤ time.greatest

-- what lawful changes bear
abbrev IsLawfulKey : Key → Type 0
IsLawfulKey (FloorOf (OfAccount a)) = is_name a ≡ true
IsLawfulKey (FloorOf (OfBuffer b)) = IsLawfulBuffer b
IsLawfulKey (MarkerOf b) = IsLawfulBuffer b
IsLawfulKey (MessageOf b m) = IsLawfulBuffer b × (is_id m ≡ true)

key_lawful : (c : Change) → IsLawfulChange c → IsLawfulKey (key_of c)
key_lawful (Post r) h = (h.buffer, h.id)
key_lawful (Redact b m t) h = (h.0, h.1)
key_lawful (Mark b t) h = h.0
key_lawful (Floor b t) h = h.0
key_lawful (AccountFloor a t) h = h.0

floor_in : (c : Change) → IsLawfulChange c → IfSome (floor_moment c) IsMoment
floor_in (Post r) h = tt
floor_in (Redact b m t) h = tt
floor_in (Mark b t) h = tt
floor_in (Floor b t) h = h.1
floor_in (AccountFloor a t) h = h.1

marker_in : (c : Change) → IsLawfulChange c → IfSome (marker_moment c) IsMoment
marker_in (Post r) h = tt
marker_in (Redact b m t) h = tt
marker_in (Mark b t) h = h.1
marker_in (Floor b t) h = tt
marker_in (AccountFloor a t) h = tt

message_in : (c : Change) → IsLawfulChange c → IfSome (message_moment c) IsMoment
message_in (Post r) h = h.at
message_in (Redact b m t) h = h.2
message_in (Mark b t) h = tt
message_in (Floor b t) h = tt
message_in (AccountFloor a t) h = tt

record_in : (c : Change) → IsLawfulChange c → IfSome (posted_record c) IsLawfulRecord
record_in (Post r) h = h
record_in (Redact b m t) h = tt
record_in (Mark b t) h = tt
record_in (Floor b t) h = tt
record_in (AccountFloor a t) h = tt

or_zero : (u : Option ℕ) → IfSome u IsMoment → IsMoment (unwrap_or u 0)
or_zero None h = omega arith
or_zero (Some t) h = h

module _ (changes : List Change) (all : AllByRecursion IsLawfulChange changes) where
  bearers : (k : Key) → AllByRecursion IsLawfulChange (bearers_of k changes)
  bearers k = all-filter IsLawfulChange (λ c. same_key k (key_of c)) changes all

  floor_within : (e : Extent) → IsMoment (own_floor changes e)
  floor_within e =
      or_zero (greatest (filter_map floor_moment (bearers_of (FloorOf e) changes)))
      (some-first IsMoment (flip_args nat_cmp) _ (all-made IsLawfulChange IsMoment floor_moment floor_in (bearers_of (FloorOf e) changes) (bearers (FloorOf e))))

  floor_lawful : (e : Extent) (t : ℕ) → IsLawfulKey (FloorOf e) → IsMoment t → IsLawfulChange (floor_change e t)
  floor_lawful (OfAccount a) t h w = (h, w)
  floor_lawful (OfBuffer b) t h w = (h, w)

  mark_within : (b : Buffer) → IfSome (mark changes b) IsMoment
  mark_within b = some-first IsMoment (flip_args nat_cmp) _ (all-made IsLawfulChange IsMoment marker_moment marker_in (bearers_of (MarkerOf b) changes) (bearers (MarkerOf b)))

  position_within : (b : Buffer) (m : List ℕ) → IfSome (position_of changes b m) IsMoment
  position_within b m =
      some-first IsMoment (flip_args nat_cmp) _
      (all-filter IsMoment (λ t. nat_le (floor changes b) t) _ (all-made IsLawfulChange IsMoment message_moment message_in (bearers_of (MessageOf b m) changes) (bearers (MessageOf b m))))

  kept_lawful : (b : Buffer) (m : List ℕ) → IfSome (kept_record changes b m) IsLawfulRecord
  kept_lawful b m =
      some-first IsLawfulRecord record_cmp _
      (all-filter IsLawfulRecord (λ r. nat_le (floor changes b) r.at) _ (all-made IsLawfulChange IsLawfulRecord posted_record record_in (bearers_of (MessageOf b m) changes) (bearers (MessageOf b m))))

  piece_lawful : (k : Key) → IsLawfulKey k → IfSome (piece changes k) IsLawfulChange
  piece_lawful (FloorOf e) h =
      elim (nat_lt (floor_around changes e) (own_floor changes e)) as (λ t. IfSome (cond t (Some (floor_change e (own_floor changes e))) None) IsLawfulChange) [
        | true ↦ floor_lawful e (own_floor changes e) h (floor_within e)
        | false ↦ tt
      ]
  piece_lawful (MarkerOf b) h = some-map (Mark b) IsLawfulChange (mark changes b) (some-any IsMoment _ (mark changes b) (mark_within b) (λ t w. (h, w)))
  piece_lawful (MessageOf b m) h =
      elim (is_gone changes b m) as (λ t. IfSome (cond t (Some (Redact b m (position_of changes b m))) (option_map Post (kept_record changes b m))) IsLawfulChange) [
        | true ↦ (h.0, h.1, position_within b m)
        | false ↦ some-map Post IsLawfulChange (kept_record changes b m) (kept_lawful b m)
      ]

  norm_lawful : AllByRecursion (λ (e : Key × Change). IsLawfulChange e.1) (entries (norm changes))
  unfolding norm
  norm_lawful =
      all-entries key_total IsLawfulChange (filter_map (piece_entry changes) changes)
      (all-made IsLawfulChange (λ (e : Key × Change). IsLawfulChange e.1) (piece_entry changes)
      (λ c h. some-map (λ (p : Change). (key_of c, p)) (λ (e : Key × Change). IsLawfulChange e.1) (piece changes (key_of c)) (piece_lawful (key_of c) (key_lawful c h))) changes all)

  -- ---- deltas

  newer_lawful : (start from : ℕ) → AllByRecursion (λ (e : ℕ × Change). IsLawfulChange e.1) (newer (norm changes) (numbers start changes) from)
  newer_lawful start from =
      all-filter (λ (e : ℕ × Change). IsLawfulChange e.1) (λ (e : ℕ × Change). nat_lt from e.0) _
      (all-entries nat_cmp_total IsLawfulChange (filter_map (numbered_entry (numbers start changes)) (entries (norm changes)))
      (all-made (λ (e : Key × Change). IsLawfulChange e.1) (λ (e : ℕ × Change). IsLawfulChange e.1) (numbered_entry (numbers start changes))
      (λ e h. some-map (λ (n : ℕ). (n, e.1)) (λ (e : ℕ × Change). IsLawfulChange e.1) (get (numbers start changes) e.0) (some-any (λ n. Unit {0}) _ (get (numbers start changes) e.0) (some-unit (get (numbers start changes) e.0)) (λ n u. h)))
      (entries (norm changes)) norm_lawful)) where
        some-unit : (u : Option ℕ) → IfSome u (λ n. Unit {0})
        some-unit None = tt
        some-unit (Some n) = tt

  pub delta_lawful : (start from : ℕ) → AllByRecursion IsLawfulChange (delta start changes from).changes
  delta_lawful start from =
      all-map IsLawfulChange (λ (e : ℕ × Change). e.1) _ (all-take (λ (e : ℕ × Change). IsLawfulChange e.1) delta_limit _ (newer_lawful start from))
