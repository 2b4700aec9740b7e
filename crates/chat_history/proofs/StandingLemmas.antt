-- Markers, floors, positions and kept records as what the members of a set of changes say.
use Rattle.std.proofs.Common.{◌≡◌, ◌≢◌, ℕ, ◌≤◌, ◌<◌, Bool, true, false, ◌||◌, Option, Some, None, List, [], ◌∷◌, refl, sym, ◌∙◌, ap, subst, arith, ⊎_elim, inl, inr, ◌⊎◌}
use Rattle.std.specs.declared.cmp.Ordering.{Ordering}
use Rattle.std.specs.declared.cmp.Ordering.TheVariants.{Less, Equal, Greater}
use Rattle.std.proofs.lemmas.Bool.{false≢true}
use Rattle.std.proofs.lemmas.Bool.Decides.{nat_tests}
use Rattle.std.proofs.lemmas.Map.Keys.{le_from_not_gt}
use Rattle.std.specs.Prelude.{Contains, ◌↔◌, IsTrue, nat_lt, nat_le}
use Rattle.std.specs.Ordering.{is_gt, nat_cmp, ordering_reverse}
use Rattle.std.specs.Cmp.{IsTotalOrder}
use Rattle.std.specs.List.{filter, filter_map, list_any}
use Rattle.std.specs.Option.{unwrap_or}
use Rattle.chat_change.specs.Buffer.{Buffer}
use Rattle.chat_change.specs.Record.{Record}
use Rattle.chat_change.specs.Order.{record_cmp}
use Rattle.chat_change.specs.declared.change.Change.{Change}
use Rattle.chat_change.specs.declared.change.Change.TheVariants.{Post, Redact, Mark, Floor, AccountFloor}
use Rattle.chat_change.proofs.CallerLemmas.{record_total, record_exact}
use Rattle.chat_history.specs.Choice.{greatest, Among}
use Rattle.chat_change.specs.Extent.{Extent, OfAccount, OfBuffer}
use Rattle.chat_change.specs.Key.{Key, FloorOf, MarkerOf, MessageOf, same_key, key_of, bearers_of, floor_change}
use Rattle.chat_history.specs.History.{floor, own_floor, account_floor, mark, is_gone, kept_record, position_of, floor_moment, marker_moment, posted_record, message_moment, is_redaction}
use Rattle.chat_history.specs.Members.{IsPosted, IsStandingPost, IsMomentOf}
use Rattle.chat_change.proofs.CallerLemmas.{same_key_itself, same_key_is}
use Rattle.chat_history.proofs.NormLemmas.{latest_total, latest_exact}
use Rattle.chat_history.proofs.MemberLemmas.{among, contained, among-filter, among_passing, among-filter_map, among_made, first_member, member_first, first_none, none_first}
use Rattle.chat_history.proofs.PieceLemmas.{key_of-floor_change}

-- ---- changes of a key

pub among-bearers_of : (k : Key) (changes : List Change) (c : Change) → Among c (bearers_of k changes) → Contains changes c × (key_of c ≡ k)
among-bearers_of k changes c h =
    let r = among-filter (λ c. same_key k (key_of c)) changes c h in
    (contained changes c r.0, sym (same_key_is k (key_of c) r.1))

pub among_borne : (k : Key) (changes : List Change) (c : Change) → Contains changes c → key_of c ≡ k → Among c (bearers_of k changes)
among_borne k changes c h e =
    among_passing (λ c. same_key k (key_of c)) changes c (among changes c h) (subst (λ l. same_key k l ≡ true) (sym e) (same_key_itself k))

-- ---- the greatest

pub greatest_most : (xs : List ℕ) (t : ℕ) → greatest xs ≡ Some t → Among t xs × ((u : ℕ) → Among u xs → u ≤ t)
greatest_most xs t e =
    let h = first_member latest_total latest_exact xs t e in
    (h.0, λ u m. le_from_not_gt u t (h.1 u m))

no_more : (u t : ℕ) → u ≤ t → is_gt (nat_cmp u t) ≡ false
no_more u t l = grind (arith, nat_tests)

pub most_greatest : (xs : List ℕ) (t : ℕ) → Among t xs → ((u : ℕ) → Among u xs → u ≤ t) → greatest xs ≡ Some t
most_greatest xs t m h = member_first latest_total latest_exact xs t (m, λ u a. no_more u t (h u a))

no_member : {A : Type 0} (xs : List A) → xs ≡ [] → (x : A) → Among x xs → ⊥
no_member xs e x m = subst (Among x) e m

-- ---- markers

marker_is : (c : Change) (b : Buffer) (t : ℕ) → key_of c ≡ MarkerOf b → marker_moment c ≡ Some t → c ≡ Mark b t
marker_is (Post r) b t k e = cc
marker_is (Redact d m u) b t k e = cc
marker_is (Mark d u) b t k e = cc
marker_is (Floor d u) b t k e = cc
marker_is (AccountFloor a u) b t k e = cc

module _ (changes : List Change) (b : Buffer) where
  abbrev marks : List ℕ
  marks = filter_map marker_moment (bearers_of (MarkerOf b) changes)

  marked : (t : ℕ) → Among t marks → Contains changes (Mark b t)
  marked t m =
      let r = among-filter_map marker_moment (bearers_of (MarkerOf b) changes) t m in
      let c = among-bearers_of (MarkerOf b) changes r.0 r.1 in
      subst (Contains changes) (marker_is r.0 b t c.1 r.2) c.0

  in_marks : (t : ℕ) → Contains changes (Mark b t) → Among t marks
  in_marks t h = among_made marker_moment (bearers_of (MarkerOf b) changes) (Mark b t) t (among_borne (MarkerOf b) changes (Mark b t) h refl) refl

  pub mark_greatest : (t : ℕ) → (mark changes b ≡ Some t) ↔ (Contains changes (Mark b t) × ((u : ℕ) → Contains changes (Mark b u) → u ≤ t))
  mark_greatest t = (
    λ e. let h = greatest_most marks t e in (marked t h.0, λ u c. h.1 u (in_marks u c)),
    λ h. most_greatest marks t (in_marks t h.0) (λ u m. h.1 u (marked u m)),
  )

  pub mark_none : (mark changes b ≡ None) ↔ ((t : ℕ) → Contains changes (Mark b t) → ⊥)
  mark_none = (
    λ e t c. no_member marks (first_none latest_total latest_exact marks e) t (in_marks t c),
    λ h. none_first latest_total latest_exact marks (λ t m. h t (marked t m)),
  )

-- ---- floors

floor_is : (c : Change) (e : Extent) (t : ℕ) → key_of c ≡ FloorOf e → floor_moment c ≡ Some t → c ≡ floor_change e t
floor_is (Post r) e t k m = cc
floor_is (Redact d n u) e t k m = cc
floor_is (Mark d u) e t k m = cc
floor_is (Floor d u) e t k m =
    let p : OfBuffer d ≡ e = cc in
    let q : u ≡ t = cc in
    λ i. floor_change (p i) (q i)
floor_is (AccountFloor a u) e t k m =
    let p : OfAccount a ≡ e = cc in
    let q : u ≡ t = cc in
    λ i. floor_change (p i) (q i)

moment_of-floor_change : (e : Extent) (t : ℕ) → floor_moment (floor_change e t) ≡ Some t
moment_of-floor_change (OfAccount a) t = refl
moment_of-floor_change (OfBuffer b) t = refl

module _ (changes : List Change) (e : Extent) where
  abbrev floors : List ℕ
  floors = filter_map floor_moment (bearers_of (FloorOf e) changes)

  set : (t : ℕ) → Among t floors → Contains changes (floor_change e t)
  set t m =
      let r = among-filter_map floor_moment (bearers_of (FloorOf e) changes) t m in
      let c = among-bearers_of (FloorOf e) changes r.0 r.1 in
      subst (Contains changes) (floor_is r.0 e t c.1 r.2) c.0

  in_floors : (t : ℕ) → Contains changes (floor_change e t) → Among t floors
  in_floors t h =
      among_made floor_moment (bearers_of (FloorOf e) changes) (floor_change e t) t
      (among_borne (FloorOf e) changes (floor_change e t) h (key_of-floor_change e t)) (moment_of-floor_change e t)

  bounded : (u : Option ℕ) → greatest floors ≡ u → (t : ℕ) → Contains changes (floor_change e t) → t ≤ unwrap_or u 0
  bounded None g t c = absurd (no_member floors (first_none latest_total latest_exact floors g) t (in_floors t c))
  bounded (Some v) g t c = (greatest_most floors v g).1 t (in_floors t c)

  own_floor_bound : (t : ℕ) → Contains changes (floor_change e t) → t ≤ own_floor changes e
  own_floor_bound = bounded (greatest floors) refl

  is_set : (u : Option ℕ) → greatest floors ≡ u → (unwrap_or u 0 ≡ 0) ⊎ Contains changes (floor_change e (unwrap_or u 0))
  is_set None g = inl refl
  is_set (Some v) g = inr (set v (greatest_most floors v g).0)

  own_floor_set : (own_floor changes e ≡ 0) ⊎ Contains changes (floor_change e (own_floor changes e))
  own_floor_set = is_set (greatest floors) refl

module _ (changes : List Change) where
  pub account_floor_bound : (a : List ℕ) (t : ℕ) → Contains changes (AccountFloor a t) → t ≤ account_floor changes a
  account_floor_bound a t = own_floor_bound changes (OfAccount a) t

  pub account_floor_set : (a : List ℕ) → (account_floor changes a ≡ 0) ⊎ Contains changes (AccountFloor a (account_floor changes a))
  account_floor_set a = own_floor_set changes (OfAccount a)

  pub floor_around_bound : (b : Buffer) → account_floor changes b.account ≤ floor changes b
  floor_around_bound b = omega arith

  pub floor_bound : (b : Buffer) (t : ℕ) → Contains changes (Floor b t) → t ≤ floor changes b
  floor_bound b t c = let h = own_floor_bound changes (OfBuffer b) t c in omega arith

  pub floor_set : (b : Buffer) → (floor changes b ≡ account_floor changes b.account) ⊎ Contains changes (Floor b (floor changes b))
  floor_set b = decide (nat_lt (account_floor changes b.account) (own_floor changes (OfBuffer b))) refl
    where
      decide : (s : Bool) → nat_lt (account_floor changes b.account) (own_floor changes (OfBuffer b)) ≡ s → (floor changes b ≡ account_floor changes b.account) ⊎ Contains changes (Floor b (floor changes b))
      decide true p =
          let above : account_floor changes b.account < own_floor changes (OfBuffer b) = grind (arith, nat_tests) in
          let is : own_floor changes (OfBuffer b) ≡ floor changes b = omega arith in
          ⊎_elim (λ z. absurd (omega (arith, z))) (λ c. inr (subst (λ t. Contains changes (Floor b t)) is c)) (own_floor_set changes (OfBuffer b))
      decide false p = inl (grind (arith, nat_tests))

-- ---- redactions

redaction_is : (c : Change) (b : Buffer) (m : List ℕ) → key_of c ≡ MessageOf b m → is_redaction c ≡ true → (t : Option ℕ) × (c ≡ Redact b m t)
redaction_is (Post r) b m k e = absurd (false≢true e)
redaction_is (Redact d n t) b m k e = (t, cc)
redaction_is (Mark d u) b m k e = absurd (false≢true e)
redaction_is (Floor d u) b m k e = absurd (false≢true e)
redaction_is (AccountFloor a u) b m k e = absurd (false≢true e)

any_member : {A : Type 0} (p : A → Bool) (xs : List A) → list_any p xs ≡ true → (x : A) × Among x xs × (p x ≡ true)
any_member p [] e = absurd (false≢true e)
any_member p (x ∷ xs) e =
    elim (p x) as (λ b. p x ≡ b → (b || list_any p xs) ≡ true → (y : _) × Among y (x ∷ xs) × (p y ≡ true)) [
      | true ↦ λ t _. (x, inl refl, t)
      | false ↦ λ _ e. let r = any_member p xs e in (r.0, inr r.1, r.2)
    ] refl e

or_true : (a : Bool) → (a || true) ≡ true
or_true true = refl
or_true false = refl

member_any : {A : Type 0} (p : A → Bool) (xs : List A) (x : A) → Among x xs → p x ≡ true → list_any p xs ≡ true
member_any p [] x m e = absurd m
member_any p (y ∷ ys) x m e = ⊎_elim (λ s. ap (λ b. b || list_any p ys) (ap p s ∙ e)) (λ a. ap (λ b. p y || b) (member_any p ys x a e) ∙ or_true (p y)) m

pub gone_named : (changes : List Change) (b : Buffer) (m : List ℕ) → IsTrue (is_gone changes b m) ↔ ((t : Option ℕ) × Contains changes (Redact b m t))
gone_named changes b m = (
  λ e.
      let r = any_member is_redaction (bearers_of (MessageOf b m) changes) e in
      let c = among-bearers_of (MessageOf b m) changes r.0 r.1 in
      let s = redaction_is r.0 b m c.1 r.2 in
      (s.0, subst (Contains changes) s.1 c.0),
  λ h. member_any is_redaction (bearers_of (MessageOf b m) changes) (Redact b m h.0) (among_borne (MessageOf b m) changes (Redact b m h.0) h.1 refl) refl,
)

-- ---- kept records

post_is : (c : Change) (r : Record) → posted_record c ≡ Some r → c ≡ Post r
post_is (Post q) r e = cc
post_is (Redact d n t) r e = cc
post_is (Mark d u) r e = cc
post_is (Floor d u) r e = cc
post_is (AccountFloor a u) r e = cc

at_least_is : (f t : ℕ) → nat_le f t ≡ true → f ≤ t
at_least_is f t e = grind (arith, nat_tests)

is_at_least : (f t : ℕ) → f ≤ t → nat_le f t ≡ true
is_at_least f t l = grind (arith, nat_tests)

pub not_less : {A : Type 0} {R : A → A → Ordering} (o : IsTotalOrder R) (x y : A) → R y x ≢ Less → is_gt (R x y) ≡ false
not_less {R = R} o x y h =
    ap is_gt (o.antisymm x y) ∙ elim (R y x) as (λ w. R y x ≡ w → is_gt (ordering_reverse w) ≡ false) [
      | Less ↦ λ e. absurd (h e)
      | Equal ↦ λ _. refl
      | Greater ↦ λ _. refl
    ] refl

pub less_not : {A : Type 0} {R : A → A → Ordering} (o : IsTotalOrder R) (x y : A) → is_gt (R x y) ≡ false → R y x ≢ Less
less_not {R = R} o x y h e = false≢true (sym h ∙ ap is_gt (o.antisymm x y ∙ ap ordering_reverse e))

module _ (changes : List Change) (b : Buffer) (m : List ℕ) where
  posted : (r : Record) → Among r (filter_map posted_record (bearers_of (MessageOf b m) changes)) → IsPosted changes b m r
  posted r h =
      let s = among-filter_map posted_record (bearers_of (MessageOf b m) changes) r h in
      let c = among-bearers_of (MessageOf b m) changes s.0 s.1 in
      let e = post_is s.0 r s.2 in
      let k : MessageOf r.buffer r.id ≡ MessageOf b m = ap key_of (sym e) ∙ c.1 in
      (subst (Contains changes) e c.0, cc, cc)

  in_posts : (r : Record) → IsPosted changes b m r → Among r (filter_map posted_record (bearers_of (MessageOf b m) changes))
  in_posts r h = among_made posted_record (bearers_of (MessageOf b m) changes) (Post r) r (among_borne (MessageOf b m) changes (Post r) h.0 (λ i. MessageOf (h.1 i) (h.2 i))) refl

  abbrev standing : List Record
  standing = filter (λ r. nat_le (floor changes b) r.at) (filter_map posted_record (bearers_of (MessageOf b m) changes))

  stands : (r : Record) → Among r standing → IsStandingPost changes b m r
  stands r h =
      let s = among-filter (λ r. nat_le (floor changes b) r.at) (filter_map posted_record (bearers_of (MessageOf b m) changes)) r h in
      (posted r s.0, at_least_is (floor changes b) r.at s.1)

  in_standing : (r : Record) → IsStandingPost changes b m r → Among r standing
  in_standing r h = among_passing (λ r. nat_le (floor changes b) r.at) (filter_map posted_record (bearers_of (MessageOf b m) changes)) r (in_posts r h.0) (is_at_least (floor changes b) r.at h.1)

  pub kept_first : (r : Record) → (kept_record changes b m ≡ Some r) ↔ (IsStandingPost changes b m r × ((q : Record) → IsStandingPost changes b m q → record_cmp q r ≢ Less))
  kept_first r = (
    λ e. let h = first_member record_total record_exact standing r e in (stands r h.0, λ q s. less_not record_total r q (h.1 q (in_standing q s))),
    λ h. member_first record_total record_exact standing r (in_standing r h.0, λ q a. not_less record_total r q (h.1 q (stands q a))),
  )

  pub kept_none : (kept_record changes b m ≡ None) ↔ ((r : Record) → IsStandingPost changes b m r → ⊥)
  kept_none = (
    λ e r s. no_member standing (first_none record_total record_exact standing e) r (in_standing r s),
    λ h. none_first record_total record_exact standing (λ r a. h r (stands r a)),
  )

  -- ---- positions

  moment_is : (c : Change) (t : ℕ) → key_of c ≡ MessageOf b m → message_moment c ≡ Some t → ((r : Record) × (c ≡ Post r) × (r.at ≡ t)) ⊎ (c ≡ Redact b m (Some t))
  moment_is (Post r) t k e = let s : r.at ≡ t = cc in inl (r, refl, s)
  moment_is (Redact d n u) t k e = let s : Redact d n u ≡ Redact b m (Some t) = cc in inr s
  moment_is (Mark d u) t k e = cc
  moment_is (Floor d u) t k e = cc
  moment_is (AccountFloor a u) t k e = cc

  abbrev moments : List ℕ
  moments = filter (λ t. nat_le (floor changes b) t) (filter_map message_moment (bearers_of (MessageOf b m) changes))

  moment_of : (t : ℕ) → Among t moments → IsMomentOf changes b m t
  moment_of t h =
      let f = among-filter (λ t. nat_le (floor changes b) t) (filter_map message_moment (bearers_of (MessageOf b m) changes)) t h in
      let s = among-filter_map message_moment (bearers_of (MessageOf b m) changes) t f.0 in
      let c = among-bearers_of (MessageOf b m) changes s.0 s.1 in (
        ⊎_elim
            (λ (p : (r : Record) × (s.0 ≡ Post r) × (r.at ≡ t)).
            let k : MessageOf p.0.buffer p.0.id ≡ MessageOf b m = ap key_of (sym p.1) ∙ c.1 in
            let d : p.0.buffer ≡ b = cc in
            let i : p.0.id ≡ m = cc in
            inl (p.0, ((subst (Contains changes) p.1 c.0, d, i), p.2)))
            (λ q. inr (subst (Contains changes) q c.0))
            (moment_is s.0 t c.1 s.2),
        at_least_is (floor changes b) t f.1,
      )

  in_moments : (t : ℕ) → IsMomentOf changes b m t → Among t moments
  in_moments t h = among_passing (λ t. nat_le (floor changes b) t) (filter_map message_moment (bearers_of (MessageOf b m) changes)) t
      (⊎_elim
      (λ (p : (r : Record) × (IsPosted changes b m r × (r.at ≡ t))).
      among_made message_moment (bearers_of (MessageOf b m) changes) (Post p.0) t
      (among_borne (MessageOf b m) changes (Post p.0) p.1.0.0 (λ i. MessageOf (p.1.0.1 i) (p.1.0.2 i))) (ap Some p.1.1))
      (λ c. among_made message_moment (bearers_of (MessageOf b m) changes) (Redact b m (Some t)) t (among_borne (MessageOf b m) changes (Redact b m (Some t)) c refl) refl)
      h.0)
      (is_at_least (floor changes b) t h.1)

  pub position_greatest : (t : ℕ) → (position_of changes b m ≡ Some t) ↔ (IsMomentOf changes b m t × ((u : ℕ) → IsMomentOf changes b m u → u ≤ t))
  position_greatest t = (
    λ e. let h = greatest_most moments t e in (moment_of t h.0, λ u c. h.1 u (in_moments u c)),
    λ h. most_greatest moments t (in_moments t h.0) (λ u a. h.1 u (moment_of u a)),
  )

  pub position_none : (position_of changes b m ≡ None) ↔ ((t : ℕ) → IsMomentOf changes b m t → ⊥)
  position_none = (
    λ e t c. no_member moments (first_none latest_total latest_exact moments e) t (in_moments t c),
    λ h. none_first latest_total latest_exact moments (λ t a. h t (moment_of t a)),
  )
