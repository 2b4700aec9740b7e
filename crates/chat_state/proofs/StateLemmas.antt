-- What one more change does to a store: where the piece that it makes is placed, the history is the one with the change.
use Rattle.std.proofs.Common.{◌≡◌, ◌≢◌, ℕ, max, ◌+◌, ◌<◌, ◌≤◌, Bool, true, false, cond, Option, Some, None, List, [], ◌∷◌, ◌++◌, refl, sym, ◌∙◌, ap, subst, arith}
use Rattle.std.proofs.lemmas.Bool.Decides.{nat_tests}
use Rattle.std.proofs.lemmas.Option.{same_Some}
use Rattle.std.specs.Option.{IfSome, SomeIff, option_map, option_or, option_and_then, unwrap_or, is_some}
use Rattle.std.specs.Prelude.{nat_lt}
use Rattle.std.specs.FinMap as finite
use Rattle.chat_change.specs.Extent.{Extent, OfAccount, OfBuffer}
use Rattle.chat_change.specs.declared.change.Change.{Change}
use Rattle.chat_change.specs.declared.change.Change.TheVariants.{Post, Redact, Mark, Floor, AccountFloor}
use Rattle.chat_change.specs.Key.{Key, FloorOf, key_cmp, key_of, same_key, key_extent, floor_change}
use Rattle.chat_history.specs.History.{History, own_floor, floor_at, floor_moment, norm, changes_of, IsKeyed}
use Rattle.chat_history.specs.Choice.{keep}
use Rattle.chat_history.specs.StateValue.{state_after}
use Rattle.chat_history.specs.Numbering as numbering
use Rattle.chat_history.specs.Numbering.{has_piece, numbers_after, front, numbers}
use Rattle.chat_history.specs.Retention.{outlasts, remainder}
use Rattle.chat_buffers.specs.Store.{Store, Numbered, history_in, numbers_in, change_at, own_floor_in, floor_in, piece_left, piece_above, piece_after, Places}
use Rattle.chat_state.specs.State.{value_of, AreNumbers, IsSound}
use Rattle.chat_history.specs.Form.{IsNoFloor, renews, new_form, first_form, next_piece, form_at}
use Rattle.chat_state.specs.Form.{form}
use Rattle.chat_change.proofs.CallerLemmas.{key_total, key_exact, same_key_itself, same_key_is}
use Rattle.chat_history.proofs.CallerLemmas.{Bears, norm_keyed, piece_bears, get-norm, piece_none}
use Rattle.chat_history.proofs.CallerLemmas.{norm-changes_of}
use Rattle.chat_history.proofs.CallerLemmas.{get-numbers_after, get-numbers}
use Rattle.chat_history.proofs.CallerLemmas.{floor_set}
use Rattle.chat_history.proofs.CallerLemmas.{get_after, get_floor, low_floor, own_floor_is, get_is_piece, new_form_differs, first_form_bears, new_form_bears}
use Rattle.chat_history.proofs.CallerLemmas.{held_counted, held_same}
use Rattle.chat_buffers.proofs.CallerLemmas.{get-history, get-numbers_in, placed-plain}

abbrev change : Numbered → Change
change p = p.change

abbrev number : Numbered → ℕ
number p = p.number

floor_said : (o : Option Change) → floor_set o ≡ unwrap_or (option_and_then floor_moment o) 0
floor_said None = refl
floor_said (Some (Post r)) = refl
floor_said (Some (Redact b m t)) = refl
floor_said (Some (Mark b t)) = refl
floor_said (Some (Floor b t)) = refl
floor_said (Some (AccountFloor a t)) = refl

moment_of_floor : (e : Extent) (t : ℕ) → floor_moment (floor_change e t) ≡ Some t
moment_of_floor (OfAccount a) t = refl
moment_of_floor (OfBuffer b) t = refl

-- ---- the piece that a change makes of that of its key

or_none : {A : Type 0} (u : Option A) → option_or u None ≡ u
or_none None = refl
or_none (Some x) = refl

next_piece-form : (f : ℕ) (o : Option Change) (c : Change) → next_piece f o c ≡ option_or (form_at f o c) o
next_piece-form f None c = sym (or_none (first_form f c))
next_piece-form f (Some old) c = elim (renews f c old) as (λ b. Some (cond b (new_form c old) old) ≡ option_or (cond b (Some (new_form c old)) None) (Some old)) [ true ↦ refl | false ↦ refl ]

form_bears : (f : ℕ) (o : Option Change) (c d : Change) → IfSome o (Bears (key_of c)) → form_at f o c ≡ Some d → key_of c ≡ key_of d
form_bears f None c d h e = first_form_bears f c d e
form_bears f (Some old) c d h e = renewed_in (renews f c old) e
  where
    renewed_in : (b : Bool) → cond b (Some (new_form c old)) None ≡ Some d → key_of c ≡ key_of d
    renewed_in true e = sym (new_form_bears c old (sym h)) ∙ ap key_of (same_Some (new_form c old) d e)
    renewed_in false e = cc

form_differs : (f : ℕ) (o : Option Change) (c d : Change) → form_at f o c ≡ Some d → o ≢ Some d
form_differs f None c d e same = cc
form_differs f (Some old) c d e same = differs_in (renews f c old) refl e
  where
    differs_in : (b : Bool) → renews f c old ≡ b → cond b (Some (new_form c old)) None ≡ Some d → ⊥
    differs_in true t e = new_form_differs f c old t (same_Some (new_form c old) d e ∙ sym (same_Some old d same))
    differs_in false t e = cc

form-plain : (s : Store) (c : Change) → IsNoFloor c → form s c ≡ form_at (floor_in s (key_extent (key_of c))) (change_at s (key_of c)) c
form-plain s (Post r) p = refl
form-plain s (Redact b m t) p = refl
form-plain s (Mark b t) p = refl
form-plain s (Floor b t) p = absurd p
form-plain s (AccountFloor a t) p = absurd p

pub no_floor_either : (c d : Change) → IsNoFloor c → key_of c ≡ key_of d → IsNoFloor d
no_floor_either c (Post r) p e = tt
no_floor_either c (Redact b m t) p e = tt
no_floor_either c (Mark b t) p e = tt
no_floor_either (Post r) (Floor d u) p e = cc
no_floor_either (Redact b m t) (Floor d u) p e = cc
no_floor_either (Mark b t) (Floor d u) p e = cc
no_floor_either (Floor b t) (Floor d u) p e = absurd p
no_floor_either (AccountFloor a t) (Floor d u) p e = absurd p
no_floor_either (Post r) (AccountFloor d u) p e = cc
no_floor_either (Redact b m t) (AccountFloor d u) p e = cc
no_floor_either (Mark b t) (AccountFloor d u) p e = cc
no_floor_either (Floor b t) (AccountFloor d u) p e = absurd p
no_floor_either (AccountFloor a t) (AccountFloor d u) p e = absurd p

-- ---- what is placed

above_own : (s : Store) (n : ℕ) (e : Extent) (t : ℕ) → piece_above s n e t (FloorOf e) ≡ Some (record { number = n; change = floor_change e t })
above_own s n e t = ap (λ a. cond a (Some (record { number = n; change = floor_change e t })) (piece_left e t (finite.get s (FloorOf e)))) (same_key_itself (FloorOf e))

pub placed_own : (s : Store) (n : ℕ) (d : Change) → piece_after s n d (key_of d) ≡ Some (record { number = n; change = d })
placed_own s n (Post r) = ap (λ b. cond b (Some (record { number = n; change = Post r })) (finite.get s (key_of (Post r)))) (same_key_itself (key_of (Post r)))
placed_own s n (Redact b m t) = ap (λ a. cond a (Some (record { number = n; change = Redact b m t })) (finite.get s (key_of (Redact b m t)))) (same_key_itself (key_of (Redact b m t)))
placed_own s n (Mark b t) = ap (λ a. cond a (Some (record { number = n; change = Mark b t })) (finite.get s (key_of (Mark b t)))) (same_key_itself (key_of (Mark b t)))
placed_own s n (Floor b t) = above_own s n (OfBuffer b) t
placed_own s n (AccountFloor a t) = above_own s n (OfAccount a) t

left_change : (b : Extent) (t : ℕ) (o : Option Numbered) → option_map (remainder b t) (keep (outlasts b t) (option_map change o)) ≡ option_map change (piece_left b t o)
left_change b t None = refl
left_change b t (Some p) = elim (outlasts b t p.change) as (λ a. option_map (remainder b t) (cond a (Some p.change) None) ≡ option_map change (cond a (Some (record p { change = remainder b t p.change })) None)) [ true ↦ refl | false ↦ refl ]

left_number : (b : Extent) (t : ℕ) (o : Option Numbered) → option_map number (piece_left b t o) ≡ cond (is_some (piece_left b t o)) (option_map number o) None
left_number b t None = refl
left_number b t (Some p) =
    elim (outlasts b t p.change) as (λ a. option_map number (cond a (Some (record p { change = remainder b t p.change })) None) ≡ cond (is_some (cond a (Some (record p { change = remainder b t p.change })) None)) (Some p.number) None) [ true ↦ refl | false ↦ refl ]

same_number : (o : Option Numbered) → option_map number o ≡ cond (is_some o) (option_map number o) None
same_number None = refl
same_number (Some p) = refl

one_of : (a : Bool) (q : Numbered) (x o : Option Numbered) → option_map number x ≡ cond (is_some x) (option_map number o) None → option_map number (cond a (Some q) x) ≡ cond a (Some q.number) (cond (is_some (cond a (Some q) x)) (option_map number o) None)
one_of true q x o h = refl
one_of false q x o h = h

above_number : (s : Store) (n : ℕ) (e : Extent) (t : ℕ) (k : Key) → option_map number (piece_above s n e t k) ≡ cond (same_key k (FloorOf e)) (Some n) (cond (is_some (piece_above s n e t k)) (option_map number (finite.get s k)) None)
above_number s n e t k = one_of (same_key k (FloorOf e)) (record { number = n; change = floor_change e t }) (piece_left e t (finite.get s k)) (finite.get s k) (left_number e t (finite.get s k))

-- of the other keys each has its own number still, or no piece
placed_number : (s : Store) (n : ℕ) (d : Change) (k : Key) → option_map number (piece_after s n d k) ≡ cond (same_key k (key_of d)) (Some n) (cond (is_some (piece_after s n d k)) (option_map number (finite.get s k)) None)
placed_number s n (Post r) k = one_of (same_key k (key_of (Post r))) (record { number = n; change = Post r }) (finite.get s k) (finite.get s k) (same_number (finite.get s k))
placed_number s n (Redact b m t) k = one_of (same_key k (key_of (Redact b m t))) (record { number = n; change = Redact b m t }) (finite.get s k) (finite.get s k) (same_number (finite.get s k))
placed_number s n (Mark b t) k = one_of (same_key k (key_of (Mark b t))) (record { number = n; change = Mark b t }) (finite.get s k) (finite.get s k) (same_number (finite.get s k))
placed_number s n (Floor b t) k = above_number s n (OfBuffer b) t k
placed_number s n (AccountFloor a t) k = above_number s n (OfAccount a) t k

-- ---- a change of a store in normal form

abbrev pub after : Store → Change → History
after s c = norm (changes_of (history_in s) ++ c ∷ [])

-- a change that counts makes the piece d
pub record IsForm (s : Store) (c d : Change) : Type 0 where
  pub bears : key_of c ≡ key_of d
  pub differs : change_at s (key_of c) ≢ Some d
  pub gets : (n : ℕ) (k : Key) → finite.get (after s c) k ≡ option_map change (piece_after s n d k)

module _ (s : Store) (normal : norm (changes_of (history_in s)) ≡ history_in s) where
  pub keyed : IsKeyed (history_in s)
  keyed = subst IsKeyed normal (norm_keyed (changes_of (history_in s)))

  own_is_in : (e : Extent) → own_floor (changes_of (history_in s)) e ≡ own_floor_in s e
  own_is_in e = own_floor_is (history_in s) keyed e ∙ ap floor_set (get-history s (FloorOf e)) ∙ floor_said (change_at s (FloorOf e))

  pub floor_is_in : (e : Extent) → floor_at (changes_of (history_in s)) e ≡ floor_in s e
  floor_is_in (OfAccount a) = own_is_in (OfAccount a)
  floor_is_in (OfBuffer b) = λ i. max (own_is_in (OfAccount b.account) i) (own_is_in (OfBuffer b) i)

  own_within : (e : Extent) → own_floor_in s e ≤ floor_in s e
  own_within (OfAccount a) = omega arith
  own_within (OfBuffer b) = omega arith

  pub change_bears : (k : Key) → IfSome (change_at s k) (Bears k)
  change_bears k = subst (λ o. IfSome o (Bears k)) (get_is_piece (history_in s) keyed normal k ∙ get-history s k) (piece_bears (changes_of (history_in s)) k)

  -- whatever is no floor
  module _ (c : Change) (p : IsNoFloor c) where
    abbrev here : Option Change
    here = change_at s (key_of c)

    abbrev made : Option Change
    made = form_at (floor_in s (key_extent (key_of c))) here c

    get_with : (k : Key) → finite.get (after s c) k ≡ cond (same_key k (key_of c)) (option_or made here) (change_at s k)
    get_with k =
        get_after (history_in s) keyed normal c p k
        ∙ (λ i. cond (same_key k (key_of c)) (next_piece (floor_is_in (key_extent (key_of c)) i) (get-history s (key_of c) i) c) (get-history s k i))
        ∙ ap (λ o. cond (same_key k (key_of c)) o (change_at s k)) (next_piece-form (floor_in s (key_extent (key_of c))) here c)

    plain_unformed : made ≡ None → after s c ≡ history_in s
    plain_unformed e = finite.same_map key_total key_exact (after s c) (history_in s) (λ k.
        get_with k ∙ ap (λ o. cond (same_key k (key_of c)) (option_or o here) (change_at s k)) e
        ∙ elim (same_key k (key_of c)) as (λ b. same_key k (key_of c) ≡ b → cond b here (change_at s k) ≡ change_at s k) [
          | true ↦ λ t. ap (change_at s) (sym (same_key_is k (key_of c) t))
          | false ↦ λ _. refl
        ] refl
        ∙ sym (get-history s k))

    plain_formed : (d : Change) → made ≡ Some d → IsForm s c d
    plain_formed d e =
        let is = form_bears (floor_in s (key_extent (key_of c))) here c d (change_bears (key_of c)) e in
        record {
          bears = is;
          differs = form_differs (floor_in s (key_extent (key_of c))) here c d e;
          gets = λ n k.
              get_with k ∙ (λ i. cond (same_key k (is i)) (option_or (e i) here) (change_at s k))
              ∙ elim (same_key k (key_of d)) as (λ b. cond b (Some d) (change_at s k) ≡ option_map change (cond b (Some (record { number = n; change = d })) (finite.get s k))) [ true ↦ refl | false ↦ refl ]
              ∙ ap (option_map change) (sym (placed-plain s n d (no_floor_either c d p is) k));
        }

  -- a floor of an extent
  module _ (e : Extent) (t : ℕ) (c : Change) (is : floor_change e t ≡ c) (bears : key_of c ≡ FloorOf e) (placed : (n : ℕ) (k : Key) → piece_after s n c k ≡ piece_above s n e t k) where
    floor_unformed : nat_lt (floor_in s e) t ≡ false → after s c ≡ history_in s
    floor_unformed l = ap (after s) (sym is) ∙ low_floor (history_in s) keyed normal e t (let at = floor_is_in e in grind (arith, nat_tests))

    floor_above : nat_lt (floor_in s e) t ≡ true → floor_at (changes_of (history_in s)) e < t
    floor_above l = let at = floor_is_in e in grind (arith, nat_tests)

    not_yet : floor_in s e < t → change_at s (key_of c) ≢ Some c
    not_yet l same =
        let own : own_floor_in s e ≡ t =
        ap (λ o. unwrap_or (option_and_then floor_moment o) 0) (ap (change_at s) (sym bears) ∙ same ∙ ap Some (sym is))
        ∙ ap (λ o. unwrap_or o 0) (moment_of_floor e t) in
        let within = own_within e in
        omega (arith, own, within)

    floor_formed : nat_lt (floor_in s e) t ≡ true → IsForm s c c
    floor_formed l = record {
      bears = refl;
      differs = not_yet (grind (arith, nat_tests));
      gets = λ n k.
          ap (λ x. finite.get (after s x) k) (sym is)
          ∙ get_floor (history_in s) keyed normal e t (floor_above l) k
          ∙ ap (λ o. cond (same_key k (FloorOf e)) (Some (floor_change e t)) (option_map (remainder e t) (keep (outlasts e t) o))) (get-history s k)
          ∙ ap (λ o. cond (same_key k (FloorOf e)) (Some (floor_change e t)) o) (left_change e t (finite.get s k))
          ∙ elim (same_key k (FloorOf e)) as (λ a. cond a (Some (floor_change e t)) (option_map change (piece_left e t (finite.get s k))) ≡ option_map change (cond a (Some (record { number = n; change = floor_change e t })) (piece_left e t (finite.get s k)))) [ true ↦ refl | false ↦ refl ]
          ∙ ap (option_map change) (sym (placed n k));
    }

    floor_made : (d : Change) (a : Bool) → nat_lt (floor_in s e) t ≡ a → cond a (Some c) None ≡ Some d → IsForm s c d
    floor_made d true l f = subst (IsForm s c) (same_Some c d f) (floor_formed l)
    floor_made d false l f = cc

    floor_not_made : (a : Bool) → nat_lt (floor_in s e) t ≡ a → cond a (Some c) None ≡ None → after s c ≡ history_in s
    floor_not_made true l f = cc
    floor_not_made false l f = floor_unformed l

  -- a change that counts
  pub formed : (c d : Change) → form s c ≡ Some d → IsForm s c d
  formed (Post r) d e = plain_formed (Post r) tt d e
  formed (Redact b m t) d e = plain_formed (Redact b m t) tt d e
  formed (Mark b t) d e = plain_formed (Mark b t) tt d e
  formed (Floor b t) d e = floor_made (OfBuffer b) t (Floor b t) refl refl (λ n k. refl) d (nat_lt (floor_in s (OfBuffer b)) t) refl e
  formed (AccountFloor a t) d e = floor_made (OfAccount a) t (AccountFloor a t) refl refl (λ n k. refl) d (nat_lt (floor_in s (OfAccount a)) t) refl e

  -- a change that doesn't
  pub unformed : (c : Change) → form s c ≡ None → after s c ≡ history_in s
  unformed (Post r) e = plain_unformed (Post r) tt e
  unformed (Redact b m t) e = plain_unformed (Redact b m t) tt e
  unformed (Mark b t) e = plain_unformed (Mark b t) tt e
  unformed (Floor b t) e = floor_not_made (OfBuffer b) t (Floor b t) refl refl (λ n k. refl) (nat_lt (floor_in s (OfBuffer b)) t) refl e
  unformed (AccountFloor a t) e = floor_not_made (OfAccount a) t (AccountFloor a t) refl refl (λ n k. refl) (nat_lt (floor_in s (OfAccount a)) t) refl e

  pub formed_differs : (c d : Change) → form s c ≡ Some d → after s c ≢ history_in s
  formed_differs c d e same =
      let is = formed c d e in
      is.differs (sym (get-history s (key_of c)) ∙ ap (λ h. finite.get h (key_of c)) (sym same) ∙ is.gets 0 (key_of c) ∙ ap (λ k. option_map change (piece_after s 0 d k)) is.bears ∙ ap (option_map change) (placed_own s 0 d))

-- ---- the numbers

module _ (old : finite.FinMap key_cmp ℕ) (front n : ℕ) (are : AreNumbers old front) (above : front < n) (h : History) (k : Key) where
  reached_in : (a b : Bool) (o : Option ℕ) (m : ℕ) → (o ≡ Some m → m ≤ front) → cond a (Some n) (cond b o None) ≡ Some m → m ≤ n
  reached_in true b o m up e = let is : n ≡ m = cc e in omega arith
  reached_in false true o m up e = let l = up e in omega arith
  reached_in false false o m up e = cc

  distinct_in : (i j : Key) (a b c d : Bool) (m : ℕ) → same_key i k ≡ a → same_key j k ≡ b
      → cond a (Some n) (cond c (finite.get old i) None) ≡ Some m → cond b (Some n) (cond d (finite.get old j) None) ≡ Some m → i ≡ j
  distinct_in i j true true c d m s t e f = same_key_is i k s ∙ sym (same_key_is j k t)
  distinct_in i j true false c true m s t e f = let is : n ≡ m = cc e in let l = are.reached j m f in absurd (omega arith)
  distinct_in i j true false c false m s t e f = cc f
  distinct_in i j false true true d m s t e f = let is : n ≡ m = cc f in let l = are.reached i m e in absurd (omega arith)
  distinct_in i j false true false d m s t e f = cc e
  distinct_in i j false false true true m s t e f = are.distinct i j m e f
  distinct_in i j false false true false m s t e f = cc f
  distinct_in i j false false false d m s t e f = cc e

  positive_in : (a b : Bool) (o : Option ℕ) (m : ℕ) → (o ≡ Some m → 0 < m) → cond a (Some n) (cond b o None) ≡ Some m → 0 < m
  positive_in true b o m up e = let is : n ≡ m = cc e in omega arith
  positive_in false true o m up e = up e
  positive_in false false o m up e = cc

  pub numbers_after_are : AreNumbers (numbers_after old h k n) n
  numbers_after_are = record {
    positive = λ j m e. positive_in (same_key j k) (has_piece h j) (finite.get old j) m (are.positive j m) (sym (get-numbers_after old h k n j) ∙ e);
    reached = λ j m e. reached_in (same_key j k) (has_piece h j) (finite.get old j) m (are.reached j m) (sym (get-numbers_after old h k n j) ∙ e);
    distinct = λ i j m e f. distinct_in i j (same_key i k) (same_key j k) (has_piece h i) (has_piece h j) m refl refl (sym (get-numbers_after old h k n i) ∙ e) (sym (get-numbers_after old h k n j) ∙ f);
  }

-- ---- after a piece was placed

module _ (s new : Store) (front : ℕ) (sound : IsSound s front) (c d : Change) (n : ℕ) (e : form s c ≡ Some d) (places : Places s n d new) where
  abbrev is : IsForm s c d
  is = formed s sound.normal c d e

  pub new_history : history_in new ≡ after s c
  new_history = finite.same_map key_total key_exact (history_in new) (after s c) (λ k. get-history new k ∙ ap (option_map change) (places k) ∙ sym (is.gets n k))

  has_still : (o : Option Numbered) → is_some (option_map change o) ≡ is_some o
  has_still None = refl
  has_still (Some p) = refl

  pub new_numbers : numbers_in new ≡ numbers_after (numbers_in s) (history_in new) (key_of c) n
  new_numbers = finite.same_map key_total key_exact (numbers_in new) (numbers_after (numbers_in s) (history_in new) (key_of c) n) (λ k.
      let has : is_some (piece_after s n d k) ≡ has_piece (history_in new) k = sym (has_still (piece_after s n d k)) ∙ ap (λ o. is_some (option_map change o)) (sym (places k)) ∙ ap is_some (sym (get-history new k)) in
      get-numbers_in new k ∙ ap (option_map number) (places k) ∙ placed_number s n d k
      ∙ (λ i. cond (same_key k (sym is.bears i)) (Some n) (cond (has i) (sym (get-numbers_in s k) i) None))
      ∙ sym (get-numbers_after (numbers_in s) (history_in new) (key_of c) n k))

  pub new_sound : front < n → IsSound new n
  new_sound above = record {
    normal = ap (λ h. norm (changes_of h)) new_history ∙ norm-changes_of (changes_of (history_in s) ++ c ∷ []) ∙ sym new_history;
    numbers = subst (λ m. AreNumbers m n) (sym new_numbers) (numbers_after_are (numbers_in s) front n sound.numbers above (history_in new) (key_of c));
  }

  pub new_held : n ≡ front + 1 → (start : ℕ) (changes : List Change) → value_of s front ≡ state_after start changes → value_of new n ≡ state_after start (changes ++ c ∷ [])
  new_held next start changes was =
      held_counted start changes c (value_of s front) (value_of new n) d (keyed s sound.normal) was new_history (formed_differs s sound.normal c d e)
      (new_numbers ∙ ap (numbers_after (numbers_in s) (history_in new) (key_of c)) next) next
      (get-history new (key_of c) ∙ ap (change_at new) is.bears ∙ ap (option_map change) (places (key_of d) ∙ placed_own s n d))

pub kept_held : (s : Store) (front : ℕ) → IsSound s front → (c : Change) → form s c ≡ None → (start : ℕ) (changes : List Change) → value_of s front ≡ state_after start changes → value_of s front ≡ state_after start (changes ++ c ∷ [])
kept_held s front sound c e start changes was = held_same start changes c (value_of s front) was (sym (unformed s sound.normal c e))

-- ---- nothing taken

module _ (start : ℕ) where
  none : (k : Key) → finite.get (numbers_in finite.empty) k ≡ None
  none k = get-numbers_in finite.empty k ∙ ap (option_map number) (finite.get-empty key_cmp k)

  no_history : history_in finite.empty ≡ norm []
  no_history = finite.same_map key_total key_exact (history_in finite.empty) (norm []) (λ k. get-history finite.empty k ∙ ap (option_map change) (finite.get-empty key_cmp k) ∙ sym (get-norm [] k ∙ piece_none [] k refl))

  no_numbers : numbers_in finite.empty ≡ numbers start []
  no_numbers = finite.same_map key_total key_exact (numbers_in finite.empty) (numbers start []) (λ k.
      none k ∙ sym (get-numbers start [] k ∙ ap (option_map (λ _. numbering.number start [] k)) (get-norm [] k ∙ piece_none [] k refl)))

  pub empty_seen : value_of finite.empty start ≡ state_after start []
  empty_seen =
      let at : start ≡ front start [] = omega arith in
      λ i. record { history = no_history i; numbers = no_numbers i; front = at i }

  pub empty_sound : IsSound finite.empty start
  empty_sound = record {
    normal = ap (λ h. norm (changes_of h)) no_history ∙ norm-changes_of [] ∙ sym no_history;
    numbers = record {
      positive = λ k n e. let no : None ≡ Some n = sym (none k) ∙ e in cc;
      reached = λ k n e. let no : None ≡ Some n = sym (none k) ∙ e in cc;
      distinct = λ k l n e f. let no : None ≡ Some n = sym (none k) ∙ e in cc;
    };
  }

-- ---- the next number

pub next_is : (next : Option ℕ) (P : Type 0) (v n : ℕ) → next ≡ Some n → SomeIff next P v → n ≡ v
next_is next P v n e h = let some : SomeIff (Some n) P v = subst (λ o. SomeIff o P v) e h in some.1
