-- One more change: a piece that is held after it either has the next number, or was held before under its number, saying no less.
use Rattle.std.proofs.Common.{◌≡◌, ℕ, suc, ◌+◌, ◌≤◌, ◌<◌, Bool, true, false, cond, ◌||◌, Option, Some, None, List, [], ◌∷◌, ◌++◌, length, refl, sym, ◌∙◌, ap, subst, arith, append_assoc, ◌⊎◌, inl, inr, ⊎_elim}
use Rattle.std.proofs.lemmas.Bool.{false≢true}
use Rattle.std.specs.List.{filter_map, list_any}
use Rattle.std.specs.Option.{IfSome, option_map, option_to_list}
use Rattle.std.specs.Prelude.{nat_lt, nat_le, not}
use Rattle.std.specs.FinMap.{get}
use Rattle.chat_change.specs.Buffer.{Buffer}
use Rattle.chat_change.specs.Record.{Record}
use Rattle.chat_change.specs.declared.change.Change.{Change}
use Rattle.chat_change.specs.declared.change.Change.TheVariants.{Post, Redact, Mark, Floor, AccountFloor}
use Rattle.chat_history.specs.Choice.{greatest}
use Rattle.chat_change.specs.Extent.{Extent, OfAccount, OfBuffer}
use Rattle.chat_change.specs.Key.{Key, FloorOf, MarkerOf, MessageOf, key_of, same_key, bearers_of, floor_change}
use Rattle.chat_history.specs.History.{marker_moment, piece, norm, changes_of, Includes}
use Rattle.chat_history.specs.Same.{same_history}
use Rattle.chat_history.specs.Numbering.{counts_after, changes_that_count, front, up_to_last, number}
use Rattle.chat_history.proofs.ChoiceLemmas.{keep}
use Rattle.chat_history.proofs.PieceLemmas.{Bears, floor_piece, not_below_zero, get-norm, piece_bears, piece_none, norm_keyed}
use Rattle.chat_history.proofs.NormLemmas.{at_least}
use Rattle.chat_history.proofs.SameLemmas.{same_history_decides}
use Rattle.chat_history.proofs.SetLemmas.{norm_left}
use Rattle.chat_history.proofs.AbsorbLemmas.{append_none, bearing_other}
use Rattle.chat_history.proofs.NumberLemmas.{counted-push, front-push, number-push}
use Rattle.chat_history.proofs.StepLemmas.{floor_under, settle, get_step, settle-post, settle-redaction}
use Rattle.chat_change.proofs.CallerLemmas.{same_key_is}
use Rattle.chat_history.proofs.IncludesLemmas.{Includes-bare}

-- the first says all that the second says, to whoever includes it
abbrev pub SaysNoLess : Change → Change → Type 0
SaysNoLess old new = (xs : List Change) → Includes xs old → Includes xs new

-- what was held of a key before: a change that says no less
abbrev pub Before : Option Change → Change → Type 0
Before o new = (old : Change) × (o ≡ Some old) × SaysNoLess old new

before_same : (o p : Option Change) (new : Change) → o ≡ p → p ≡ Some new → Before o new
before_same o p new e f = (new, e ∙ f, λ xs h. h)

-- ---- a message, where the floor rises

redaction_before : (b : Buffer) (m : List ℕ) (f : ℕ) (t : Option ℕ) → SaysNoLess (Redact b m t) (Redact b m (keep (at_least f) t))
redaction_before b m f None = λ xs h. h
redaction_before b m f (Some t) =
    elim (nat_le f t) as (λ s. SaysNoLess (Redact b m (Some t)) (Redact b m (cond s (Some t) None))) [
      | true ↦ λ xs h. h
      | false ↦ λ xs h. Includes-bare b m t xs h
    ]

post_before : (f : ℕ) (r : Record) (new : Change) → cond (nat_le f r.at) (Some (Post r)) None ≡ Some new → Post r ≡ new
post_before f r new =
    elim (nat_le f r.at) as (λ s. cond s (Some (Post r)) None ≡ Some new → Post r ≡ new) [ true ↦ λ e. cc | false ↦ λ e. cc ]

message_before : (b : Buffer) (m : List ℕ) (f : ℕ) (o : Option Change) (new : Change) → IfSome o (Bears (MessageOf b m)) → settle (MessageOf b m) f (option_to_list o) ≡ Some new → Before o new
message_before b m f None new k e = cc
message_before b m f (Some (Post r)) new k e = (Post r, refl, λ xs h. subst (Includes xs) (post_before f r new (sym (settle-post b m f r) ∙ e)) h)
message_before b m f (Some (Redact d n t)) new k e =
    let p : d ≡ b = cc k in
    let q : n ≡ m = cc k in
    let is : Redact b m (keep (at_least f) t) ≡ new = cc (sym (settle-redaction b d m n f t) ∙ e) in
    (Redact d n t, refl, λ xs h. subst (Includes xs) is (redaction_before b m f t xs (subst (Includes xs) (λ i. Redact (p i) (q i) t) h)))
message_before b m f (Some (Mark d t)) new k e = cc
message_before b m f (Some (Floor d t)) new k e = cc
message_before b m f (Some (AccountFloor a t)) new k e = cc

-- ---- a floor, where the one around rises

floor_unchanged : (e : Extent) (around own : ℕ) (old new : Change) → old ≡ floor_change e own → floor_piece e around own ≡ Some new → Before (Some old) new
floor_unchanged e around own old new is =
    elim (nat_lt around own) as (λ s. cond s (Some (floor_change e own)) None ≡ Some new → Before (Some old) new) [
      | true ↦ λ h. let same : floor_change e own ≡ new = cc h in (old, refl, λ xs i. subst (Includes xs) (is ∙ same) i)
      | false ↦ λ h. cc
    ]

none_not : {A : Type 0} (new : Change) (o : Option Change) → o ≡ None → o ≡ Some new → A
none_not new o e f = cc (sym e ∙ f)

floor_before : (e : Extent) (around : ℕ) (o : Option Change) (new : Change) → IfSome o (Bears (FloorOf e)) → settle (FloorOf e) around (option_to_list o) ≡ Some new → Before o new
floor_before e around None new k h = none_not new (floor_piece e around 0) (ap (λ s. cond s (Some (floor_change e 0)) None) (not_below_zero around)) h
floor_before e around (Some (Post r)) new k h = cc
floor_before e around (Some (Redact d m t)) new k h = cc
floor_before e around (Some (Mark d t)) new k h = cc
floor_before e around (Some (Floor d t)) new k h = let is : OfBuffer d ≡ e = cc k in floor_unchanged e around t (Floor d t) new (ap (λ x. floor_change x t) is) h
floor_before e around (Some (AccountFloor a t)) new k h = let is : OfAccount a ≡ e = cc k in floor_unchanged e around t (AccountFloor a t) new (ap (λ x. floor_change x t) is) h

module _ (changes : List Change) (c : Change) where
  borne_none : (k : Key) → same_key k (key_of c) ≡ false → bearers_of k (c ∷ []) ≡ []
  borne_none k e = ap (λ b. cond b (c ∷ []) []) e

  -- what is left under a key that the change doesn't bear is what its present piece makes at the new floor
  settled : (k : Key) (new : Change) → same_key k (key_of c) ≡ false → get (norm (changes ++ c ∷ [])) k ≡ Some new → settle k (floor_under (changes_of (norm changes) ++ c ∷ []) k) (option_to_list (get (norm changes) k)) ≡ Some new
  settled k new e is =
      let h = norm changes in
      let f = floor_under (changes_of h ++ c ∷ []) k in
      ap (settle k f) (sym (append_none (option_to_list (get h k))) ∙ ap (λ cs. option_to_list (get h k) ++ cs) (sym (borne_none k e)))
      ∙ sym (get_step h (norm_keyed changes) (c ∷ []) k)
      ∙ ap (λ g. get g k) (norm_left changes (c ∷ []))
      ∙ is

  bears : (k : Key) → IfSome (get (norm changes) k) (Bears k)
  bears k = subst (λ o. IfSome o (Bears k)) (sym (get-norm changes k)) (piece_bears changes k)

  -- a key that a change doesn't bear
  pub other_before : (k : Key) (new : Change) → same_key k (key_of c) ≡ false → get (norm (changes ++ c ∷ [])) k ≡ Some new → Before (get (norm changes) k) new
  other_before (FloorOf d) new e is =
      let k = FloorOf d in
      floor_before d (floor_under (changes_of (norm changes) ++ c ∷ []) k) (get (norm changes) k) new (bears k) (settled k new e is)
  other_before (MarkerOf b) new e is =
      let k = MarkerOf b in
      let same : piece (changes ++ c ∷ []) k ≡ piece changes k = ap (λ ds. option_map (Mark b) (greatest (filter_map marker_moment ds))) (bearing_other k changes c e) in
      before_same (get (norm changes) k) (get (norm (changes ++ c ∷ [])) k) new (get-norm changes k ∙ sym same ∙ sym (get-norm (changes ++ c ∷ []) k)) is
  other_before (MessageOf b m) new e is =
      let k = MessageOf b m in
      message_before b m (floor_under (changes_of (norm changes) ++ c ∷ []) k) (get (norm changes) k) new (bears k) (settled k new e is)

  not_counted : counts_after changes c ≡ false → norm (changes ++ c ∷ []) ≡ norm changes
  not_counted e = (same_history_decides (norm (changes ++ c ∷ [])) (norm changes)).0 (opposite (same_history (norm (changes ++ c ∷ [])) (norm changes)) e)
    where
      opposite : (b : Bool) → not b ≡ false → b ≡ true
      opposite true h = refl
      opposite false h = sym h

  number-same : (start : ℕ) (k : Key) → counts_after changes c ≡ false → number start (changes ++ c ∷ []) k ≡ number start changes k
  number-same start k e = ap (λ cs. start + up_to_last k cs) (counted-push changes c ∙ ap (λ b. changes_that_count [] changes ++ cond b (c ∷ []) []) e ∙ append_none (changes_that_count [] changes))

  -- a piece that is held after one more change
  pub piece_step : (start : ℕ) (k : Key) (new : Change) → get (norm (changes ++ c ∷ [])) k ≡ Some new → (number start (changes ++ c ∷ []) k ≡ front start changes + 1) ⊎ (Before (get (norm changes) k) new × (number start (changes ++ c ∷ []) k ≡ number start changes k))
  piece_step start k new is =
      let Goal : Type 0 = (number start (changes ++ c ∷ []) k ≡ front start changes + 1) ⊎ (Before (get (norm changes) k) new × (number start (changes ++ c ∷ []) k ≡ number start changes k)) in
      elim (counts_after changes c) as (λ b. counts_after changes c ≡ b → Goal) [
        | true ↦ λ count. elim (same_key k (key_of c)) as (λ b. same_key k (key_of c) ≡ b → Goal) [
          | true ↦ λ e. inl (number-push start changes c k count ∙ ap (λ b. cond b (front start changes + 1) (number start changes k)) e)
          | false ↦ λ e. inr (other_before k new e is, number-push start changes c k count ∙ ap (λ b. cond b (front start changes + 1) (number start changes k)) e)
        ] refl
        | false ↦ λ none. inr (before_same (get (norm changes) k) (get (norm (changes ++ c ∷ [])) k) new (ap (λ g. get g k) (sym (not_counted none))) is, number-same start k none)
      ] refl

  pub front_rises : (start : ℕ) → front start changes ≤ front start (changes ++ c ∷ [])
  front_rises start = subst (λ n. front start changes ≤ n) (sym (front-push start changes c)) (no_less (counts_after changes c))
    where
      no_less : (b : Bool) → front start changes ≤ cond b (front start changes + 1) (front start changes)
      no_less true = omega arith
      no_less false = omega arith

-- ---- many changes, one after another

-- what holds of a list and is kept by one more change holds of all that go on from it
pub on_and_on : (P : List Change → Type 0) → ((cs : List Change) (c : Change) → P cs → P (cs ++ c ∷ [])) → (cs more : List Change) → P cs → P (cs ++ more)
on_and_on P step cs [] h = subst P (sym (append_none cs)) h
on_and_on P step cs (c ∷ more) h = subst P (append_assoc cs (c ∷ []) more) (on_and_on P step (cs ++ c ∷ []) more (step cs c h))

pub front_grows : (start : ℕ) (cs more : List Change) → front start cs ≤ front start (cs ++ more)
front_grows start cs more =
    on_and_on (λ ds. front start cs ≤ front start ds) (λ ds d h. let r = front_rises ds d start in omega arith) cs more (omega arith)

-- ---- numbers

up_to_last_within : (k : Key) (cs : List Change) → up_to_last k cs ≤ length cs
up_to_last_within k [] = omega arith
up_to_last_within k (c ∷ cs) =
    let rest = up_to_last_within k cs in
    elim (list_any (λ d. same_key k (key_of d)) cs) as (λ b. cond b (suc (up_to_last k cs)) (cond (same_key k (key_of c)) 1 0) ≤ suc (length cs)) [
      | true ↦ omega arith
      | false ↦ elim (same_key k (key_of c)) as (λ b. cond b 1 0 ≤ suc (length cs)) [ true ↦ omega arith | false ↦ omega arith ]
    ]

front_at_least : (start : ℕ) (changes : List Change) → start ≤ front start changes
front_at_least start changes = omega arith

pub number_within : (start : ℕ) (changes : List Change) (k : Key) → number start changes k ≤ front start changes
number_within start changes k = let h = up_to_last_within k (changes_that_count [] changes) in omega arith

-- ---- a held piece has a number above that before the list began

module _ (start : ℕ) where
  abbrev Above : List Change → Type 0
  Above cs = (k : Key) (c : Change) → get (norm cs) k ≡ Some c → start < number start cs k

  nothing : (k : Key) (c : Change) → piece [] k ≡ Some c → start < number start [] k
  nothing k c e = none_not c (piece [] k) (piece_none [] k refl) e

  above_more : (cs : List Change) (d : Change) → Above cs → Above (cs ++ d ∷ [])
  above_more cs d h k c is = ⊎_elim
      (λ e. let f = number_within start cs k in let g = front_at_least start cs in omega (arith, e))
      (λ e. let old = h k e.0.0 e.0.1 in omega (arith, e.1, old))
      (piece_step cs d start k c is)

  pub number_above : (changes : List Change) (k : Key) (c : Change) → get (norm changes) k ≡ Some c → start < number start changes k
  number_above changes = on_and_on Above above_more [] changes (λ k c e. nothing k c (sym (get-norm [] k) ∙ e))

-- ---- two keys with one number are one

borne_above : (k : Key) (cs : List Change) → list_any (λ d. same_key k (key_of d)) cs ≡ true → 0 < up_to_last k cs
borne_above k [] e = absurd (false≢true e)
borne_above k (c ∷ cs) e =
    elim (list_any (λ d. same_key k (key_of d)) cs) as (λ b. (same_key k (key_of c) || b) ≡ true → 0 < cond b (suc (up_to_last k cs)) (cond (same_key k (key_of c)) 1 0)) [
      | true ↦ λ _. omega arith
      | false ↦ elim (same_key k (key_of c)) as (λ b. (b || false) ≡ true → 0 < cond b 1 0) [ true ↦ λ _. omega arith | false ↦ λ h. absurd (false≢true h) ]
    ] e

abbrev one_if : Bool → ℕ
one_if b = cond b 1 0

-- 1 where a change bears the key, else 0
abbrev here : Key → Change → ℕ
here k c = one_if (same_key k (key_of c))

one_key : (k l : Key) (c : Change) → 0 < here k c → here k c ≡ here l c → k ≡ l
one_key k l c =
    elim (same_key k (key_of c)) as (λ a. same_key k (key_of c) ≡ a → 0 < one_if a → one_if a ≡ here l c → k ≡ l) [
      | true ↦ λ p _. elim (same_key l (key_of c)) as (λ b. same_key l (key_of c) ≡ b → one_if true ≡ one_if b → k ≡ l) [
        | true ↦ λ q _. same_key_is k (key_of c) p ∙ sym (same_key_is l (key_of c) q)
        | false ↦ λ q e. absurd (omega (arith, e))
      ] refl
      | false ↦ λ p h. absurd (omega (arith, h))
    ] refl

two_not_one : (b : Bool) (n : ℕ) → 0 < n → suc n ≡ one_if b → ⊥
two_not_one true n h e = omega (arith, e)
two_not_one false n h e = omega (arith, e)

last_tells : (k l : Key) (cs : List Change) → 0 < up_to_last k cs → up_to_last k cs ≡ up_to_last l cs → k ≡ l
last_tells k l [] h e = absurd (omega arith)
last_tells k l (c ∷ cs) h e =
    elim (list_any (λ d. same_key k (key_of d)) cs) as (λ a. list_any (λ d. same_key k (key_of d)) cs ≡ a → 0 < cond a (suc (up_to_last k cs)) (here k c) → cond a (suc (up_to_last k cs)) (here k c) ≡ up_to_last l (c ∷ cs) → k ≡ l) [
      | true ↦ λ p _. elim (list_any (λ d. same_key l (key_of d)) cs) as (λ b. suc (up_to_last k cs) ≡ cond b (suc (up_to_last l cs)) (here l c) → k ≡ l) [
        | true ↦ λ e. last_tells k l cs (borne_above k cs p) (omega (arith, e))
        | false ↦ λ e. absurd (two_not_one (same_key l (key_of c)) (up_to_last k cs) (borne_above k cs p) e)
      ]
      | false ↦ λ p h. elim (list_any (λ d. same_key l (key_of d)) cs) as (λ b. list_any (λ d. same_key l (key_of d)) cs ≡ b → here k c ≡ cond b (suc (up_to_last l cs)) (here l c) → k ≡ l) [
        | true ↦ λ q e. absurd (two_not_one (same_key k (key_of c)) (up_to_last l cs) (borne_above l cs q) (sym e))
        | false ↦ λ q e. one_key k l c h e
      ] refl
    ] refl h e

pub number_tells : (start : ℕ) (changes : List Change) (k l : Key) (c : Change) → get (norm changes) k ≡ Some c → number start changes k ≡ number start changes l → k ≡ l
number_tells start changes k l c is e =
    let above = number_above start changes k c is in
    last_tells k l (changes_that_count [] changes) (omega (arith, above)) (omega (arith, e))
