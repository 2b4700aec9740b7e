-- The piece that a change makes fits into a store whose history is in normal form.
use Rattle.std.proofs.Common.{◌≡◌, ℕ, ◌≤◌, Bool, true, false, cond, ◌&&◌, Option, Some, None, refl, ◌∙◌, ap, subst, arith}
use Rattle.std.proofs.lemmas.Bool.Decides.{nat_tests}
use Rattle.std.proofs.lemmas.Option.{same_Some}
use Rattle.std.specs.Option.{IfSome}
use Rattle.std.specs.Ordering.{is_lt, nat_cmp}
use Rattle.std.specs.Prelude.{⊤, nat_le, nat_lt}
use Rattle.chat_change.specs.declared.change.Change.{Change}
use Rattle.chat_change.specs.declared.change.Change.TheVariants.{Post, Redact, Mark, Floor, AccountFloor}
use Rattle.chat_change.specs.Extent.{Extent, OfAccount, OfBuffer}
use Rattle.chat_change.specs.Key.{key_of, key_extent}
use Rattle.chat_history.specs.Choice.{later}
use Rattle.chat_history.specs.Form.{IsNoFloor, is_later, raises, renews, new_form, first_form, form_at}
use Rattle.chat_history.specs.History.{norm, changes_of}
use Rattle.chat_history.specs.Retention.{at_or_above}
use Rattle.chat_history.proofs.CallerLemmas.{Bears, contained, held_change, not_below}
use Rattle.chat_state.specs.Form.{form}
use Rattle.chat_buffers.specs.Store.{Store, history_in, change_at, floor_in}
use Rattle.chat_buffers.specs.Entering.{FitsStore}
use Rattle.chat_buffers.proofs.CallerLemmas.{get-history}
use Rattle.chat_state.proofs.StateLemmas.{keyed, floor_is_in, change_bears, no_floor_either, formed}

-- a redaction names no moment below the floor
abbrev Rests : ℕ → Change → Type 0
Rests f (Redact b m t) = at_or_above f t ≡ t
Rests f c = ⊤

-- a post doesn't lie below the floor
abbrev Lies : ℕ → Change → Type 0
Lies f (Post r) = f ≤ r.at
Lies f c = ⊤

above_itself : (f : ℕ) (t : Option ℕ) → at_or_above f (at_or_above f t) ≡ at_or_above f t
above_itself f None = refl
above_itself f (Some t) =
    elim (nat_le f t) as (λ b. nat_le f t ≡ b → at_or_above f (cond b (Some t) None) ≡ cond b (Some t) None) [
      | true ↦ λ e. ap (λ b. cond b (Some t) None) e
      | false ↦ λ _. refl
    ] refl

above_some : (f t : ℕ) → f ≤ t → at_or_above f (Some t) ≡ Some t
above_some f t l = let e : nat_le f t ≡ true = grind (arith, nat_tests) in ap (λ b. cond b (Some t) None) e

above_later : (f t : ℕ) (u : Option ℕ) → f ≤ t → at_or_above f (later (Some t) u) ≡ later (Some t) u
above_later f t None l = above_some f t l
above_later f t (Some u) l =
    elim (is_lt (nat_cmp t u)) as (λ b. is_lt (nat_cmp t u) ≡ b → at_or_above f (Some (cond b u t)) ≡ Some (cond b u t)) [
      | true ↦ λ e. above_some f u (grind (arith, nat_tests))
      | false ↦ λ _. above_some f t l
    ] refl

raised_rests : (f : ℕ) (u t : Option ℕ) → raises f u t ≡ true → at_or_above f t ≡ t
raised_rests f u None e = refl
raised_rests f u (Some t) e = ap (λ b. cond b (Some t) None) (first (nat_le f t) (is_later t u) e)
  where
    first : (a b : Bool) → (a && b) ≡ true → a ≡ true
    first true b e = refl
    first false b e = e

renewed_rests : (f : ℕ) (c old : Change) → Lies f old → renews f c old ≡ true → Rests f (new_form c old)
renewed_rests f (Post r) (Post s) l e = tt
renewed_rests f (Post r) (Redact d n u) l e = raised_rests f u (Some r.at) e
renewed_rests f (Post r) (Mark d u) l e = tt
renewed_rests f (Post r) (Floor d u) l e = tt
renewed_rests f (Post r) (AccountFloor d u) l e = tt
renewed_rests f (Redact b m t) (Post s) l e = above_later f s.at t l
renewed_rests f (Redact b m t) (Redact d n u) l e = raised_rests f u t e
renewed_rests f (Redact b m t) (Mark d u) l e = cc e
renewed_rests f (Redact b m t) (Floor d u) l e = cc e
renewed_rests f (Redact b m t) (AccountFloor d u) l e = cc e
renewed_rests f (Mark b t) old l e = tt
renewed_rests f (Floor b t) old l e = tt
renewed_rests f (AccountFloor a t) old l e = tt

first_rests : (f : ℕ) (c d : Change) → first_form f c ≡ Some d → Rests f d
first_rests f (Post r) d e = posted (nat_le f r.at) e
  where
    posted : (b : Bool) → cond b (Some (Post r)) None ≡ Some d → Rests f d
    posted true e = subst (Rests f) (same_Some (Post r) d e) tt
    posted false e = cc e
first_rests f (Redact b m t) d e = subst (Rests f) (same_Some (Redact b m (at_or_above f t)) d e) (above_itself f t)
first_rests f (Mark b t) d e = subst (Rests f) (same_Some (Mark b t) d e) tt
first_rests f (Floor b t) d e = cc e
first_rests f (AccountFloor a t) d e = cc e

form_rests : (f : ℕ) (o : Option Change) (c d : Change) → IfSome o (Lies f) → form_at f o c ≡ Some d → Rests f d
form_rests f None c d l e = first_rests f c d e
form_rests f (Some old) c d l e = renewed (renews f c old) refl e
  where
    renewed : (b : Bool) → renews f c old ≡ b → cond b (Some (new_form c old)) None ≡ Some d → Rests f d
    renewed true t e = subst (Rests f) (same_Some (new_form c old) d e) (renewed_rests f c old l t)
    renewed false t e = cc e

rests_fits : (s : Store) (d : Change) → IsNoFloor d → Rests (floor_in s (key_extent (key_of d))) d → FitsStore s d
rests_fits s (Post r) p h = tt
rests_fits s (Redact b m t) p h = h
rests_fits s (Mark b t) p h = tt
rests_fits s (Floor b t) p h = absurd p
rests_fits s (AccountFloor a t) p h = absurd p

module _ (s : Store) (normal : norm (changes_of (history_in s)) ≡ history_in s) where
  -- what is held lies at or above the floor of its buffer
  lies : (k : _) (o : Option Change) → change_at s k ≡ o → IfSome o (Lies (floor_in s (key_extent k)))
  lies k None e = tt
  lies k (Some (Post r)) e =
      let bears : key_of (Post r) ≡ k = subst (λ o. IfSome o (Bears k)) e (change_bears s normal k) in
      let here = held_change (history_in s) (keyed s normal) (Post r) (get-history s (key_of (Post r)) ∙ ap (change_at s) bears ∙ e) in
      let l = not_below (history_in s) normal r (contained (changes_of (history_in s)) (Post r) here) in
      subst (λ f. f ≤ r.at) (floor_is_in s normal (OfBuffer r.buffer) ∙ ap (λ j. floor_in s (key_extent j)) bears) l
  lies k (Some (Redact b m t)) e = tt
  lies k (Some (Mark b t)) e = tt
  lies k (Some (Floor b t)) e = tt
  lies k (Some (AccountFloor a t)) e = tt

  plain_fits : (c d : Change) → form s c ≡ Some d → form_at (floor_in s (key_extent (key_of c))) (change_at s (key_of c)) c ≡ Some d → IsNoFloor d → FitsStore s d
  plain_fits c d e made p =
      rests_fits s d p (subst (λ k. Rests (floor_in s (key_extent k)) d) (formed s normal c d e).bears
      (form_rests (floor_in s (key_extent (key_of c))) (change_at s (key_of c)) c d (lies (key_of c) (change_at s (key_of c)) refl) made))

  floor_fits : (e : Extent) (t : ℕ) (c d : Change) (a : Bool) → (floor_in s e ≤ t → FitsStore s c) → nat_lt (floor_in s e) t ≡ a → cond a (Some c) None ≡ Some d → FitsStore s d
  floor_fits e t c d true fits is made = subst (FitsStore s) (same_Some c d made) (fits (grind (arith, nat_tests)))
  floor_fits e t c d false fits is made = cc made

  pub formed_fits : (c d : Change) → form s c ≡ Some d → FitsStore s d
  formed_fits (Post r) d e = plain_fits (Post r) d e e (no_floor_either (Post r) d tt (formed s normal (Post r) d e).bears)
  formed_fits (Redact b m t) d e = plain_fits (Redact b m t) d e e (no_floor_either (Redact b m t) d tt (formed s normal (Redact b m t) d e).bears)
  formed_fits (Mark b t) d e = plain_fits (Mark b t) d e e (no_floor_either (Mark b t) d tt (formed s normal (Mark b t) d e).bears)
  formed_fits (Floor b t) d e = floor_fits (OfBuffer b) t (Floor b t) d (nat_lt (floor_in s (OfBuffer b)) t) (λ l. l) refl e
  formed_fits (AccountFloor a t) d e = floor_fits (OfAccount a) t (AccountFloor a t) d (nat_lt (floor_in s (OfAccount a)) t) (λ l. l) refl e
