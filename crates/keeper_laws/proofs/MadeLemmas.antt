-- What comes from what was made.
use Rattle.std.proofs.Common.{◌≡◌, ◌⊎◌, ◌<◌, ℕ, zero, suc, arith, Some, None, List, [], ◌∷◌, sym, subst, inl, inr, ⊎_elim}
use Rattle.std.specs.Prelude.{Contains, slice_index_or}
use Rattle.std.proofs.lemmas.List.Elements.{Contains-append_cases}
use Rattle.chat_change.specs.Buffer.{Buffer}
use Rattle.chat_change.specs.declared.change.Change.{Change}
use Rattle.chat_change.specs.declared.change.Change.TheVariants.{Post, Redact, Mark, Floor, AccountFloor}
use Rattle.gossip_link.specs.Cluster.{Made}
use Rattle.gossip_link.specs.Promises.{IsMade, WasRedacted, IsMadeMoment, ComesFrom}

pub comes_made : (made : List Made) (c : Change) → IsMade made c → ComesFrom made c
comes_made made (Post r) h = h
comes_made made (Redact b id None) h = ((None, h), tt)
comes_made made (Redact b id (Some at)) h = ((Some at, h), inr h)
comes_made made (Mark b t) h = h
comes_made made (Floor b t) h = h
comes_made made (AccountFloor a t) h = h

-- what comes from changes that come from others comes from those
module _ (source target : List Made) (all : (c : Change) → IsMade source c → ComesFrom target c) where
  redacted : (b : Buffer) (id : List ℕ) → WasRedacted source b id → WasRedacted target b id
  redacted b id h = (all (Redact b id h.0) h.1).0

  moment : (b : Buffer) (id : List ℕ) (at : ℕ) → IsMadeMoment source b id at → IsMadeMoment target b id at
  moment b id at h =
      ⊎_elim (λ r. inl (r.0, r.1, r.2, r.3, all (Post r.0) r.4)) (λ r. (all (Redact b id (Some at)) r).1) h

  pub through : (c : Change) → ComesFrom source c → ComesFrom target c
  through (Post r) h = all (Post r) h
  through (Redact b id None) h = (redacted b id h.0, tt)
  through (Redact b id (Some at)) h = (redacted b id h.0, moment b id at h.1)
  through (Mark b t) h = all (Mark b t) h
  through (Floor b t) h = all (Floor b t) h
  through (AccountFloor a t) h = all (AccountFloor a t) h

only : (m n : Made) (k : ℕ) → k < 1 → slice_index_or (m ∷ []) k n ≡ n → m ≡ n
only m n zero lt e = e
only m n (suc k) lt e = absurd (omega arith)

-- what was made last, or before
pub last_or_before : (m : Made) (made : List Made) (c : Change) → IsMade (m ∷ made) c → Contains m.changes c ⊎ IsMade made c
last_or_before m made c h =
    ⊎_elim (λ one. inl (subst (λ (n : Made). Contains n.changes c) (sym (only m h.0 one.0 one.1 one.2)) h.2)) (λ old. inr (h.0, old, h.2))
    (Contains-append_cases (m ∷ []) made h.0 h.1)

-- what is made anew, where all of it comes from what was made, adds nothing to what comes from that
pub no_more : (m : Made) (made : List Made) → ((c : Change) → Contains m.changes c → ComesFrom made c) → (c : Change) → ComesFrom (m ∷ made) c → ComesFrom made c
no_more m made all = through (m ∷ made) made (λ c h. ⊎_elim (all c) (comes_made made c) (last_or_before m made c h))
