-- Where the pieces of changes come from: if each change comes from what was made, so does each piece of them.
use Rattle.std.proofs.Common.{◌≡◌, ℕ, Bool, true, false, cond, Option, Some, None, List, [], ◌∷◌, refl, sym, ◌∙◌, ap, subst, inl, inr, ⊎_elim, arith}
use Rattle.std.specs.declared.cmp.Ordering.{Ordering}
use Rattle.std.proofs.lemmas.Bool.{false≢true}
use Rattle.std.proofs.lemmas.List.Elements.{recursion_from_All, Contains-append_right}
use Rattle.std.specs.List.{All, AllByRecursion, filter, filter_map, list_any}
use Rattle.std.specs.Ordering.{nat_cmp, flip_args, is_lt}
use Rattle.std.specs.Option.{IfSome, option_map, unwrap_or}
use Rattle.std.specs.Prelude.{nat_lt, nat_le}
use Rattle.std.specs.FinMap.{get}
use Rattle.chat_change.specs.Buffer.{Buffer}
use Rattle.chat_change.specs.Record.{Record}
use Rattle.chat_change.specs.Order.{record_cmp}
use Rattle.chat_change.specs.declared.change.Change.{Change}
use Rattle.chat_change.specs.declared.change.Change.TheVariants.{Post, Redact, Mark, Floor, AccountFloor}
use Rattle.chat_history.specs.Choice.{earlier, first_by, greatest}
use Rattle.chat_change.specs.Extent.{Extent, OfAccount, OfBuffer}
use Rattle.chat_change.specs.Key.{Key, FloorOf, MarkerOf, MessageOf, key_of, same_key, bearers_of, floor_change}
use Rattle.chat_history.specs.History.{floor, floor_around, mark, is_gone, kept_record, position_of, floor_moment, marker_moment, posted_record, message_moment, is_redaction, piece, norm}
use Rattle.chat_change.proofs.CallerLemmas.{same_key_is}
use Rattle.chat_history.proofs.CallerLemmas.{get-norm}
use Rattle.gossip_link.specs.Cluster.{Made}
use Rattle.gossip_link.specs.Promises.{IsMade, WasRedacted, IsMadeMoment, ComesFrom}

-- ---- more is made

module _ (made : List Made) (m : Made) where
  abbrev more : List Made
  more = m ∷ made

  pub IsMade-more : (c : Change) → IsMade made c → IsMade more c
  IsMade-more c h = (h.0, Contains-append_right (m ∷ []) made h.0 h.1, h.2)

  IsMoment-more : (b : Buffer) (id : List ℕ) (at : ℕ) → IsMadeMoment made b id at → IsMadeMoment more b id at
  IsMoment-more b id at h = ⊎_elim (λ r. inl (r.0, r.1, r.2, r.3, IsMade-more (Post r.0) r.4)) (λ r. inr (IsMade-more (Redact b id (Some at)) r)) h

  pub ComesFrom-more : (c : Change) → ComesFrom made c → ComesFrom more c
  ComesFrom-more (Post r) h = IsMade-more (Post r) h
  ComesFrom-more (Redact b id None) h = ((h.0.0, IsMade-more (Redact b id h.0.0) h.0.1), tt)
  ComesFrom-more (Redact b id (Some at)) h = ((h.0.0, IsMade-more (Redact b id h.0.0) h.0.1), IsMoment-more b id at h.1)
  ComesFrom-more (Mark b t) h = IsMade-more (Mark b t) h
  ComesFrom-more (Floor b t) h = IsMade-more (Floor b t) h
  ComesFrom-more (AccountFloor a t) h = IsMade-more (AccountFloor a t) h

-- what was made comes from what was made
pub ComesFrom-made : (made : List Made) (c : Change) → IsMade made c → ComesFrom made c
ComesFrom-made made (Post r) h = h
ComesFrom-made made (Redact b id None) h = ((None, h), tt)
ComesFrom-made made (Redact b id (Some at)) h = ((Some at, h), inr h)
ComesFrom-made made (Mark b t) h = h
ComesFrom-made made (Floor b t) h = h
ComesFrom-made made (AccountFloor a t) h = h

-- ---- what is chosen of a list is one of it

module _ {A : Type 0} where
  kept_all : (P : A → Type 0) (p : A → Bool) (xs : List A) → AllByRecursion P xs → AllByRecursion P (filter p xs)
  kept_all P p [] h = tt
  kept_all P p (x ∷ xs) h =
      elim (p x) as (λ b. AllByRecursion P (cond b (x ∷ filter p xs) (filter p xs))) [ true ↦ (h.0, kept_all P p xs h.1) | false ↦ kept_all P p xs h.1 ]

  earlier_one : (R : A → A → Ordering) (P : A → Type 0) (x : A) (u : Option A) → P x → IfSome u P → IfSome (earlier R (Some x) u) P
  earlier_one R P x None h k = h
  earlier_one R P x (Some y) h k = elim (is_lt (R y x)) as (λ b. P (cond b y x)) [ true ↦ k | false ↦ h ]

  first_one : (R : A → A → Ordering) (P : A → Type 0) (xs : List A) → AllByRecursion P xs → IfSome (first_by R xs) P
  first_one R P [] h = tt
  first_one R P (x ∷ xs) h = earlier_one R P x (first_by R xs) h.0 (first_one R P xs h.1)

-- ---- the changes of one key

module _ (made : List Made) where
  abbrev Comes : Key → Change → Type 0
  Comes k c = (key_of c ≡ k) × ComesFrom made c

  bearers_come : (k : Key) (cs : List Change) → AllByRecursion (ComesFrom made) cs → AllByRecursion (Comes k) (bearers_of k cs)
  bearers_come k [] h = tt
  bearers_come k (c ∷ cs) h =
      elim (same_key k (key_of c)) as (λ b. same_key k (key_of c) ≡ b → AllByRecursion (Comes k) (cond b (c ∷ bearers_of k cs) (bearers_of k cs))) [
        | true ↦ λ e. ((sym (same_key_is k (key_of c) e), h.0), bearers_come k cs h.1)
        | false ↦ λ _. bearers_come k cs h.1
      ] refl

  floors_come : (x : Extent) (cs : List Change) → AllByRecursion (Comes (FloorOf x)) cs → AllByRecursion (λ t. IsMade made (floor_change x t)) (filter_map floor_moment cs)
  floors_come x [] h = tt
  floors_come x (Post r ∷ cs) h = floors_come x cs h.1
  floors_come x (Redact d id t ∷ cs) h = floors_come x cs h.1
  floors_come x (Mark d t ∷ cs) h = floors_come x cs h.1
  floors_come x (Floor d t ∷ cs) h =
      let e : OfBuffer d ≡ x = cc (h.0.0) in
      (subst (λ y. IsMade made (floor_change y t)) e h.0.1, floors_come x cs h.1)
  floors_come x (AccountFloor a t ∷ cs) h =
      let e : OfAccount a ≡ x = cc (h.0.0) in
      (subst (λ y. IsMade made (floor_change y t)) e h.0.1, floors_come x cs h.1)

  marks_come : (b : Buffer) (cs : List Change) → AllByRecursion (Comes (MarkerOf b)) cs → AllByRecursion (λ t. IsMade made (Mark b t)) (filter_map marker_moment cs)
  marks_come b [] h = tt
  marks_come b (Post r ∷ cs) h = marks_come b cs h.1
  marks_come b (Redact d id t ∷ cs) h = marks_come b cs h.1
  marks_come b (Mark d t ∷ cs) h =
      let e : d ≡ b = cc (h.0.0) in
      (subst (λ x. IsMade made (Mark x t)) e h.0.1, marks_come b cs h.1)
  marks_come b (Floor d t ∷ cs) h = marks_come b cs h.1
  marks_come b (AccountFloor a t ∷ cs) h = marks_come b cs h.1

  module _ (b : Buffer) (id : List ℕ) where
    abbrev here : Change → Type 0
    here c = Comes (MessageOf b id) c

    posts_come : (cs : List Change) → AllByRecursion here cs → AllByRecursion (λ r. IsMade made (Post r)) (filter_map posted_record cs)
    posts_come [] h = tt
    posts_come (Post r ∷ cs) h = (h.0.1, posts_come cs h.1)
    posts_come (Redact d n t ∷ cs) h = posts_come cs h.1
    posts_come (Mark d t ∷ cs) h = posts_come cs h.1
    posts_come (Floor d t ∷ cs) h = posts_come cs h.1
    posts_come (AccountFloor a t ∷ cs) h = posts_come cs h.1

    moments_come : (cs : List Change) → AllByRecursion here cs → AllByRecursion (IsMadeMoment made b id) (filter_map message_moment cs)
    moments_come [] h = tt
    moments_come (Post r ∷ cs) h =
        let p : r.buffer ≡ b = cc (h.0.0) in
        let q : r.id ≡ id = cc (h.0.0) in
        (inl (r, p, q, refl, h.0.1), moments_come cs h.1)
    moments_come (Redact d n None ∷ cs) h = moments_come cs h.1
    moments_come (Redact d n (Some t) ∷ cs) h =
        let p : d ≡ b = cc (h.0.0) in
        let q : n ≡ id = cc (h.0.0) in
        let there : IsMadeMoment made d n t = h.0.1.1 in
        (subst (λ x. IsMadeMoment made b x t) q (subst (λ x. IsMadeMoment made x n t) p there), moments_come cs h.1)
    moments_come (Mark d t ∷ cs) h = moments_come cs h.1
    moments_come (Floor d t ∷ cs) h = moments_come cs h.1
    moments_come (AccountFloor a t ∷ cs) h = moments_come cs h.1

    redaction_comes : (cs : List Change) → AllByRecursion here cs → list_any is_redaction cs ≡ true → WasRedacted made b id
    redaction_comes [] h e = absurd (false≢true e)
    redaction_comes (Post r ∷ cs) h e = redaction_comes cs h.1 e
    redaction_comes (Redact d n t ∷ cs) h e =
        let p : d ≡ b = cc (h.0.0) in
        let q : n ≡ id = cc (h.0.0) in
        let there : WasRedacted made d n = h.0.1.0 in
        subst (λ x. WasRedacted made b x) q (subst (λ x. WasRedacted made x n) p there)
    redaction_comes (Mark d t ∷ cs) h e = redaction_comes cs h.1 e
    redaction_comes (Floor d t ∷ cs) h e = redaction_comes cs h.1 e
    redaction_comes (AccountFloor a t ∷ cs) h e = redaction_comes cs h.1 e

  -- ---- pieces

  none_above : (around : ℕ) → nat_lt around 0 ≡ false
  none_above around = grind arith

  floor_is_made : (x : Extent) (t : ℕ) → IsMade made (floor_change x t) → ComesFrom made (floor_change x t)
  floor_is_made (OfAccount a) t h = h
  floor_is_made (OfBuffer b) t h = h

  floor_comes : (x : Extent) (around : ℕ) (o : Option ℕ) (new : Change) → IfSome o (λ t. IsMade made (floor_change x t)) → cond (nat_lt around (unwrap_or o 0)) (Some (floor_change x (unwrap_or o 0))) None ≡ Some new → ComesFrom made new
  floor_comes x around None new h e = cc (sym (ap (λ s. cond s (Some (floor_change x 0)) None) (none_above around)) ∙ e)
  floor_comes x around (Some t) new h e =
      elim (nat_lt around t) as (λ s. cond s (Some (floor_change x t)) None ≡ Some new → ComesFrom made new) [
        | true ↦ λ e. let same : floor_change x t ≡ new = cc e in subst (ComesFrom made) same (floor_is_made x t h)
        | false ↦ λ e. cc
      ] e

  mark_comes : (b : Buffer) (o : Option ℕ) (new : Change) → IfSome o (λ t. IsMade made (Mark b t)) → option_map (Mark b) o ≡ Some new → ComesFrom made new
  mark_comes b None new h e = cc
  mark_comes b (Some t) new h e = let same : Mark b t ≡ new = cc e in subst (ComesFrom made) same h

  post_comes : (o : Option Record) (new : Change) → IfSome o (λ r. IsMade made (Post r)) → option_map Post o ≡ Some new → ComesFrom made new
  post_comes None new h e = cc
  post_comes (Some r) new h e = let same : Post r ≡ new = cc e in subst (ComesFrom made) same h

  piece_comes : (cs : List Change) → AllByRecursion (ComesFrom made) cs → (k : Key) (new : Change) → piece cs k ≡ Some new → ComesFrom made new
  piece_comes cs h (FloorOf x) new =
      floor_comes x (floor_around cs x) (greatest (filter_map floor_moment (bearers_of (FloorOf x) cs))) new
      (first_one (flip_args nat_cmp) (λ t. IsMade made (floor_change x t)) (filter_map floor_moment (bearers_of (FloorOf x) cs)) (floors_come x (bearers_of (FloorOf x) cs) (bearers_come (FloorOf x) cs h)))
  piece_comes cs h (MarkerOf b) new =
      mark_comes b (mark cs b) new
      (first_one (flip_args nat_cmp) (λ t. IsMade made (Mark b t)) (filter_map marker_moment (bearers_of (MarkerOf b) cs)) (marks_come b (bearers_of (MarkerOf b) cs) (bearers_come (MarkerOf b) cs h)))
  piece_comes cs h (MessageOf b id) new =
      let k = MessageOf b id in
      let borne = bearers_of k cs in
      let come = bearers_come k cs h in
      let post = first_one record_cmp (λ r. IsMade made (Post r)) (filter (λ r. nat_le (floor cs b) r.at) (filter_map posted_record borne))
      (kept_all (λ r. IsMade made (Post r)) (λ r. nat_le (floor cs b) r.at) (filter_map posted_record borne) (posts_come b id borne come)) in
      let at = first_one (flip_args nat_cmp) (IsMadeMoment made b id) (filter (λ t. nat_le (floor cs b) t) (filter_map message_moment borne))
      (kept_all (IsMadeMoment made b id) (λ t. nat_le (floor cs b) t) (filter_map message_moment borne) (moments_come b id borne come)) in
      elim (is_gone cs b id) as (λ g. is_gone cs b id ≡ g → cond g (Some (Redact b id (position_of cs b id))) (option_map Post (kept_record cs b id)) ≡ Some new → ComesFrom made new) [
        | true ↦ λ g e. let same : Redact b id (position_of cs b id) ≡ new = cc e in subst (ComesFrom made) same (redaction_comes b id borne come g, at)
        | false ↦ λ _ e. post_comes (kept_record cs b id) new post e
      ] refl

  -- each piece of changes that come from what was made comes from it
  pub pieces_come : (cs : List Change) → All (ComesFrom made) cs → (k : Key) (c : Change) → get (norm cs) k ≡ Some c → ComesFrom made c
  pieces_come cs h k c e = piece_comes cs (recursion_from_All (ComesFrom made) cs h) k c (sym (get-norm cs k) ∙ e)
