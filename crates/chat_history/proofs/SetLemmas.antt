-- Only membership counts, and what follows for `join`.
use Rattle.std.proofs.Common.{◌≡◌, ℕ, zero, suc, ◌<◌, max, Bool, true, false, cond, ◌||◌, Option, Some, None, List, [], ◌∷◌, ◌++◌, length, refl, sym, ◌∙◌, ap, subst, arith, append_assoc, ⊎_elim}
use Rattle.std.specs.declared.cmp.Ordering.{Ordering}
use Rattle.std.proofs.lemmas.Bool.Decides.{nat_tests}
use Rattle.std.proofs.lemmas.List.Elements.{filter_map-append, Contains-append_right, Contains-append_left, Contains-append_cases}
use Rattle.std.proofs.lemmas.List.Folds.{list_any-append}
use Rattle.std.proofs.lemmas.Map.Lookups.{CmpEqualImpliesEq}
use Rattle.std.specs.Prelude.{Contains, slice_index_or}
use Rattle.std.specs.Ordering.{nat_cmp, flip_args}
use Rattle.std.specs.Cmp.{IsTotalOrder}
use Rattle.std.specs.List.{filter_map, list_any}
use Rattle.std.specs.Option.{option_map, unwrap_or}
use Rattle.chat_change.specs.Buffer.{Buffer}
use Rattle.chat_change.specs.declared.change.Change.{Change}
use Rattle.chat_change.specs.declared.change.Change.TheVariants.{Post, Redact, Mark}
use Rattle.chat_change.proofs.CallerLemmas.{record_total, record_exact}
use Rattle.chat_history.specs.Choice.{earlier, greatest}
use Rattle.chat_change.specs.Extent.{Extent, OfAccount, OfBuffer}
use Rattle.chat_change.specs.Key.{Key, FloorOf, MarkerOf, MessageOf, bearers_of}
use Rattle.chat_history.specs.History.{floor, own_floor, floor_around, mark, is_gone, kept_record, position_of, floor_moment, is_redaction, piece, norm, changes_of, SameSet, join, IsAtMost}
use Rattle.chat_history.proofs.ChoiceLemmas.{keep, earlier_comm, earlier_assoc, earlier_idem}
use Rattle.chat_history.proofs.PieceLemmas.{floor_piece, bearers_of-append, norm_from_pieces}
use Rattle.chat_history.proofs.NormLemmas.{latest_total, latest_exact, greatest-append, best, top, best-append, top-append, kept-best, position-top, at_least, stays, mark-append, norm_parts}

-- a value that is all_changes from the parts of a list depends on the members alone
module _ {A L : Type 0} (together : L → L → L) (comm : (u v : L) → together u v ≡ together v u) (assoc : (u v w : L) → together (together u v) w ≡ together u (together v w)) (idem : (u : L) → together u u ≡ u) (f : List A → L) (parts : (xs ys : List A) → f (xs ++ ys) ≡ together (f xs) (f ys)) where
  adds_nothing : (xs : List A) (x : A) (k : ℕ) → k < length xs → slice_index_or xs k x ≡ x → together (f (x ∷ [])) (f xs) ≡ f xs
  adds_nothing [] x k l e = absurd (omega arith)
  adds_nothing (y ∷ ys) x zero l e =
      ap (λ z. together (f (z ∷ [])) (f (y ∷ ys))) (sym e)
      ∙ ap (together (f (y ∷ []))) (parts (y ∷ []) ys)
      ∙ sym (assoc (f (y ∷ [])) (f (y ∷ [])) (f ys))
      ∙ ap (λ u. together u (f ys)) (idem (f (y ∷ [])))
      ∙ sym (parts (y ∷ []) ys)
  adds_nothing (y ∷ ys) x (suc k) l e =
      ap (together (f (x ∷ []))) (parts (y ∷ []) ys)
      ∙ sym (assoc (f (x ∷ [])) (f (y ∷ [])) (f ys))
      ∙ ap (λ u. together u (f ys)) (comm (f (x ∷ [])) (f (y ∷ [])))
      ∙ assoc (f (y ∷ [])) (f (x ∷ [])) (f ys)
      ∙ ap (together (f (y ∷ []))) (adds_nothing ys x k (omega arith) e)
      ∙ sym (parts (y ∷ []) ys)

  covered : (xs ys : List A) → ((x : A) → Contains xs x → Contains ys x) → together (f xs) (f ys) ≡ f ys
  covered [] ys h = sym (parts [] ys)
  covered (x ∷ xs) ys h =
      let here = h x (0, (let l : 0 < length (x ∷ xs) = omega arith in l), refl) in
      ap (λ u. together u (f ys)) (parts (x ∷ []) xs)
      ∙ assoc (f (x ∷ [])) (f xs) (f ys)
      ∙ ap (together (f (x ∷ []))) (covered xs ys (λ z c. h z (Contains-append_right (x ∷ []) xs z c)))
      ∙ adds_nothing ys x here.0 here.1 here.2

  pub same_members : (xs ys : List A) → ((x : A) → Contains xs x → Contains ys x) → ((x : A) → Contains ys x → Contains xs x) → f xs ≡ f ys
  same_members xs ys there back = sym (covered ys xs back) ∙ comm (f ys) (f xs) ∙ covered xs ys there

or_comm : (a b : Bool) → (a || b) ≡ (b || a)
or_comm true true = refl
or_comm true false = refl
or_comm false true = refl
or_comm false false = refl

or_assoc : (a b c : Bool) → ((a || b) || c) ≡ (a || (b || c))
or_assoc true b c = refl
or_assoc false b c = refl

or_idem : (a : Bool) → (a || a) ≡ a
or_idem true = refl
or_idem false = refl

module _ (xs ys : List Change) (same : SameSet xs ys) where
  module _ {A : Type 0} {R : A → A → Ordering} (o : IsTotalOrder R) (exact : CmpEqualImpliesEq R) (f : List Change → Option A) (parts : (xs ys : List Change) → f (xs ++ ys) ≡ earlier R (f xs) (f ys)) where
    same_first : f xs ≡ f ys
    same_first = same_members (earlier R) (earlier_comm o exact) (earlier_assoc o exact) (earlier_idem o exact) f parts xs ys (λ c. (same c).0) (λ c. (same c).1)

  floor_parts : (e : Extent) (us vs : List Change) → greatest (filter_map floor_moment (bearers_of (FloorOf e) (us ++ vs))) ≡ earlier (flip_args nat_cmp) (greatest (filter_map floor_moment (bearers_of (FloorOf e) us))) (greatest (filter_map floor_moment (bearers_of (FloorOf e) vs)))
  floor_parts e us vs =
      ap (λ cs. greatest (filter_map floor_moment cs)) (bearers_of-append (FloorOf e) us vs)
      ∙ ap greatest (filter_map-append floor_moment (bearers_of (FloorOf e) us) (bearers_of (FloorOf e) vs))
      ∙ greatest-append (filter_map floor_moment (bearers_of (FloorOf e) us)) (filter_map floor_moment (bearers_of (FloorOf e) vs))

  same_own_floor : (e : Extent) → own_floor xs e ≡ own_floor ys e
  same_own_floor e = ap (λ u. unwrap_or u 0) (same_first latest_total latest_exact (λ cs. greatest (filter_map floor_moment (bearers_of (FloorOf e) cs))) (floor_parts e))

  same_around : (e : Extent) → floor_around xs e ≡ floor_around ys e
  same_around (OfAccount a) = refl
  same_around (OfBuffer b) = same_own_floor (OfAccount b.account)

  same_floor : (b : Buffer) → floor xs b ≡ floor ys b
  same_floor b = λ i. max (same_own_floor (OfAccount b.account) i) (same_own_floor (OfBuffer b) i)

  same_mark : (b : Buffer) → mark xs b ≡ mark ys b
  same_mark b = same_first latest_total latest_exact (λ cs. mark cs b) (λ us vs. mark-append us vs b)

  module _ (b : Buffer) (m : List ℕ) where
    abbrev k : Key
    k = MessageOf b m

    same_top : top (bearers_of k xs) ≡ top (bearers_of k ys)
    same_top = same_first latest_total latest_exact (λ cs. top (bearers_of k cs)) (λ us vs. ap top (bearers_of-append k us vs) ∙ top-append (bearers_of k us) (bearers_of k vs))

    same_best : best (bearers_of k xs) ≡ best (bearers_of k ys)
    same_best = same_first record_total record_exact (λ cs. best (bearers_of k cs)) (λ us vs. ap best (bearers_of-append k us vs) ∙ best-append (bearers_of k us) (bearers_of k vs))

    same_gone : is_gone xs b m ≡ is_gone ys b m
    same_gone = same_members ◌||◌ or_comm or_assoc or_idem (λ cs. is_gone cs b m)
        (λ us vs. ap (list_any is_redaction) (bearers_of-append k us vs) ∙ list_any-append is_redaction (bearers_of k us) (bearers_of k vs)) xs ys (λ c. (same c).0) (λ c. (same c).1)

    same_position : position_of xs b m ≡ position_of ys b m
    same_position = position-top xs b m ∙ (λ i. keep (at_least (same_floor b i)) (same_top i)) ∙ sym (position-top ys b m)

    same_kept : kept_record xs b m ≡ kept_record ys b m
    same_kept = kept-best xs b m ∙ (λ i. keep (stays (same_floor b i)) (same_best i)) ∙ sym (kept-best ys b m)

  same_piece : (k : Key) → piece xs k ≡ piece ys k
  same_piece (FloorOf e) = λ i. floor_piece e (same_around e i) (same_own_floor e i)
  same_piece (MarkerOf b) = ap (option_map (Mark b)) (same_mark b)
  same_piece (MessageOf b m) = λ i. cond (same_gone b m i) (Some (Redact b m (same_position b m i))) (option_map Post (same_kept b m i))

  pub norm_of_set : norm xs ≡ norm ys
  norm_of_set = norm_from_pieces xs ys same_piece

-- ---- what follows

pub norm_twice : (xs : List Change) → norm (xs ++ xs) ≡ norm xs
norm_twice xs = norm_of_set (xs ++ xs) xs (λ c. (λ h. ⊎_elim (λ p. p) (λ p. p) (Contains-append_cases xs xs c h), λ h. Contains-append_left xs xs c h))

pub norm_swap : (xs ys : List Change) → norm (xs ++ ys) ≡ norm (ys ++ xs)
norm_swap xs ys = norm_of_set (xs ++ ys) (ys ++ xs)
    (λ c. (
      λ h. ⊎_elim (Contains-append_right ys xs c) (Contains-append_left ys xs c) (Contains-append_cases xs ys c h),
      λ h. ⊎_elim (Contains-append_right xs ys c) (Contains-append_left xs ys c) (Contains-append_cases ys xs c h),
    ))

-- a normal form is its own normal form
pub norm-changes_of : (xs : List Change) → norm (changes_of (norm xs)) ≡ norm xs
norm-changes_of xs = sym (norm_twice (changes_of (norm xs))) ∙ norm_parts xs xs ∙ norm_twice xs

pub norm_left : (xs ys : List Change) → norm (changes_of (norm xs) ++ ys) ≡ norm (xs ++ ys)
norm_left xs ys =
    sym (norm_parts (changes_of (norm xs)) ys)
    ∙ ap (λ h. norm (changes_of h ++ changes_of (norm ys))) (norm-changes_of xs)
    ∙ norm_parts xs ys

pub norm_right : (xs ys : List Change) → norm (xs ++ changes_of (norm ys)) ≡ norm (xs ++ ys)
norm_right xs ys = norm_swap xs (changes_of (norm ys)) ∙ norm_left ys xs ∙ norm_swap ys xs

pub join_assoc : (xs ys zs : List Change) → join (changes_of (join xs ys)) zs ≡ join xs (changes_of (join ys zs))
join_assoc xs ys zs = norm_left (xs ++ ys) zs ∙ ap norm (append_assoc xs ys zs) ∙ sym (norm_right xs (ys ++ zs))

no_lower : (u v : Option ℕ) → IsAtMost u (earlier (flip_args nat_cmp) u v)
no_lower None v = tt
no_lower (Some t) None = omega arith
no_lower (Some t) (Some u) = grind (arith, nat_tests)

-- adding changes never lowers a marker
pub mark_rises : (xs ys : List Change) (b : Buffer) → IsAtMost (mark xs b) (mark (xs ++ ys) b)
mark_rises xs ys b = subst (IsAtMost (mark xs b)) (sym (mark-append xs ys b)) (no_lower (mark xs b) (mark ys b))
