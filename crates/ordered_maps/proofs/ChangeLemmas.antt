-- What a key finds in pages, and what a change of pages does at a key.
use Rattle.std.proofs.Common.{◌≡◌, ℕ, zero, suc, ◌<◌, length, arith, refl, Bool, true, false, List, [], ◌∷◌, ◌++◌, get_or, Option, Some, None, IfSome, option_to_list, sym, ap, subst, ◌∙◌, append-nil}
use Rattle.std.specs.declared.cmp.Ordering.{Ordering}
use Rattle.std.specs.declared.cmp.Ordering.TheVariants.{Equal}
use Rattle.std.specs.Cmp.{IsTotalOrder}
use Rattle.std.proofs.lemmas.Cmp.{tied_itself}
use Rattle.std.proofs.lemmas.Option.{none-some}
use Rattle.ordered_maps.specs.declared.packed_map.search.Place.{Place}
use Rattle.ordered_maps.specs.MapView.{get, AreOrdered, IsWith, IsWithout}
use Rattle.ordered_maps.specs.Ends.{IsGreatest}
use Rattle.ordered_maps.specs.Pages.{entries_of, page_at, AreInPages}
use Rattle.ordered_maps.specs.Places.{before, after, past, IsHeldAt, IsGap, ChangesEntry, entered}
use Rattle.ordered_maps.proofs.PageLemmas.{whole, first_after}
use Rattle.ordered_maps.proofs.LookupLemmas.{found, missed, put_between, written_over, taken_out, not_held, greatest, ordered_put, ordered_out, ordered_written}

-- the element at an index
entry_at : {X : Type 0} (xs : List X) (i : ℕ) → i < length xs → (x : X) × (x ≡ get_or xs i x)
entry_at [] i h = absurd (omega arith)
entry_at (x ∷ xs) zero h = (x, refl)
entry_at (x ∷ xs) (suc i) h = entry_at xs i (omega arith)

module _ {K X : Type 0} {R : K → K → Ordering} (o : IsTotalOrder R) (k : K) (pages : List (List (K × X))) (s : AreInPages R pages) (place : Place) where
  -- ---- where an entry is held

  module _ (h : IsHeldAt R k pages place) where
    around : (e : K × X) → e ≡ get_or (page_at pages place.page) place.index e → entries_of pages ≡ before pages place ++ e ∷ past pages place
    around e is = whole pages place ∙ ap (λ es. before pages place ++ es) (first_after pages place e h.at.index ∙ ap (λ f. f ∷ past pages place) (sym is))

    tied : (e : K × X) → e ≡ get_or (page_at pages place.page) place.index e → R e.0 k ≡ Equal
    tied e is = subst (λ (f : K × X). R f.0 k ≡ Equal) (sym is) (h.equal e)

    pub held_found : (e : K × X) → e ≡ get_or (page_at pages place.page) place.index e → get R (entries_of pages) k ≡ Some e.1
    held_found e is =
        let at = around e is in
        ap (λ es. get R es k) at ∙ found o (before pages place) e (past pages place) k (subst (AreOrdered R) at s.ordered) (tied e is)

    module _ (v r : X) (new : List (List (K × X))) (c : ChangesEntry pages place v r new) where
      pub changed_before : get R (entries_of pages) k ≡ Some r
      changed_before = held_found (c.key, r) (sym (c.there (c.key, r)))

      pub changed_with : IsWith R (entries_of pages) k v (entries_of new)
      changed_with =
          let set = written_over o (before pages place) c.key k r v (past pages place) (subst (AreOrdered R) c.old s.ordered) (tied (c.key, r) (sym (c.there (c.key, r)))) in
          subst (λ es. IsWith R es k v (entries_of new)) (sym c.old) (subst (IsWith R (before pages place ++ (c.key, r) ∷ past pages place) k v) (sym c.now) set)

      pub changed_ordered : AreOrdered R (entries_of new)
      changed_ordered = subst (AreOrdered R) (sym c.now) (ordered_written R (before pages place) c.key r v (past pages place) (subst (AreOrdered R) c.old s.ordered))

    module _ (new : List (List (K × X))) (out : entries_of new ≡ before pages place ++ past pages place) where
      there : (e : K × X) × (e ≡ get_or (page_at pages place.page) place.index e)
      there = entry_at (page_at pages place.page) place.index h.at.index

      e : K × X
      e = there.0

      is : e ≡ get_or (page_at pages place.page) place.index e
      unfolding e
      is = there.1

      pub out_without : IsWithout R (entries_of pages) k (entries_of new)
      out_without =
          let at = around e is in
          let set = taken_out o (before pages place) e (past pages place) k (subst (AreOrdered R) at s.ordered) (tied e is) in
          subst (λ es. IsWithout R es k (entries_of new)) (sym at) (subst (IsWithout R (before pages place ++ e ∷ past pages place) k) (sym out) set)

      pub out_ordered : AreOrdered R (entries_of new)
      out_ordered = subst (AreOrdered R) (sym out) (ordered_out o (before pages place) e (past pages place) (subst (AreOrdered R) (around e is) s.ordered))

  -- ---- where none is

  module _ (g : IsGap R k pages place) where
    pub gap_missed : get R (entries_of pages) k ≡ None
    gap_missed = ap (λ es. get R es k) (whole pages place) ∙ missed o (before pages place) (after pages place) k k (tied_itself o k) g.below g.above

    pub gap_without : IsWithout R (entries_of pages) k (entries_of pages)
    gap_without = subst (λ es. IsWithout R es k es) (sym (whole pages place)) (not_held o (before pages place) (after pages place) k g.below g.above)

    module _ (v : X) (new : List (List (K × X))) (put : entries_of new ≡ entered pages place (k, v) true) where
      pub put_with : IsWith R (entries_of pages) k v (entries_of new)
      put_with = subst (λ es. IsWith R es k v (entries_of new)) (sym (whole pages place)) (subst (IsWith R (before pages place ++ after pages place) k v) (sym put) (put_between o (before pages place) k v (after pages place) g.below))

    pub put_ordered : (v : X) (r : Bool) (new : List (List (K × X))) → entries_of new ≡ entered pages place (k, v) r → AreOrdered R (entries_of new)
    put_ordered v true new put = subst (AreOrdered R) (sym put) (ordered_put o (before pages place) k v (after pages place) (subst (AreOrdered R) (whole pages place) s.ordered) g.below g.above)
    put_ordered v false new put = subst (AreOrdered R) (sym put) s.ordered

-- ---- the last entry is taken out

module _ {K X : Type 0} {R : K → K → Ordering} (o : IsTotalOrder R) where
  pub popped_greatest : (es fs : List (K × X)) (r : Option (K × X)) → AreOrdered R es → es ≡ fs ++ option_to_list r → IfSome r (λ e. IsGreatest R e es)
  popped_greatest es fs None s out = tt
  popped_greatest es fs (Some e) s out = subst (IsGreatest R e) (sym out) (greatest o fs e (subst (AreOrdered R) out s))

  pub popped_without : (es fs : List (K × X)) (r : Option (K × X)) → AreOrdered R es → es ≡ fs ++ option_to_list r → IfSome r (λ e. IsWithout R es e.0 fs)
  popped_without es fs None s out = tt
  popped_without es fs (Some e) s out =
      subst (λ gs. IsWithout R gs e.0 fs) (sym out)
      (subst (IsWithout R (fs ++ e ∷ []) e.0) (append-nil fs) (taken_out o fs e [] e.0 (subst (AreOrdered R) out s) (tied_itself o e.0)))

  pub popped_ordered : (es fs : List (K × X)) (r : Option (K × X)) → AreOrdered R es → es ≡ fs ++ option_to_list r → AreOrdered R fs
  popped_ordered es fs None s out = subst (AreOrdered R) (out ∙ append-nil fs) s
  popped_ordered es fs (Some e) s out = subst (AreOrdered R) (append-nil fs) (ordered_out o fs e [] (subst (AreOrdered R) out s))

pub popped_none : {A : Type 0} (es fs : List A) (r : Option A) → es ≡ fs ++ option_to_list r → r ≡ None → fs ≡ es
popped_none es fs None out e = sym (out ∙ append-nil fs)
popped_none es fs (Some x) out e = absurd (none-some x (sym e))
