-- The order of spots tells them apart, and what it says turned round.
use Rattle.std.proofs.Common.{◌≡◌, refl, sym, ◌∙◌, ap, ℕ, List, Option, Some, None, not}
use Rattle.std.specs.declared.cmp.Ordering.{Ordering}
use Rattle.std.specs.declared.cmp.Ordering.TheVariants.{Less, Equal, Greater}
use Rattle.std.specs.Ordering.{ordering_then, ordering_reverse, nat_cmp, is_lt, is_le, is_gt}
use Rattle.std.specs.Option.{option_cmp}
use Rattle.std.proofs.lemmas.Map.Lookups.{CmpEqualImpliesEq, exact_unsigned, exact_bytes}
use Rattle.byte_text.specs.Order.{text_cmp}
use Rattle.chat_history.specs.Cut.{cut_cmp, cut_total, latest_first}
use Rattle.chat_history.specs.declared.cut.Spot.{Spot}

both_equal : (a b : Ordering) → ordering_then a b ≡ Equal → (a ≡ Equal) × (b ≡ Equal)
both_equal Less b e = cc
both_equal Equal b e = (refl, e)
both_equal Greater b e = cc

ids_exact : (x y : Option (List ℕ)) → option_cmp text_cmp x y ≡ Equal → x ≡ y
ids_exact None None e = refl
ids_exact None (Some y) e = cc
ids_exact (Some x) None e = cc
ids_exact (Some x) (Some y) e = ap Some (exact_bytes x y e)

cut_exact : CmpEqualImpliesEq cut_cmp
cut_exact s t e =
    let h = both_equal (nat_cmp s.at t.at) (option_cmp text_cmp s.id t.id) e in
    let p = exact_unsigned s.at t.at h.0 in
    let q = ids_exact s.id t.id h.1 in
    λ i. record { at = p i; id = q i }

pub spot_exact : CmpEqualImpliesEq latest_first
spot_exact s t e = sym (cut_exact t s e)

-- ---- the same of the two orders

not_lt : (o : Ordering) → not (is_lt (ordering_reverse o)) ≡ is_le o
not_lt Less = refl
not_lt Equal = refl
not_lt Greater = refl

not_le : (o : Ordering) → not (is_le (ordering_reverse o)) ≡ is_lt o
not_le Less = refl
not_le Equal = refl
not_le Greater = refl

lt_back : (o : Ordering) → is_lt (ordering_reverse o) ≡ is_gt o
lt_back Less = refl
lt_back Equal = refl
lt_back Greater = refl

-- not before is at or after
pub not_before : (s t : Spot) → not (is_lt (cut_cmp s t)) ≡ is_le (cut_cmp t s)
not_before s t = ap (λ o. not (is_lt o)) (cut_total.antisymm s t) ∙ not_lt (cut_cmp t s)

-- not at or before is after
pub not_until : (s t : Spot) → not (is_le (cut_cmp s t)) ≡ is_lt (cut_cmp t s)
not_until s t = ap (λ o. not (is_le o)) (cut_total.antisymm s t) ∙ not_le (cut_cmp t s)

-- before is the other way round after
pub before_turned : (s t : Spot) → is_lt (cut_cmp s t) ≡ is_gt (cut_cmp t s)
before_turned s t = ap is_lt (cut_total.antisymm s t) ∙ lt_back (cut_cmp t s)
