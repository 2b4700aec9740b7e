-- What a hall's map finds is what its slab holds.
use Rattle.std.proofs.Common.{◌≡◌, ◌≢◌, inl, inr, ℕ, zero, suc, ◌+◌, ◌<◌, true, false, cond, List, [], ◌∷◌, Option, Some, None, get_or, refl, sym, ap, ◌∙◌, arith}
use Rattle.std.proofs.lemmas.Bool.{cases_eq, cases_lt}
use Rattle.std.specs.Ordering.{nat_cmp, eq_by_cmp, is_eq}
use Rattle.std.specs.declared.cmp.Ordering.TheVariants.{Less, Equal, Greater}
use Rattle.std.specs.Cmp.{nat_cmp_is, nat_cmp_total}
use Rattle.std.specs.FinMap as finite
use Rattle.std.specs.FinMap.{find, get-from_entries, get-insert, get-remove, same_map, nat_cmp-IsAntisymmetric}
use Rattle.slab.specs.Slab.{Slab, get, entries_from, Updates}
use Rattle.attach.specs.Hall.{value_of}

same_key : (q k : ℕ) → q ≡ k → eq_by_cmp nat_cmp q k ≡ true
same_key q k e = ap is_eq (sym (nat_cmp_is q k Equal e))

lower_key : (q k : ℕ) → q < k → eq_by_cmp nat_cmp q k ≡ false
lower_key q k h = ap is_eq (sym (nat_cmp_is q k Less h))

higher_key : (q k : ℕ) → k < q → eq_by_cmp nat_cmp q k ≡ false
higher_key q k h = ap is_eq (sym (nat_cmp_is q k Greater h))

other_key : (q k : ℕ) → q ≢ k → eq_by_cmp nat_cmp q k ≡ false
other_key q k h = elim (cases_lt q k) [
  | inl less ↦ lower_key q k less
  | inr more ↦ higher_key q k (omega (arith, h, more))
]

module _ {X : Type 0} where
  below : (q key : ℕ) (slots : List (Option X)) → q < key → find nat_cmp q (entries_from key slots) ≡ None
  below q key [] h = refl
  below q key (None ∷ rest) h = below q (key + 1) rest (omega (arith, h))
  below q key (Some x ∷ rest) h = ap (λ b. cond b (Some x) (find nat_cmp q (entries_from (key + 1) rest))) (lower_key q key h) ∙ below q (key + 1) rest (omega (arith, h))

  finds : (at q key : ℕ) (slots : List (Option X)) → q ≡ key + at → find nat_cmp q (entries_from key slots) ≡ get_or slots at None
  finds at q key [] is = refl
  finds zero q key (None ∷ rest) is = below q (key + 1) rest (omega (arith, is))
  finds zero q key (Some x ∷ rest) is = ap (λ b. cond b (Some x) (find nat_cmp q (entries_from (key + 1) rest))) (same_key q key (omega (arith, is)))
  finds (suc at) q key (None ∷ rest) is = finds at q (key + 1) rest (omega (arith, is))
  finds (suc at) q key (Some x ∷ rest) is = ap (λ b. cond b (Some x) (find nat_cmp q (entries_from (key + 1) rest))) (higher_key q key (omega (arith, is))) ∙ finds at q (key + 1) rest (omega (arith, is))

  found : (s : Slab X) (key : ℕ) → finite.get (value_of s) key ≡ get s key
  found s key = get-from_entries nat_cmp_total _ key ∙ finds key key 0 s.slots (omega arith)

  puts : (old new : Slab X) (key : ℕ) (x : X) → Updates old new key (Some x) → value_of new ≡ finite.insert (value_of old) key x
  puts old new key x u = same_map nat_cmp_total nat_cmp-IsAntisymmetric _ _ (λ q. found new q ∙ at q ∙ sym (get-insert nat_cmp_total _ key x q))
    where
      at : (q : ℕ) → get new q ≡ cond (eq_by_cmp nat_cmp q key) (Some x) (finite.get (value_of old) q)
      at q = elim (cases_eq q key) [
        | inl same ↦ ap (get new) same ∙ u.changed ∙ sym (ap (λ b. cond b (Some x) (finite.get (value_of old) q)) (same_key q key same))
        | inr apart ↦ u.others q apart ∙ sym (found old q) ∙ sym (ap (λ b. cond b (Some x) (finite.get (value_of old) q)) (other_key q key apart))
      ]

  takes_out : (old new : Slab X) (key : ℕ) → Updates old new key None → value_of new ≡ finite.remove (value_of old) key
  takes_out old new key u = same_map nat_cmp_total nat_cmp-IsAntisymmetric _ _ (λ q. found new q ∙ at q ∙ sym (get-remove nat_cmp_total _ key q))
    where
      at : (q : ℕ) → get new q ≡ cond (eq_by_cmp nat_cmp q key) None (finite.get (value_of old) q)
      at q = elim (cases_eq q key) [
        | inl same ↦ ap (get new) same ∙ u.changed ∙ sym (ap (λ b. cond b None (finite.get (value_of old) q)) (same_key q key same))
        | inr apart ↦ u.others q apart ∙ sym (found old q) ∙ sym (ap (λ b. cond b None (finite.get (value_of old) q)) (other_key q key apart))
      ]

  -- what the map finds is what the slab has there
  pub found_at : (s : Slab X) (key : ℕ) (m : finite.FinMap nat_cmp X) → value_of s ≡ m → finite.get m key ≡ get s key
  found_at s key m is = ap (λ n. finite.get n key) (sym is) ∙ found s key

  -- one key of the slab gets this value
  pub puts_at : (old new : Slab X) (key : ℕ) (x : X) (m : finite.FinMap nat_cmp X) → value_of old ≡ m → Updates old new key (Some x) → value_of new ≡ finite.insert m key x
  puts_at old new key x m is u = puts old new key x u ∙ ap (λ n. finite.insert n key x) is

  -- one key of the slab is vacant now
  pub takes_out_at : (old new : Slab X) (key : ℕ) (m : finite.FinMap nat_cmp X) → value_of old ≡ m → Updates old new key None → value_of new ≡ finite.remove m key
  takes_out_at old new key m is u = takes_out old new key u ∙ ap (λ n. finite.remove n key) is
