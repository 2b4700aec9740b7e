-- Entries that come last in a list.
use Rattle.std.proofs.Common.{◌≡◌, refl, sym, ◌∙◌, ap, Bool, true, false, not, ◌&&◌, ◌||◌, List, [], ◌∷◌, ◌++◌}
use Rattle.std.specs.List.{list_any, list_all}
use Rattle.std.proofs.lemmas.Bool.{false≢true}
use Rattle.std.proofs.lemmas.List.Folds.{list_any-append, list_all-append}
use Rattle.node_config.specs.Differing.{all_differ}

and_parts : (a b : Bool) → (not a && b) ≡ true → (a ≡ false) × (b ≡ true)
and_parts true b e = absurd (false≢true e)
and_parts false b e = (refl, e)

or_parts : (a b : Bool) → (a || b) ≡ false → (a ≡ false) × (b ≡ false)
or_parts true b e = absurd (false≢true (sym e))
or_parts false b e = (refl, e)

joined : (a c d : Bool) → a ≡ false → c ≡ false → d ≡ true → (not (a || (c || false)) && d) ≡ true
joined a c d p q r = (λ i. not (p i || (q i || false)) && r i)

module _ {X : Type 0} where
  -- none passes, and nor does the last
  pub none-push : (p : X → Bool) (xs : List X) (x : X) → list_any p xs ≡ false → p x ≡ false → list_any p (xs ++ x ∷ []) ≡ false
  none-push p xs x none last = list_any-append p xs (x ∷ []) ∙ (λ i. none i || (last i || false))

  -- all pass, and so does the last
  pub all-push : (p : X → Bool) (xs : List X) (x : X) → list_all p xs ≡ true → p x ≡ true → list_all p (xs ++ x ∷ []) ≡ true
  all-push p xs x all last = list_all-append p xs (x ∷ []) ∙ (λ i. all i && (last i && true))

  -- all differ, and the last is none of the others
  pub all_differ-push : (same : X → X → Bool) (xs : List X) (x : X) → all_differ same xs ≡ true
      → list_any (λ y. same y x) xs ≡ false → all_differ same (xs ++ x ∷ []) ≡ true
  all_differ-push same [] x all new = refl
  all_differ-push same (z ∷ zs) x all new =
      let before = and_parts (list_any (same z) zs) (all_differ same zs) all in
      let apart = or_parts (same z x) (list_any (λ y. same y x) zs) new in
      ap (λ s. not s && all_differ same (zs ++ x ∷ [])) (list_any-append (same z) zs (x ∷ []))
      ∙ joined (list_any (same z) zs) (same z x) (all_differ same (zs ++ x ∷ [])) before.0 apart.0 (all_differ-push same zs x before.1 apart.1)
