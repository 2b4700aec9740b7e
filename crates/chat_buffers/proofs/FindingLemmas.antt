-- Keys that are found one by one, and entries that are found by their keys.
use Rattle.std.proofs.Common.{◌≡◌, ◌∙◌, Bool, true, false, cond, ◌||◌, Option, Some, None, is_some, List, [], ◌∷◌, refl, sym, ap, subst}
use Rattle.std.specs.Borrow.{Bor}
use Rattle.std.specs.Cmp.{IsTotalOrder, Equal-is}
use Rattle.std.specs.declared.cmp.Ordering.{Ordering}
use Rattle.std.specs.declared.cmp.Ordering.TheVariants.{Equal}
use Rattle.std.specs.List.{find, list_any}
use Rattle.std.specs.Map.{lookup}
use Rattle.std.specs.Map.Iter.{deref}
use Rattle.std.specs.BTreeMap.{is_at}
use Rattle.std.specs.Option.{IfSome, option_map}
use Rattle.std.specs.Ordering.{eq_by_cmp, is_eq}
use Rattle.std.proofs.lemmas.Cmp.{tied_itself}
use Rattle.std.proofs.lemmas.Map.Made.{IfSome-find_same}
use Rattle.ordered_maps.specs.MapView.{get}

-- two tests are one where each says what the other says
both : (t u : Bool) → (t ≡ true → u ≡ true) → (u ≡ true → t ≡ true) → t ≡ u
both true u f g = sym (f refl)
both false true f g = g refl
both false false f g = refl

none_of : {A : Type 0} (o : Option A) → is_some o ≡ false → o ≡ None
none_of None e = refl
none_of (Some x) e = absurd (cc)

none_found : {A : Type 0} (test : A → Bool) (xs : List A) → find test xs ≡ None → list_any test xs ≡ false
none_found test [] e = refl
none_found test (x ∷ xs) e =
    elim (test x) as (λ b. cond b (Some x) (find test xs) ≡ None → (b || list_any test xs) ≡ false) [
      | true ↦ λ h. absurd (cc)
      | false ↦ λ h. none_found test xs h
    ] e

module _ {K : Type 0} {R : K → K → Ordering} (o : IsTotalOrder R) (exact : (x y : K) → R x y ≡ Equal → x ≡ y) where
  same_itself : (x y : K) → x ≡ y → eq_by_cmp R x y ≡ true
  same_itself x y same = subst (λ z. eq_by_cmp R x z ≡ true) same (ap is_eq (tied_itself o x))

  is_same : (x y : K) → eq_by_cmp R x y ≡ true → x ≡ y
  is_same x y e = exact x y ((Equal-is (R x y)).0 e)

  -- what tells when two keys are the same is the test by their order
  pub is_test : (t : Bool) (x y : K) → (t ≡ true → x ≡ y) → (x ≡ y → t ≡ true) → t ≡ eq_by_cmp R x y
  is_test t x y f g = both t (eq_by_cmp R x y) (λ e. same_itself x y (f e)) (λ e. g (is_same x y e))

  -- what is found is the key that was sought
  pub is_sought : (r : Option (Bor K)) (q : K) (ks : List K) → option_map deref r ≡ find (eq_by_cmp R q) ks → IfSome r (λ k. k.now ≡ q)
  is_sought None q ks e = tt
  is_sought (Some k) q ks e = subst (λ f. IfSome f (λ k. k ≡ q)) (sym e) (IfSome-find_same (λ a b. (is_same a b, same_itself a b)) q ks)

  -- where nothing is found, the map has nothing there
  pub is_absent : {X : Type 0} (r : Option (Bor K)) (q : K) (ks : List K) (held : Option X) → option_map deref r ≡ find (eq_by_cmp R q) ks
      → is_some held ≡ list_any (eq_by_cmp R q) ks → r ≡ None → held ≡ None
  is_absent r q ks held e has none = none_of held (has ∙ none_found (eq_by_cmp R q) ks (sym e ∙ ap (option_map deref) none))

  module _ {X : Type 0} (q : K) where
    abbrev pub at_key : K × X → Bool
    at_key e = eq_by_cmp R q e.0

    entry_found : (es : List (K × X)) → IfSome (find at_key es) (λ e. e.0 ≡ q)
    entry_found [] = tt
    entry_found (e ∷ es) =
        elim (at_key e) as (λ b. at_key e ≡ b → IfSome (cond b (Some e) (find at_key es)) (λ x. x.0 ≡ q)) [
          | true ↦ λ t. sym (is_same q e.0 t)
          | false ↦ λ _. entry_found es
        ] refl

    value_found : (es : List (K × X)) → get R es q ≡ option_map (λ e. e.1) (find at_key es)
    value_found [] = refl
    value_found (e ∷ es) =
        elim (at_key e) as (λ b. cond b (Some e.1) (lookup (is_at (R q)) es) ≡ option_map (λ x. x.1) (cond b (Some e) (find at_key es))) [
          | true ↦ refl
          | false ↦ value_found es
        ]

    -- the entry that is found is at the key that was sought
    pub is_at_sought : (e : K × X) (es : List (K × X)) → Some e ≡ find at_key es → e.0 ≡ q
    is_at_sought e es found = subst (λ o. IfSome o (λ x. x.0 ≡ q)) (sym found) (entry_found es)

    -- where none is found, nothing is at that key
    pub none_at : (es : List (K × X)) → None ≡ find at_key es → get R es q ≡ None
    none_at es none = value_found es ∙ ap (option_map (λ x. x.1)) (sym none)
