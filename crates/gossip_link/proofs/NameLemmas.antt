-- Tests of names and lives, a function that is changed at one name, and beginnings of lists.
use Rattle.std.proofs.Common.{◌≡◌, ℕ, ◌≤◌, true, false, cond, Some, List, [], ◌∷◌, ◌++◌, length, refl, sym, ◌∙◌, ap, subst, arith, append_assoc}
use Rattle.std.proofs.lemmas.Bool.Decides.{nat_tests}
use Rattle.std.proofs.lemmas.Option.{slice_get_within, get_or_from_slice_get}
use Rattle.std.specs.List.{All}
use Rattle.std.specs.Prelude.{◌==◌, slice_get}
use Rattle.cluster_directory.proofs.CallerLemmas.{same_name_is, same_name_itself, both_true}
use Rattle.cluster_directory.specs.Life.{Life, same_life}
use Rattle.cluster_directory.specs.Names.{same_name}
use Rattle.gossip_link.specs.Cluster.{with_value}

pub equal_is : (a b : ℕ) → (a == b) ≡ true → a ≡ b
equal_is a b e = grind (arith, nat_tests)

pub same_life_is : (a b : Life) → same_life a b ≡ true → a ≡ b
same_life_is a b e =
    let h = both_true (same_name a.node b.node) (a.incarnation == b.incarnation) e in
    let p = same_name_is a.node b.node h.0 in
    let q = equal_is a.incarnation b.incarnation h.1 in
    λ i. record { node = p i; incarnation = q i }

-- ---- a function that is changed at one name

pub changed_here : {A : Type 0} (f : List ℕ → A) (name : List ℕ) (x : A) → with_value f name x name ≡ x
changed_here f name x = ap (λ b. cond b x (f name)) (same_name_itself name)

-- what holds of the new value, and of each old one, holds of each
pub at_each : {A : Type 0} (f : List ℕ → A) (name : List ℕ) (x : A) (P : List ℕ → A → Type 0) → P name x → ((other : List ℕ) → P other (f other)) → (other : List ℕ) → P other (with_value f name x other)
at_each f name x P here there other =
    elim (same_name name other) as (λ b. same_name name other ≡ b → P other (cond b x (f other))) [
      | true ↦ λ e. subst (λ o. P o x) (same_name_is name other e) here
      | false ↦ λ _. there other
    ] refl

-- ---- beginnings

-- the first list is a beginning of the second
abbrev pub Begins : {A : Type 0} → List A → List A → Type 0
Begins {A} xs ys = (rest : List A) × (xs ++ rest ≡ ys)

pub Begins-more : {A : Type 0} (xs ys more zs : List A) → Begins xs ys → zs ≡ ys ++ more → Begins xs zs
Begins-more xs ys more zs h e = (h.0 ++ more, sym (append_assoc xs h.0 more) ∙ ap (λ l. l ++ more) h.1 ∙ sym e)

-- of two beginnings of one list, the one that is no longer begins the other
pub shorter_begins : {A : Type 0} (xs ys us vs : List A) → xs ++ us ≡ ys ++ vs → length xs ≤ length ys → Begins xs ys
shorter_begins [] ys us vs e l = (ys, refl)
shorter_begins (x ∷ xs) [] us vs e l = absurd (omega (arith, l))
shorter_begins (x ∷ xs) (y ∷ ys) us vs e l =
    let first : x ≡ y = cc e in
    let rest : xs ++ us ≡ ys ++ vs = cc e in
    let h = shorter_begins xs ys us vs rest (omega (arith, l)) in
    (h.0, λ i. first i ∷ h.1 i)

-- ---- what is got from a list

pub All-got : {A : Type 0} (P : A → Type 0) (xs : List A) (i : ℕ) (x : A) → All P xs → slice_get xs i ≡ Some x → P x
All-got P xs i x h e = subst P (get_or_from_slice_get xs i x x e) (h i x (slice_get_within xs i x e))
