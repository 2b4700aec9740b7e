-- The place of a name among others, and of a peer among the terms.
use Rattle.std.proofs.Common.{◌≡◌, ℕ, zero, suc, ◌<◌, Bool, true, false, cond, Option, Some, None, List, [], ◌∷◌, map, length, get_or, sym, ◌∙◌, ap, refl, subst, arith}
use Rattle.std.proofs.lemmas.Bool.{false≢true}
use Rattle.std.proofs.lemmas.Bool.Decides.{nat_tests}
use Rattle.std.proofs.lemmas.List.{length-map}
use Rattle.std.proofs.lemmas.List.Quantifiers.{position-Some}
use Rattle.std.proofs.lemmas.List.Recursion.{is_position_or_len}
use Rattle.std.specs.List.{position_or_len}
use Rattle.std.specs.Prelude.{Contains, position, nat_lt, ◌+◌}
use Rattle.cluster_directory.specs.Names.{same_name}
use Rattle.cluster_directory.specs.Terms.{Terms, names_of, index_of}
use Rattle.cluster_directory.specs.declared.terms.PeerTerms.{PeerTerms}
use Rattle.cluster_directory.proofs.NameLemmas.{same_name_is, same_name_itself}

pub same_if : (names : List (List ℕ)) (name : List ℕ) (i : ℕ) → position (λ other. same_name name other) names ≡ Some i → (i < length names) × (get_or names i name ≡ name)
same_if names name i e =
    let h = position-Some (λ other. same_name name other) names i name e in
    (h.0, sym (same_name_is name (get_or names i name) h.1))

abbrev first_at : {A : Type 0} → (A → Bool) → List A → ℕ
first_at p [] = 0
first_at p (n ∷ ns) = cond (p n) 0 (1 + first_at p ns)

first_within : (p : List ℕ → Bool) (names : List (List ℕ)) (name : List ℕ) (k : ℕ) → k < length names → get_or names k name ≡ name → p name ≡ true → first_at p names < length names
first_within p [] name k l e h = absurd (omega (arith, l))
first_within p (n ∷ ns) name zero l e h = ap_less (p n) (first_at p ns) (length ns) (ap p e ∙ h)
  where
    ap_less : (b : Bool) (m k : ℕ) → b ≡ true → cond b 0 (1 + m) < suc k
    ap_less true m k e = omega arith
    ap_less false m k e = absurd (false≢true e)
first_within p (n ∷ ns) name (suc k) l e h =
    let rest = first_within p ns name k (omega (arith, l)) e h in
    elim (p n) as (λ b. cond b 0 (1 + first_at p ns) < suc (length ns)) [ true ↦ omega arith | false ↦ omega (arith, rest) ]

pub there : (names : List (List ℕ)) (name : List ℕ) → Contains names name → (i : ℕ) × (position (λ other. same_name name other) names ≡ Some i)
there names name h =
    let p : List ℕ → Bool = λ other. same_name name other in
    let first = position_or_len p names in
    let l : first < length names = subst (λ n. n < length names) (is_position_or_len (first_at p) p refl (λ x xs. refl) names) (first_within p names name h.0 h.1 h.2 (same_name_itself name)) in
    let within : nat_lt first (length names) ≡ true = grind (arith, nat_tests) in
    (first, ap (λ b. cond b (Some first) None) within)

-- the place of a value, among values that are made of others
position_map : {A B : Type 0} (f : A → B) (p : B → Bool) (xs : List A) → position (λ x. p (f x)) xs ≡ position p (map f xs)
position_map f p xs =
    let first = sym (is_position_or_len (λ ys. first_at p (map f ys)) (λ x. p (f x)) refl (λ x ys. refl) xs)
    ∙ is_position_or_len (first_at p) p refl (λ x ys. refl) (map f xs) in
    let size = sym (length-map xs f) in
    λ i. cond (nat_lt (first i) (size i)) (Some (first i)) None

pub index_of_is : (t : Terms) (name : List ℕ) (o : Option ℕ) → same_name name t.me.node ≡ false
    → o ≡ position (λ (peer : PeerTerms). same_name name peer.name) t.peers → o ≡ index_of t name
index_of_is t name o other e =
    e ∙ position_map (λ (peer : PeerTerms). peer.name) (λ n. same_name name n) t.peers
    ∙ ap (λ b. cond b None (position (λ n. same_name name n) (names_of t))) (sym other)
