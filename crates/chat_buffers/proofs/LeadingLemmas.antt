-- Lists in which each value that passes a test comes before each that doesn't.
use Rattle.std.proofs.Common.{◌≡◌, refl, sym, ◌∙◌, ap, subst, suc, ◌+◌, Bool, true, cond, List, [], ◌∷◌, take, ⊎_elim, inl, inr, arith}
use Rattle.std.specs.declared.cmp.Ordering.{Ordering}
use Rattle.std.specs.declared.cmp.Ordering.TheVariants.{Less}
use Rattle.std.specs.List.{prefix_len}
use Rattle.std.specs.List.Sorted.{IsStrictlySortedBy}
use Rattle.chat_history.specs.Choice.{Among}
use Rattle.chat_history.proofs.CallerLemmas.{member}

-- where a value passes, so does each before it
abbrev pub IsLeading : {A : Type 0} → (A → Bool) → List A → Type 0
IsLeading p [] = Unit {0}
IsLeading {A} p (x ∷ xs) = ((y : A) → Among y xs → p y ≡ true → p x ≡ true) × IsLeading p xs

-- it is so where a value before one that passes does
pub leading_sorted : {A : Type 0} (R : A → A → Ordering) (p : A → Bool) (xs : List A) → IsStrictlySortedBy R xs → ((x y : A) → Among x xs → R x y ≡ Less → p y ≡ true → p x ≡ true) → IsLeading p xs
unfolding IsStrictlySortedBy
leading_sorted R p [] s near = tt
leading_sorted R p (x ∷ xs) s near =
    (λ y m. near x y (inl refl) (member (λ z. R x z ≡ Less) xs y s.0 m), leading_sorted R p xs s.1 (λ z y m. near z y (inr m)))

-- whatever passes is taken by a walk that ends at the first that doesn't
pub leading_taken : {A : Type 0} (p : A → Bool) (xs : List A) → IsLeading p xs → (x : A) → Among x xs → p x ≡ true → Among x (take (prefix_len p xs) xs)
leading_taken p [] lead x m t = absurd m
leading_taken p (y ∷ ys) lead x m t =
    let first : p y ≡ true = ⊎_elim (λ e. ap p e ∙ t) (λ a. lead.0 x a t) m in
    let len : prefix_len p (y ∷ ys) ≡ suc (prefix_len p ys) = ap (λ b. cond b (1 + prefix_len p ys) 0) first ∙ omega arith in
    subst (λ n. Among x (take n (y ∷ ys))) (sym len)
    (⊎_elim (λ e. inl e) (λ a. inr (leading_taken p ys lead.1 x a t)) m)
