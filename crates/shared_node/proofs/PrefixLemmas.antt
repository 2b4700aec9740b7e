-- Prefixes of one list.
use Rattle.std.proofs.Common.{◌≡◌, ◌≤◌, ◌+◌, List, [], ◌∷◌, ◌++◌, length, drop, refl, ap, sym, ◌∙◌, arith, append_assoc, length-append}
use Rattle.std.proofs.lemmas.List.{append-nil, drop_at, drop-append-le}
use mathlib.Core.List.{IsPrefix, IsSuffix}

pub prefix_self : {A : Type 0} (xs : List A) → IsPrefix xs xs
prefix_self xs = ([], append-nil xs)

pub prefix_nil : {A : Type 0} (xs : List A) → IsPrefix [] xs
prefix_nil xs = (xs, refl)

pub prefix_trans : {A : Type 0} (xs ys zs : List A) → IsPrefix xs ys → IsPrefix ys zs → IsPrefix xs zs
prefix_trans xs ys zs p q = (p.0 ++ q.0, sym (append_assoc xs p.0 q.0) ∙ (ap (λ w. w ++ q.0) p.1 ∙ q.1))

pub prefix_append : {A : Type 0} (xs ys zs : List A) → IsPrefix xs ys → IsPrefix xs (ys ++ zs)
prefix_append xs ys zs p = prefix_trans xs ys (ys ++ zs) p (zs, refl)

-- a prefix as long as the whole is the whole
pub prefix_whole : {A : Type 0} (xs ys : List A) → IsPrefix xs ys → length ys ≤ length xs → xs ≡ ys
prefix_whole [] [] p le = refl
prefix_whole [] (y ∷ ys) p le = absurd (omega arith)
prefix_whole (x ∷ xs) [] p le = absurd (cc (p.1))
prefix_whole (x ∷ xs) (y ∷ ys) p le =
    let rest = prefix_whole xs ys (p.0, cc (p.1)) (omega arith) in cc (p.1, rest)

-- of two prefixes of one list the shorter begins the longer
pub prefix_shorter : {A : Type 0} (xs ys zs : List A) → IsPrefix xs zs → IsPrefix ys zs → length xs ≤ length ys → IsPrefix xs ys
prefix_shorter [] ys zs p q le = (ys, refl)
prefix_shorter (x ∷ xs) [] zs p q le = absurd (omega arith)
prefix_shorter (x ∷ xs) (y ∷ ys) [] p q le = absurd (cc (p.1))
prefix_shorter (x ∷ xs) (y ∷ ys) (z ∷ zs) p q le =
    let heads : x ≡ y = cc (p.1, q.1) in
    let rest = prefix_shorter xs ys zs (p.0, cc (p.1)) (q.0, cc (q.1)) (omega arith) in
    (rest.0, cc (heads, rest.1))

-- two prefixes of one list that are as long are the same
pub prefix_same : {A : Type 0} (xs ys zs : List A) → IsPrefix xs zs → IsPrefix ys zs → length xs ≡ length ys → xs ≡ ys
prefix_same xs ys zs p q e = prefix_whole xs ys (prefix_shorter xs ys zs p q (omega arith)) (omega arith)

-- what has a prefix and one item more is that prefix and its last item
pub prefix_last : {A : Type 0} (xs ys : List A) (y : A) → IsPrefix xs ys → IsSuffix (y ∷ []) ys → length ys ≡ length xs + 1 → ys ≡ xs ++ y ∷ []
prefix_last xs ys y p s more =
    let same : xs ≡ s.0 = prefix_same xs s.0 ys p (y ∷ [], s.1) (omega (arith, ap length s.1, length-append s.0 (y ∷ []))) in
    sym s.1 ∙ ap (λ zs. zs ++ y ∷ []) (sym same)

pub prefix_rest : {A : Type 0} (xs ys : List A) → IsPrefix xs ys → xs ++ drop (length xs) ys ≡ ys
prefix_rest xs ys p =
    ap (λ zs. xs ++ drop (length xs) zs) (sym p.1) ∙ ap (λ zs. xs ++ zs) (drop_at xs p.0 (length xs) refl) ∙ p.1

pub prefix_rest-more : {A : Type 0} (xs ys zs : List A) → IsPrefix xs ys → drop (length xs) (ys ++ zs) ≡ drop (length xs) ys ++ zs
prefix_rest-more xs ys zs p = drop-append-le (length xs) ys zs (omega (arith, ap length p.1, length-append xs p.0))

pub rest_none : {A : Type 0} (xs : List A) → drop (length xs) xs ≡ []
rest_none xs = ap (drop (length xs)) (sym (append-nil xs)) ∙ drop_at xs [] (length xs) refl
