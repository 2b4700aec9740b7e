-- In how many places two texts differ.
use Rattle.std.proofs.Common.{◌≡◌, ◌∙◌, ℕ, suc, Bool, true, false, ◌+◌, ◌<◌, ◌==◌, min, cond, not, take, get_or, List, [], ◌∷◌, length, refl, sym, ap, subst, arith}
use Rattle.std.proofs.lemmas.Bool.Decides.{nat_tests}
use Rattle.std.proofs.lemmas.List.Sums.{sum_by-cons, sum_by_more}
use Rattle.std.proofs.lemmas.Slice.Zip.{length-zip, get_or-zip}
use Rattle.std.proofs.Math.Seq.{take-length}
use Rattle.std.specs.List.{count_by, zip}
use Rattle.std.specs.Int.{from_bool}
use Rattle.cluster_directory.specs.Secret.{differs, differing}

-- what a place adds
abbrev one : Bool → ℕ
one other = cond other 1 0

one_is : (other : Bool) → one other ≡ from_bool other
one_is true = refl
one_is false = refl

-- one place more
pub place_more : (secret given : List ℕ) (i : ℕ) → i < length secret → i < length given
    → count_by differs (take (i + 1) (zip secret given)) ≡ count_by differs (take i (zip secret given)) + from_bool (not (get_or secret i 0 == get_or given i 0))
place_more secret given i h k =
    let n = length-zip secret given in
    sum_by_more (λ p. one (differs p)) (zip secret given) i (0, 0) (grind (arith, nat_tests))
    ∙ ap (λ p. count_by differs (take i (zip secret given)) + one (differs p)) (get_or-zip secret given i (0, 0) h k)
    ∙ ap (λ n. count_by differs (take i (zip secret given)) + n) (one_is (not (get_or secret i 0 == get_or given i 0)))

-- all places that both texts have
pub all_places : (secret given : List ℕ) (i : ℕ) → i ≡ min (length secret) (length given) → take i (zip secret given) ≡ zip secret given
all_places secret given i h =
    ap (λ n. take n (zip secret given)) (h ∙ sym (length-zip secret given)) ∙ take-length (zip secret given)

same_byte : (x y : ℕ) → one (not (x == y)) ≡ 0 → x ≡ y
same_byte x y h = grind (arith, nat_tests)

one_byte : (x : ℕ) → one (not (x == x)) ≡ 0
one_byte x = grind (arith, nat_tests)

-- a first place, and the others
step : (x y : ℕ) (secret given : List ℕ) → differing (x ∷ secret) (y ∷ given) ≡ one (not (x == y)) + differing secret given
step x y secret given =
    let c : count_by differs (zip (x ∷ secret) (y ∷ given)) ≡ one (not (x == y)) + count_by differs (zip secret given) = sum_by-cons (λ p. one (differs p)) (x, y) (zip secret given) in
    let own : length (x ∷ secret) ≡ suc (length secret) = refl in
    let other : length (y ∷ given) ≡ suc (length given) = refl in
    omega (arith, c, own, other)

-- texts that differ in no place are the same
pub same_from_none : (secret given : List ℕ) → differing secret given ≡ 0 → secret ≡ given
same_from_none [] [] h = refl
same_from_none [] (y ∷ given) h = absurd (omega (arith, h))
same_from_none (x ∷ secret) [] h = absurd (omega (arith, h))
same_from_none (x ∷ secret) (y ∷ given) h =
    let sum : one (not (x == y)) + differing secret given ≡ 0 = sym (step x y secret given) ∙ h in
    let byte : one (not (x == y)) ≡ 0 = omega (arith, sum) in
    let rest : differing secret given ≡ 0 = omega (arith, sum) in
    λ i. same_byte x y byte i ∷ same_from_none secret given rest i

none_of_itself : (secret : List ℕ) → differing secret secret ≡ 0
none_of_itself [] = refl
none_of_itself (x ∷ secret) =
    step x x secret secret ∙ (λ i. one_byte x i + none_of_itself secret i)

pub none_from_same : (secret given : List ℕ) → secret ≡ given → differing secret given ≡ 0
none_from_same secret given same = subst (λ text. differing secret text ≡ 0) same (none_of_itself secret)
