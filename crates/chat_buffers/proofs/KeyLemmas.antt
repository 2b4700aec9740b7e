-- The number that the first bytes of an id make.
use Rattle.std.proofs.Common.{◌≡◌, ℕ, ◌≤◌, ◌+◌, ◌-◌, ◌*◌, ◌^◌, zero, suc, List, [], ◌∷◌, ◌++◌, min, length, take, drop, replicate, refl, sym, ap, ◌∙◌, arith}
use Rattle.std.specs.Int.{from_be_bytes, w64}
use Rattle.std.proofs.Math.Nat.{mul-le-mul_right, min-eq_left}
use Rattle.chat_change.specs.ShortText.{AreBytes, leading as number}
use Rattle.chat_buffers.specs.IdKey.{leading}
use Rattle.chat_buffers.specs.Prefixes.{within}

power : (k : ℕ) → 256 ^ suc k ≡ 256 ^ k * 256
power k = omega arith

-- ---- the number of bytes that lie in an array

rest_are : (x : ℕ) (xs : List ℕ) → AreBytes (x ∷ xs) → AreBytes xs
rest_are x xs b i = b (suc i)

-- no sum of bytes comes to the limit
plain : (k : ℕ) (xs : List ℕ) → AreBytes xs → leading k xs ≡ number k xs
plain zero xs b = refl
plain (suc k) [] b = refl
plain (suc k) (x ∷ xs) b =
    let up : x * 256 ^ k ≤ 255 * 256 ^ k = mul-le-mul_right (256 ^ k) (omega (arith, b 0)) in
    min-eq_left (omega (arith, power k, within k xs, up)) ∙ ap (λ r. x * 256 ^ k + r) (plain k xs (rest_are x xs b))

from_word : (xs : List ℕ) → 8 ≤ length xs → from_be_bytes w64 xs ≡ number 8 xs
from_word [] long = absurd (omega (arith, long))
from_word (a ∷ []) long = absurd (omega (arith, long))
from_word (a ∷ b ∷ []) long = absurd (omega (arith, long))
from_word (a ∷ b ∷ c ∷ []) long = absurd (omega (arith, long))
from_word (a ∷ b ∷ c ∷ d ∷ []) long = absurd (omega (arith, long))
from_word (a ∷ b ∷ c ∷ d ∷ e ∷ []) long = absurd (omega (arith, long))
from_word (a ∷ b ∷ c ∷ d ∷ e ∷ f ∷ []) long = absurd (omega (arith, long))
from_word (a ∷ b ∷ c ∷ d ∷ e ∷ f ∷ g ∷ []) long = absurd (omega (arith, long))
from_word (a ∷ b ∷ c ∷ d ∷ e ∷ f ∷ g ∷ h ∷ xs) long = omega arith

pub of_word : (xs : List ℕ) → 8 ≤ length xs → AreBytes xs → from_be_bytes w64 xs ≡ leading 8 xs
of_word xs long b = from_word xs long ∙ sym (plain 8 xs b)

pub whole : (k : ℕ) (xs : List ℕ) → leading k (take k xs) ≡ leading k xs
whole zero xs = refl
whole (suc k) [] = refl
whole (suc k) (x ∷ xs) = ap (λ r. min (x * 256 ^ k + r) (256 ^ suc k - 1)) (whole k xs)

nothing : (p : ℕ) → 0 * p + 0 ≡ 0
nothing p = omega arith

-- zeros after a text add nothing
zeros : (k n : ℕ) → leading k (replicate n 0) ≡ 0
zeros zero n = refl
zeros (suc k) zero = refl
zeros (suc k) (suc n) = ap (λ r. min (0 * 256 ^ k + r) (256 ^ suc k - 1)) (zeros k n) ∙ min-eq_left {n = 0 * 256 ^ k + 0} {m = 256 ^ suc k - 1} (omega arith) ∙ nothing (256 ^ k)

later_zeros : (j k n : ℕ) → leading k (drop j (replicate n 0)) ≡ 0
later_zeros zero k n = zeros k n
later_zeros (suc j) zero zero = refl
later_zeros (suc j) (suc k) zero = refl
later_zeros (suc j) k (suc n) = later_zeros j k n

pub padded : (k j n : ℕ) (xs : List ℕ) → leading k (xs ++ drop j (replicate n 0)) ≡ leading k xs
padded zero j n xs = refl
padded (suc k) j n [] = later_zeros j (suc k) n
padded (suc k) j n (x ∷ xs) = ap (λ r. min (x * 256 ^ k + r) (256 ^ suc k - 1)) (padded k j n xs)
