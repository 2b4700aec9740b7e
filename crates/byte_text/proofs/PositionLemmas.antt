-- A first place is a `position`.
use Rattle.std.proofs.Common.{◌≡◌, ℕ, zero, suc, ◌+◌, ◌<◌, ◌≤◌, Bool, true, false, not, cond, List, [], ◌∷◌, length, take, None, Some, Option, position, refl, sym, ap, ◌∙◌, arith}
use Rattle.std.specs.List.{position_or_len}
use Rattle.std.proofs.lemmas.List.Sums.{position_or_len_is}
use Rattle.std.proofs.lemmas.Bool.{false_from_ne_true, lt-ltb, le-ltb, cond-true, cond-false}
use Rattle.std.proofs.lemmas.List.{length-take-le}
use Rattle.memchr.specs.Find.{IsFirstByte}

pub first_is_position : (test : ℕ → Bool) (bytes : List ℕ) (r : Option ℕ) → IsFirstByte test bytes r → r ≡ position test bytes
first_is_position test bytes None h =
    let all : position_or_len test bytes ≡ length bytes =
    position_or_len_is test bytes (length bytes) 0 (omega arith) (λ k below. false_from_ne_true _ (h k (omega arith) below)) (λ past. absurd (omega arith)) in
    sym (cond-false _ _ _ (le-ltb (position_or_len test bytes) (length bytes) (omega arith)))
first_is_position test bytes (Some at) h =
    let first = h.0 in
    let within = first.high in
    let is : position_or_len test bytes ≡ at =
    position_or_len_is test bytes at 0 (omega arith) (λ k below. false_from_ne_true _ (first.before k (omega arith) below)) (λ _. h.1) in
    sym (cond-true _ _ _ (lt-ltb (position_or_len test bytes) (length bytes) (omega arith)) ∙ ap Some is)

-- ---- a search among the first bytes

near_place : (test : ℕ → Bool) (n : ℕ) (bytes : List ℕ) → position_or_len test (take n bytes) < length (take n bytes) → position_or_len test (take n bytes) ≡ position_or_len test bytes
near_place test zero bytes l = absurd (omega (arith, l))
near_place test (suc n) [] l = refl
near_place test (suc n) (b ∷ bytes) l =
    elim (test b) as (λ s. cond (not s) (1 + position_or_len test (take n bytes)) 0 < suc (length (take n bytes)) → cond (not s) (1 + position_or_len test (take n bytes)) 0 ≡ cond (not s) (1 + position_or_len test bytes) 0) [
      | true ↦ λ _. refl
      | false ↦ λ h. ap (λ k. 1 + k) (near_place test n bytes (omega (arith, h)))
    ] l

-- what is found among the first bytes is found
pub near_found : (test : ℕ → Bool) (n : ℕ) (bytes : List ℕ) (at : ℕ) → at ≡ position_or_len test (take n bytes) → at < n → n ≤ length bytes → Some at ≡ position test bytes
near_found test n bytes at e before room =
    let near : length (take n bytes) ≡ n = length-take-le n bytes room in
    let same = near_place test n bytes (omega (arith, e, before, near)) in
    let within : position_or_len test bytes < length bytes = omega (arith, e, same, before, room) in
    ap Some (e ∙ same) ∙ sym (cond-true _ _ _ (lt-ltb (position_or_len test bytes) (length bytes) within))
