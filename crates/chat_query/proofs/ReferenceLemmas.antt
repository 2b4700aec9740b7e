-- References of batches may stand in a line.
use Rattle.std.proofs.Common.{ℕ, ◌+◌, ◌%◌, ◌^◌, ◌≤◌, ◌<◌, codes, List, [], ◌∷◌, ◌++◌, refl, arith, length-append, lit<}
use Rattle.std.specs.List.{AllByRecursion}
use Rattle.std.specs.Fmt.{decimal}
use Rattle.std.proofs.lemmas.Fmt.{decimal_by_steps, length-decimal-le}
use Rattle.irc_line.proofs.CallerLemmas.{good_append, no_space_append, no_space_from, no_space_above, no_bad_above}
use Rattle.chat_query.specs.Standing.{IsReference}

numeral_bytes : (n : ℕ) → n < 2 ^ 64 → AllByRecursion (λ b. 33 ≤ b) (decimal n)
numeral_bytes n h = decimal_by_steps (λ _ ds. AllByRecursion (λ b. 33 ≤ b) ds) (λ k small. (omega arith, tt)) (λ k ds big above. push ds (48 + k % 10) above (omega arith)) n h where
  push : (ds : List ℕ) (d : ℕ) → AllByRecursion (λ b. 33 ≤ b) ds → 33 ≤ d → AllByRecursion (λ b. 33 ≤ b) (ds ++ d ∷ [])
  push [] d all low = (low, tt)
  push (b ∷ ds) d all low = (all.0, push ds d all.1 low)

-- `r` and a number of 32 bits
pub reference_stands : (n : ℕ) → n ≤ 4294967295 → IsReference (codes "r" ++ decimal n)
reference_stands n h =
    let small : n < 2 ^ 64 = omega arith in
    let above = numeral_bytes n small in
    let short = length-decimal-le 10 n (lit< tt) (omega arith) small in (
      no_space_append (codes "r") (decimal n) (no_space_from (codes "r") refl) (no_space_above (decimal n) above),
      good_append (codes "r") (decimal n) refl (no_bad_above (decimal n) above),
      omega (arith, length-append (codes "r") (decimal n)),
    )
