-- A number is one word, and a moment has one spelling, its decimal digits.
use Rattle.std.proofs.Common.{◌≡◌, ℕ, ◌^◌, ◌≤◌, ◌<◌, true, false, not, Some, List, refl, arith}
use Rattle.std.specs.Prelude.{decimal}
use Rattle.std.proofs.lemmas.Bool.Decides.{nat_tests}
use Rattle.std.proofs.lemmas.Fmt.{decimal_nonempty}
use Rattle.irc_time.specs.Time.{greatest}
use Rattle.byte_text.specs.Number.{is_digit}
use Rattle.byte_text.proofs.CallerLemmas.{decimal_digits, number_read, number_spelled}
use Rattle.change_lines.specs.Words.{has_space, is_filled, is_last_word}
use Rattle.change_lines.specs.Moment.{moment_of}
use Rattle.change_lines.proofs.TestLemmas.{both, not_true, no_space_in_all}

module _ (n : ℕ) (fits : n < 2 ^ 64) where
  pub decimal_filled : is_filled (decimal n) ≡ true
  decimal_filled = let l = decimal_nonempty n fits in grind (arith, nat_tests)

  pub decimal_no_space : has_space (decimal n) ≡ false
  decimal_no_space = no_space_in_all is_digit refl (decimal n) (decimal_digits n fits)

  pub decimal_last : is_last_word (decimal n) ≡ true
  decimal_last = both (is_filled (decimal n)) (not (has_space (decimal n))) decimal_filled (not_true (has_space (decimal n)) decimal_no_space)

-- ---- moments

pub moment_fits : (t : ℕ) → t ≤ greatest → t < 2 ^ 64
moment_fits t h = omega (arith, h)

pub moment_read : (t : ℕ) → t ≤ greatest → moment_of (decimal t) ≡ Some t
moment_read t h = number_read t (moment_fits t h) greatest h

pub moment_is : (text : List ℕ) (t : ℕ) → moment_of text ≡ Some t → (t ≤ greatest) × (text ≡ decimal t)
moment_is text t h = number_spelled greatest t text (omega arith) h
