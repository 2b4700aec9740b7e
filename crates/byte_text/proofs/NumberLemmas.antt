-- A number has one spelling, its decimal digits.
use Rattle.std.proofs.Common.{◌≡◌, ℕ, zero, suc, ◌+◌, ◌-◌, ◌*◌, ◌^◌, ◌≤◌, ◌<◌, Bool, true, false, not, ◌&&◌, cond, Some, None, List, [], ◌∷◌, ◌++◌, length, get_or, take, refl, sym, ◌∙◌, ap, subst, arith, rules}
use Rattle.std.specs.Prelude.{◌==◌, nat_lt, nat_le, decimal}
use Rattle.std.specs.List.{list_all}
use Rattle.std.proofs.lemmas.Bool.{true≢false, cond-true, and_parts, and_from, and_right, not_from_false, not-true}
use Rattle.std.proofs.lemmas.Bool.Decides.{nat_tests}
use Rattle.std.proofs.lemmas.List.{take_more}
use Rattle.std.proofs.lemmas.Fmt.{decimal_digit, decimal_nonempty, first_decimal, digits_decimal, digits_value-decimal, decimal-digits_value}
use Rattle.std.proofs.lemmas.Str.Parse.{IsNumeralModel, numerals_by_fold}
use Rattle.byte_text.specs.Number.{is_digit, is_digits, has_leading_zero, value, value_from, number_to}

own : IsNumeralModel (λ ds. list_all is_digit ds ≡ true) (value_from 0)
own = numerals_by_fold (λ ds. list_all is_digit ds ≡ true) (search rules) value_from (search rules)

-- ---- digits by digit

pub value_from-append : (n : ℕ) (xs ys : List ℕ) → value_from n (xs ++ ys) ≡ value_from (value_from n xs) ys
value_from-append n [] ys = refl
value_from-append n (x ∷ xs) ys = value_from-append (n * 10 + (x - 48)) xs ys

-- the value with one digit more
pub one_digit_more : (text : List ℕ) (i d n : ℕ) → i < length text → n ≡ value (take i text) → (digit : ℕ) → digit ≡ get_or text i d - 48 → n * 10 + digit ≡ value (take (i + 1) text)
one_digit_more text i d n h e digit g =
    (λ j. e j * 10 + g j) ∙ sym (ap value (take_more text i d h) ∙ value_from-append 0 (take i text) (get_or text i d ∷ []))

-- ---- leading zeros

no_zero_first : (xs : List ℕ) → 48 < get_or xs 0 0 → has_leading_zero xs ≡ false
no_zero_first xs h =
    let not_zero : (get_or xs 0 0 == 48) ≡ false = grind (arith, nat_tests) in
    and_right (nat_lt 1 (length xs)) (get_or xs 0 0 == 48) not_zero

leading : (n : ℕ) → n < 2 ^ 64 → has_leading_zero (decimal n) ≡ false
leading zero h = ap has_leading_zero (decimal_digit 0 (omega arith))
leading (suc n) h = no_zero_first (decimal (suc n)) (first_decimal (suc n) (omega arith) h)

one_digit : (ds : List ℕ) → has_leading_zero ds ≡ false → get_or ds 0 0 ≡ 48 → 0 < length ds → length ds ≡ 1
one_digit ds h e l =
    let first : (get_or ds 0 0 == 48) ≡ true = grind (arith, nat_tests) in
    let short : nat_lt 1 (length ds) ≡ false = no_more (nat_lt 1 (length ds)) (get_or ds 0 0 == 48) h first in
    grind (arith, nat_tests)
  where
    no_more : (a z : Bool) → (a && z) ≡ false → z ≡ true → a ≡ false
    no_more true z p q = absurd (true≢false (sym q ∙ p))
    no_more false z p q = refl

-- ---- numbers

module _ (n : ℕ) (fits : n < 2 ^ 64) where
  pub decimal_digits : list_all is_digit (decimal n) ≡ true
  decimal_digits = digits_decimal own n fits

  are_digits : is_digits (decimal n) ≡ true
  are_digits =
      let l = decimal_nonempty n fits in
      and_from (nat_lt 0 (length (decimal n))) (list_all is_digit (decimal n)) (grind (arith, nat_tests)) decimal_digits

  -- what is written is read
  pub number_read : (most : ℕ) → n ≤ most → number_to most (decimal n) ≡ Some n
  unfolding number_to
  number_read most l =
      let v : value (decimal n) ≡ n = digits_value-decimal own n fits in
      let within : nat_le (value (decimal n)) most ≡ true = subst (λ m. nat_le m most ≡ true) (sym v) (grind (arith, nat_tests)) in
      let zero_free = not_from_false (has_leading_zero (decimal n)) (leading n fits) in
      let parts = and_from (is_digits (decimal n)) (not (has_leading_zero (decimal n))) are_digits zero_free in
      cond-true _ _ _ (and_from (is_digits (decimal n) && not (has_leading_zero (decimal n))) (nat_le (value (decimal n)) most) parts within)
      ∙ ap Some v

-- what is read is what is written
pub number_spelled : (most n : ℕ) (text : List ℕ) → most < 2 ^ 64 → number_to most text ≡ Some n → (n ≤ most) × (text ≡ decimal n)
unfolding number_to
number_spelled most n text small h =
    let Test : Bool = is_digits text && not (has_leading_zero text) && nat_le (value text) most in
    elim (Test) as (λ t. Test ≡ t → cond t (Some (value text)) None ≡ Some n → (n ≤ most) × (text ≡ decimal n)) [
      | true ↦ λ t h.
          let v : value text ≡ n = cc h in
          let all = and_parts (is_digits text && not (has_leading_zero text)) (nat_le (value text) most) t in
          let parts = and_parts (is_digits text) (not (has_leading_zero text)) all.0 in
          let digits = and_parts (nat_lt 0 (length text)) (list_all is_digit text) parts.0 in
          let within : nat_le (value text) most ≡ true = all.1 in
          let zero_free = not-true (has_leading_zero text) parts.1 in
          let filled : nat_lt 0 (length text) ≡ true = digits.0 in
          let some : 0 < length text = grind (arith, nat_tests) in
          let most_of : value text ≤ most = grind (arith, nat_tests) in
          let spelled = decimal-digits_value own text digits.1 some (λ e. one_digit text zero_free e some) (omega (arith, most_of, small)) in
          (subst (λ m. m ≤ most) v most_of, sym spelled ∙ ap decimal v)
      | false ↦ λ t h. cc h
    ] refl h
