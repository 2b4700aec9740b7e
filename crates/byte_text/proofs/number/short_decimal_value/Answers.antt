use Rattle.std.proofs.Common.{◌≡◌, ℕ, zero, suc, ◌+◌, ◌-◌, ◌*◌, ◌^◌, ◌<◌, ◌≤◌, true, false, List, length, get_or, refl, sym, ap, ◌∙◌, subst, arith, add-one}
use Rattle.std.specs.Prelude.{nat_le}
use Rattle.std.specs.List.{list_all}
use Rattle.std.proofs.Math.Nat.{pow-suc}
use Rattle.std.proofs.lemmas.Bool.{true≢false, and_parts}
use Rattle.std.proofs.lemmas.Bool.Decides.{nat_tests}
use Rattle.std.proofs.lemmas.List.Folds.{list_all_at}
use Rattle.byte_text.specs.Number.{is_digit}
use Rattle.byte_text.proofs.NumberLemmas.{one_digit_more}
use Rattle.byte_text.proofs.number.short_decimal_value.Goals as goal

-- ---- powers of ten

next_ten : (i : ℕ) → 10 ^ (i + 1) ≡ 10 ^ i * 10
next_ten i = ap (λ k. 10 ^ k) (add-one i) ∙ pow-suc 10 i

tens_rise : (i k : ℕ) → 10 ^ i ≤ 10 ^ (i + k)
tens_rise i zero = (let e : 10 ^ (i + 0) ≡ 10 ^ i = ap (λ n. 10 ^ n) (let n : i + 0 ≡ i = omega arith in n) in omega (arith, e))
tens_rise i (suc k) =
    let e : i + suc k ≡ suc (i + k) = omega arith in
    let next : 10 ^ (i + suc k) ≡ 10 ^ (i + k) * 10 = ap (λ n. 10 ^ n) e ∙ pow-suc 10 (i + k) in
    let before = tens_rise i k in
    omega (arith, before, next)

few_fit : (i : ℕ) → i < 19 → 10 ^ (i + 1) ≤ 10000000000000000000
few_fit i l =
    let e : i + 1 + (18 - i) ≡ 19 = omega (arith, l) in
    subst (λ n. 10 ^ (i + 1) ≤ n) (ap (λ n. 10 ^ n) e) (tens_rise (i + 1) (18 - i))

-- ---- digits

digit_fits : (b : ℕ) → is_digit b ≡ true → b - 48 ≤ 9
digit_fits b h = let most : nat_le b 57 ≡ true = (and_parts (nat_le 48 b) (nat_le b 57) h).1 in let l : b ≤ 57 = grind (arith, nat_tests) in omega (arith, l)

below_ten : (text : List ℕ) (i : ℕ) → list_all is_digit text ≡ true → i < length text → get_or text i 0 - 48 ≤ 9
below_ten text i all l =
    elim (is_digit (get_or text i 0)) as (λ t. is_digit (get_or text i 0) ≡ t → get_or text i 0 - 48 ≤ 9) [
      | true ↦ λ e. digit_fits (get_or text i 0) e
      | false ↦ λ e. absurd (true≢false (sym all ∙ list_all_at is_digit text i 0 l e))
    ] refl

-- a digit more makes a number that has one more
grows : (text : List ℕ) (i n : ℕ) → list_all is_digit text ≡ true → i < length text → n < 10 ^ i → n * 10 + (get_or text i 0 - 48) < 10 ^ (i + 1)
grows text i n all l h = let d = below_ten text i all l in let next = next_ten i in omega (arith, d, next, h)

pub overflow_mul-n : goal.overflow_mul-n
overflow_mul-n c =
    let i = c.digits.b-index in
    let grown = grows c.args.text.now i c.digits.n c.requires.digits c.digits-test.true c.digits.invariant.0 in
    let few = c.requires.few in
    let test = c.digits-test.true in
    let fit = few_fit i (omega (arith, few, test)) in
    omega (arith, grown, fit)

pub overflow_add-n : goal.overflow_add-n
overflow_add-n c =
    let i = c.digits.b-index in
    let grown = grows c.args.text.now i c.digits.n c.requires.digits c.digits-test.true c.digits.invariant.0 in
    let few = c.requires.few in
    let test = c.digits-test.true in
    let fit = few_fit i (omega (arith, few, test)) in
    omega (arith, grown, fit)

pub digits-preserved : goal.digits-preserved
digits-preserved c = (
  grows c.args.text.now c.digits.b-index c.digits.n c.requires.digits c.digits-test.true c.digits.invariant.0,
  one_digit_more c.args.text.now c.digits.b-index 0 c.digits.n c.digits-test.true c.digits.invariant.1 _ refl,
)
