use Rattle.std.proofs.Common.{◌≡◌, ℕ, ◌+◌, ◌-◌, ◌*◌, ◌<◌, ◌≤◌, ◌^◌, List, [], ◌∷◌, length, get_or, take, drop, refl, sym, ap, ◌∙◌, subst, arith, take-append-drop}
use Rattle.std.specs.Prelude.{SomeIff}
use Rattle.std.proofs.lemmas.List.{take_all}
use Rattle.byte_text.specs.Number.{value, value_from}
use Rattle.byte_text.proofs.NumberLemmas.{value_from-append, one_digit_more}
use Rattle.byte_text.proofs.number.decimal_value.Goals as goal

at_least : (n : ℕ) (xs : List ℕ) → n ≤ value_from n xs
at_least n [] = omega arith
at_least n (x ∷ xs) = let more = at_least (n * 10 + (x - 48)) xs in omega (arith, more)

module _ (text : List ℕ) (i d n : ℕ) (h : i < length text) (e : n ≡ value (take i text)) where
  -- the value with one digit more is at most that of all digits
  more_fits : (digit most : ℕ) → digit ≡ get_or text i d - 48 → value text < most → n * 10 + digit < most
  more_fits digit most g l =
      let part = take (i + 1) text in
      let more = at_least (value part) (drop (i + 1) text) in
      let all : value text ≡ value_from (value part) (drop (i + 1) text) = ap value (sym (take-append-drop (i + 1) text)) ∙ value_from-append 0 part (drop (i + 1) text) in
      omega (arith, one_digit_more text i d n h e digit g, more, all, l)

pub returns-in_err-checked_mul : goal.returns-in_err-checked_mul
returns-in_err-checked_mul c =
    let text = c.args.text.now in
    subst (λ r. SomeIff r (value text < 2 ^ 64) (value text)) (sym c.from_residual.ensures)
    (λ l. c.in_err-checked_mul.ensures
    (let fits = more_fits text c.digits.b-index 0 c.digits.n c.digits-test.true c.digits.invariant.1 _ (2 ^ 64) refl l in omega (arith, fits)))

pub returns-in_err-n : goal.returns-in_err-n
returns-in_err-n c =
    let text = c.args.text.now in
    subst (λ r. SomeIff r (value text < 2 ^ 64) (value text)) (sym c.from_residual-in_err-n.ensures)
    (λ l. c.in_err-n.ensures
    (let fits = more_fits text c.digits.b-index 0 c.digits.n c.digits-test.true c.digits.invariant.1 c.digit_value.result (2 ^ 64) c.digit_value.ensures l in
    let product = c.in_ok-checked_mul.ensures.1 in
    omega (arith, fits, product)))

pub digits-preserved : goal.digits-preserved
digits-preserved c =
    let next = one_digit_more c.args.text.now c.digits.b-index 0 c.digits.n c.digits-test.true c.digits.invariant.1 c.digit_value.result c.digit_value.ensures in
    let sum = c.in_ok-n.ensures in
    let product = c.in_ok-checked_mul.ensures in
    (omega (arith, sum.0, sum.1), omega (arith, sum.1, product.1, next))

pub returns : goal.returns
returns c =
    let whole : c.digits.n ≡ value c.args.text.now = c.digits.invariant.1 ∙ ap value (take_all c.digits.b-index c.args.text.now c.digits-test.false) in
    (omega (arith, whole, c.digits.invariant.0), whole)
