use Rattle.std.proofs.Common.{◌≡◌, ℕ, ◌+◌, ◌-◌, ◌*◌, ◌<◌, List, length, get_or, take, min, refl, arith}
use Rattle.byte_text.specs.Number.{value}
use Rattle.byte_text.proofs.CallerLemmas.{one_digit_more}
use Rattle.chat_query.specs.Limit.{greatest_limit}
use Rattle.chat_query.proofs.limit.decimal_value.Goals as goal

one_more : (text : List ℕ) (i d most n m k digit : ℕ) → i < length text → n ≡ min most (value (take i text)) → digit ≡ get_or text i d - 48
    → k ≡ min (n * 10) most → m ≡ min (k + digit) most → m ≡ min most (value (take (i + 1) text))
one_more text i d most n m k digit h e f g j =
    let next : value (take i text) * 10 + digit ≡ value (take (i + 1) text) = one_digit_more text i d (value (take i text)) h refl digit f in
    omega (arith, next)

pub digits-preserved : goal.digits-preserved
digits-preserved c = one_more c.args.text.now c.digits.byte-index 0 greatest_limit c.digits.n _ c.saturating_mul.result _ c.digits-test.true c.digits.invariant refl c.saturating_mul.ensures c.saturating_add-n.ensures
