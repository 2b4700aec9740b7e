use Rattle.std.proofs.Common.{◌≡◌, min, take}
use Rattle.byte_text.specs.Number.{value}
use Rattle.chat_query.specs.Limit.{greatest_limit}
use Rattle.chat_query.proofs.limit.decimal_value.Given as goal

abbrev pub invariant-digits : goal.invariant-digits
invariant-digits l = l.n ≡ min greatest_limit (value (take l.byte-index l.text))
