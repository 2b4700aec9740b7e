use Rattle.std.proofs.Common.{◌≡◌, ◌<◌, ◌^◌, take}
use Rattle.byte_text.specs.Number.{value}
use Rattle.byte_text.proofs.number.short_decimal_value.Given as goal

-- the value of the digits so far, which is below the power of ten that has one digit more
abbrev pub invariant-digits : goal.invariant-digits
invariant-digits l = (l.n < 10 ^ l.b-index) × (l.n ≡ value (take l.b-index l.text))
