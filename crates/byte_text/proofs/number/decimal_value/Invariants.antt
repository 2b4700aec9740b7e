use Rattle.std.proofs.Common.{◌≡◌, ◌<◌, ◌^◌, take}
use Rattle.byte_text.specs.Number.{value}
use Rattle.byte_text.proofs.number.decimal_value.Given as goal

-- the value of the digits so far
abbrev pub invariant-digits : goal.invariant-digits
invariant-digits l = (l.n < 2 ^ 64) × (l.n ≡ value (take l.b-index l.text))
