-- Decimal numbers as texts.
use Rattle.std.specs.Prelude.{ℕ, ◌+◌, ◌*◌, ◌-◌, ◌==◌, Bool, not, ◌&&◌, nat_lt, nat_le, List, [], ◌∷◌, length, get_or, Option, None, Some, if◌then◌else◌}
use Rattle.std.specs.List.{list_all}

abbrev pub is_digit : ℕ → Bool
is_digit b = nat_le 48 b && nat_le b 57

-- one or more digits
abbrev pub is_digits : List ℕ → Bool
is_digits text = nat_lt 0 (length text) && list_all is_digit text

-- a zero before another digit
abbrev pub has_leading_zero : List ℕ → Bool
has_leading_zero text = nat_lt 1 (length text) && (get_or text 0 0 == 48)

-- the value of digits that stand behind others of value n
abbrev pub value_from : ℕ → List ℕ → ℕ
value_from n [] = n
value_from n (b ∷ digits) = value_from (n * 10 + (b - 48)) digits

abbrev pub value : List ℕ → ℕ
value text = value_from 0 text

-- the number that a text spells: digits without a leading zero, of a value of at most `most`
unfoldable pub number_to : ℕ → List ℕ → Option ℕ
number_to most text =
    if is_digits text && not (has_leading_zero text) && nat_le (value text) most
    then Some (value text)
    else None
