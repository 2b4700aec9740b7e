-- How many records a client asks for at most (IRCv3 draft/chathistory, "CHATHISTORY").
use Rattle.std.specs.Prelude.{ℕ, ◌-◌, ◌^◌, ◌&&◌, nat_lt, min, List, Option, None, Some, if◌then◌else◌}
use Rattle.byte_text.specs.Number.{is_digits, value}

-- the greatest number that there is room for
abbrev pub greatest_limit : ℕ
greatest_limit = 2 ^ 64 - 1

-- digits of a value above 0; leading zeros are allowed, and a value above the greatest counts as the greatest
abbrev pub limit_of : List ℕ → Option ℕ
limit_of text =
    if is_digits text && nat_lt 0 (value text) then Some (min greatest_limit (value text)) else None
