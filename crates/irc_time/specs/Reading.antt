-- The moment that bytes spell, as a function: `IsTime` says what it means.
use Rattle.std.specs.Prelude.{ℕ, ◌+◌, ◌-◌, ◌*◌, ◌&&◌, ◌==◌, nat_le, Bool, List, slice_index, Option, None, Some, pos, unsigned_abs, if◌then◌else◌}
use Rattle.std.specs.Cmp.Lexicographic.{pointwise}
use Rattle.jiff_core.specs.Calendar.{days_from_civil, days_in_month}
use Rattle.irc_time.specs.Time.{Fields, since_midnight, text}

-- the number of two digits
abbrev pub two_at : List ℕ → ℕ → ℕ
two_at bytes at = (slice_index bytes at - 48) * 10 + (slice_index bytes (at + 1) - 48)

-- the fields that 24 bytes have in the places of a date and a time
abbrev pub fields_at : List ℕ → Fields
fields_at bytes = record {
  year = two_at bytes 0 * 100 + two_at bytes 2;
  month = two_at bytes 5;
  day = two_at bytes 8;
  hour = two_at bytes 11;
  minute = two_at bytes 14;
  second = two_at bytes 17;
  millisecond = (slice_index bytes 20 - 48) * 100 + two_at bytes 21;
}

-- whether n lies from low to high
abbrev pub is_from : ℕ → ℕ → ℕ → Bool
is_from low high n = nat_le low n && nat_le n high

abbrev pub is_date : Fields → Bool
is_date f =
    is_from 1970 9999 f.year
    && (is_from 1 12 f.month && is_from 1 (days_in_month (pos f.year) f.month) f.day)

abbrev pub is_time_of_day : Fields → Bool
is_time_of_day f =
    nat_le f.hour 23 && (nat_le f.minute 59 && (nat_le f.second 60 && nat_le f.millisecond 999))

-- of a date that isn't before 1970
abbrev pub moment_of : Fields → ℕ
moment_of f =
    unsigned_abs (days_from_civil (pos f.year) f.month f.day) * 86400000 + since_midnight f

-- whether the bytes are the text of fields that there are
abbrev pub is_text : List ℕ → Fields → Bool
is_text bytes f = pointwise (λ (a b : ℕ). a == b) bytes (text f) && (is_date f && is_time_of_day f)

unfoldable pub time_of : List ℕ → Option ℕ
time_of bytes = if is_text bytes (fields_at bytes) then Some (moment_of (fields_at bytes)) else None
