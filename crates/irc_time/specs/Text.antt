-- The text of a moment, as a function: `IsTextOf` says what it means.
use Rattle.std.specs.Prelude.{ℕ, zero, suc, ◌+◌, ◌/◌, ◌%◌, List, [], Option, None, Some, pos, if◌then◌else◌}
use Rattle.std.specs.Option.{option_or, option_map, unwrap_or}
use Rattle.std.specs.Ordering.{eq_by_cmp, int_cmp}
use Rattle.jiff_core.specs.Calendar.{days_from_civil, days_in_month}
use Rattle.irc_time.specs.Time.{Fields, text}

-- what the first of the numbers below n gives that gives something
abbrev pub first_some : {A : Type 0} → (ℕ → Option A) → ℕ → Option A
first_some give zero = None
first_some give (suc n) = option_or (first_some give n) (give n)

pub record Day : Type 0 where
  pub year : ℕ
  pub month : ℕ
  pub day : ℕ

-- the date, if its day number is n
abbrev pub if_day : ℕ → ℕ → ℕ → ℕ → Option Day
if_day n year month day =
    if eq_by_cmp int_cmp (days_from_civil (pos year) month day) (pos n)
    then Some (record { year = year; month = month; day = day })
    else None

-- the date from 1970 to 9999 whose day number is n
unfoldable pub date_of : ℕ → Option Day
date_of n =
    first_some (λ y. first_some (λ m. first_some (λ d.
    if_day n (1970 + y) (m + 1) (d + 1))
    (days_in_month (pos (1970 + y)) (m + 1))) 12) 8030

-- the fields of a moment on that date
abbrev pub fields_on : ℕ → Day → Fields
fields_on t date =
    let in_day = t % 86400000 in
    record {
      year = date.year;
      month = date.month;
      day = date.day;
      hour = in_day / 3600000;
      minute = in_day / 60000 % 60;
      second = in_day / 1000 % 60;
      millisecond = in_day % 1000;
    }

-- the text of a moment
unfoldable pub time_text : ℕ → List ℕ
time_text t =
    unwrap_or (option_map (λ (date : Day). text (fields_on t date)) (date_of (t / 86400000))) []
