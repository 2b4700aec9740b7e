-- Each moment up to the greatest has a text.
use Rattle.std.proofs.Common.{◌≡◌, ℕ, zero, suc, ◌+◌, ◌*◌, ◌/◌, ◌%◌, ◌<◌, ◌≤◌, List, ◌∷◌, length, drop, refl, sym, ap, ◌∙◌, subst, arith, pos, ◌+ℤ◌, ◌*ℤ◌, inl, inr, lit≤}
use Rattle.std.specs.List.{AllByRecursion}
use Rattle.std.proofs.lemmas.Bool.{cond-false, cases_lt, ne_eqb}
use Rattle.jiff_core.specs.Calendar.{days_from_civil, days_in_month}
use Rattle.jiff_core.proofs.SignedLemmas.{signed_arith}
use Rattle.jiff_core.proofs.CalendarLemmas.{days_in_month_bounds}
use Rattle.jiff_core.proofs.DateLemmas.{days_from_civil-day, days_from_civil-next_month, days_from_civil-next_year, days_from_civil-max}
use Rattle.jiff_core.proofs.StandardFacts.{known_days}
use Rattle.irc_time.specs.Time.{Fields, IsFrom, since_midnight, digit, text, IsTextOf, greatest, greatest_day}
use Rattle.irc_time.specs.Text.{time_text}
use Rattle.irc_time.proofs.TextLemmas.{text_once}

-- ---- each day has a date

-- the date from 1970 to 9999 has that day number
record IsDateOf (n year month day : ℕ) : Type 0 where
  year_in : IsFrom 1970 9999 year
  month_in : IsFrom 1 12 month
  day_in : IsFrom 1 (days_in_month (pos year) month) day
  number : days_from_civil (pos year) month day ≡ pos n

abbrev HasDate : ℕ → Type 0
HasDate n = (year month day : ℕ) × IsDateOf n year month day

-- a month's first day is one of its days
first_in : (year month : ℕ) → IsFrom 1 (days_in_month (pos year) month) 1
first_in year month = (let long = days_in_month_bounds (pos year) month in (lit≤ tt, omega arith))

module _ (n y m d : ℕ) (is : IsDateOf n y m d) where
  same_month : d < days_in_month (pos y) m → HasDate (suc n)
  same_month less =
      let low = is.day_in.0 in
      let one = days_from_civil-day (pos y) m d (d + 1) low (omega arith) in
      let old = is.number in (
        y,
        m,
        d + 1,
        record {
          year_in = is.year_in;
          month_in = is.month_in;
          day_in = (omega arith, omega arith);
          number = omega (arith, signed_arith);
        },
      )

  next_month : d ≡ days_in_month (pos y) m → m < 12 → HasDate (suc n)
  next_month last less =
      let low = is.month_in.0 in
      let one = days_from_civil-next_month (pos y) m d low last in
      let old = is.number in (
        y,
        m + 1,
        1,
        record {
          year_in = is.year_in;
          month_in = (omega arith, omega arith);
          day_in = first_in y (m + 1);
          number = omega (arith, signed_arith);
        },
      )

  next_year : d ≡ 31 → m ≡ 12 → y < 9999 → HasDate (suc n)
  next_year last month less =
      let low = is.year_in.0 in
      let one = days_from_civil-next_year (pos y) (pos (y + 1)) (omega (arith, signed_arith)) (omega (arith, signed_arith)) in
      let old : days_from_civil (pos y) 12 31 ≡ pos n = (λ i. days_from_civil (pos y) (sym month i) (sym last i)) ∙ is.number in (
        y + 1,
        1,
        1,
        record {
          year_in = (omega arith, omega arith);
          month_in = (lit≤ tt, lit≤ tt);
          day_in = first_in (y + 1) 1;
          number = omega (arith, signed_arith);
        },
      )

  no_later : d ≡ 31 → m ≡ 12 → y ≡ 9999 → n ≡ greatest_day
  no_later last month year =
      let last_day = days_from_civil-max in
      let old : days_from_civil (pos 9999) 12 31 ≡ pos n = (λ i. days_from_civil (pos (sym year i)) (sym month i) (sym last i)) ∙ is.number in
      omega (arith, signed_arith)

  next_day : n < greatest_day → HasDate (suc n)
  next_day below = elim (cases_lt d (days_in_month (pos y) m)) [
    | inl less ↦ same_month less
    | inr ends ↦ (
        let high = is.day_in.1 in
        let last : d ≡ days_in_month (pos y) m = omega arith in
        elim (cases_lt m 12) [
          | inl less ↦ next_month last less
          | inr ends_year ↦ (
              let twelfth = is.month_in.1 in
              let month : m ≡ 12 = omega arith in
              let day : d ≡ 31 = last ∙ ap (days_in_month (pos y)) month in
              elim (cases_lt y 9999) [
                | inl less ↦ next_year day month less
                | inr past ↦ absurd (let highest = is.year_in.1 in let all = no_later day month (omega arith) in omega arith)
              ]
              )
        ]
        )
  ]

date_of_day : (n : ℕ) → n ≤ greatest_day → HasDate n
date_of_day zero h =
    (1970, 1, 1, record { year_in = (lit≤ tt, lit≤ tt); month_in = (lit≤ tt, lit≤ tt); day_in = first_in 1970 1; number = known_days.0 })
date_of_day (suc n) h = (let before = date_of_day n (omega arith) in next_day n before.0 before.1 before.2 before.3 (omega arith))

-- ---- the text

of_day : (in_day : ℕ) → (in_day / 60000 / 60 * 60 + in_day / 60000 % 60) * 60000 + (in_day % 60000 / 1000 * 1000 + in_day % 60000 % 1000) ≡ in_day
of_day n = omega arith

joined : (t q r : ℕ) → q * 86400000 + r ≡ t → pos t ≡ pos q *ℤ pos 86400000 +ℤ pos r
joined t q r e = omega (arith, signed_arith)

-- the fields of a moment of that time of day on a date
abbrev fields_of : ℕ → ℕ → ℕ → ℕ → Fields
fields_of in_day year month day = record {
  year = year;
  month = month;
  day = day;
  hour = in_day / 60000 / 60;
  minute = in_day / 60000 % 60;
  second = in_day % 60000 / 1000;
  millisecond = in_day % 60000 % 1000;
}

on_date : (t year month day : ℕ) → IsDateOf (t / 86400000) year month day → IsTextOf (text (fields_of (t % 86400000) year month day)) t
on_date t year month day is =
    let in_day = t % 86400000 in
    let fields = fields_of in_day year month day in
    let bound : in_day < 86400000 = omega arith in
    let second : in_day % 60000 / 1000 < 60 = omega arith in
    let since : since_midnight fields ≡ in_day =
    ap (λ n. (in_day / 60000 / 60 * 60 + in_day / 60000 % 60) * 60000 + n) (cond-false _ _ _ (ne_eqb (in_day % 60000 / 1000) 60 (λ e. omega arith))) ∙ of_day in_day in
    record {
      fields = fields;
      exists = record {
        year = is.year_in;
        month = is.month_in;
        day = is.day_in;
        hour = omega arith;
        minute = omega arith;
        second = omega arith;
        millisecond = omega arith;
      };
      spelled = refl;
      moment = joined t (t / 86400000) in_day (omega arith)
          ∙ ap (λ z. z *ℤ pos 86400000 +ℤ pos in_day) (sym is.number) ∙ ap (λ n. days_from_civil (pos year) month day *ℤ pos 86400000 +ℤ pos n) (sym since);
      no_leap_second = omega arith;
    }

pub moment_text : (t : ℕ) → t ≤ greatest → IsTextOf (time_text t) t
moment_text t h =
    let date = date_of_day (t / 86400000) (omega arith) in
    let is = on_date t date.0 date.1 date.2 date.3 in
    subst (λ l. IsTextOf l t) (text_once _ t is) is

-- ---- its bytes

-- a text of 24 bytes, none below `-` and none above `Z`, of which the first is a digit
pub record IsTimeShape (bytes : List ℕ) : Type 0 where
  pub size : length bytes ≡ 24
  pub low : AllByRecursion (λ b. 45 ≤ b) bytes
  pub first : ℕ
  pub rest : List ℕ
  pub begins : bytes ≡ digit first ∷ rest

is_low : (n : ℕ) → 45 ≤ digit n
is_low n = omega arith

text_shape : (f : Fields) → IsTimeShape (text f)
text_shape f = record {
  size = refl;
  low = (is_low _, (is_low _, (is_low _, (is_low _, (lit≤ tt, (is_low _, (is_low _, (lit≤ tt, (is_low _, (is_low _, (lit≤ tt, (is_low _, (is_low _, (lit≤ tt, (is_low _, (is_low _, (lit≤ tt, (is_low _, (is_low _, (lit≤ tt, (is_low _, (is_low _, (is_low _, (lit≤ tt, tt))))))))))))))))))))))));
  first = f.year / 1000;
  rest = drop 1 (text f);
  begins = refl;
}

pub time_shape : (t : ℕ) → t ≤ greatest → IsTimeShape (time_text t)
time_shape t h = (let is = moment_text t h in subst IsTimeShape (sym is.spelled) (text_shape is.fields))
