use Rattle.std.proofs.Common.{◌≡◌, ℕ, pos, ◌≤ℤ◌, arith, rules, inl}
use Rattle.std.proofs.lemmas.Int.{by_lt_z}
use Rattle.jiff_core.specs.declared.civil.date.Date.{Date}
use Rattle.jiff_core.specs.Date.{epoch_day}
use Rattle.jiff_core.proofs.SignedLemmas.{signed_arith}
use Rattle.jiff_core.proofs.DateLemmas.{epoch_day-lt}
use Rattle.jiff_core.proofs.StandardFacts.{known_days}
use Rattle.irc_time.proofs.text.date_of.Goals as goal

first_day : Date
first_day = record { year = pos 1970; month = 1; day = 1; year_in = search rules; month_in = search rules; day_in = search rules }

-- a date before 1970 has a day number below 0
from_1970 : (d : Date) (n : ℕ) → epoch_day d ≡ pos n → pos 1970 ≤ℤ d.year
unfolding first_day
from_1970 d n e = by_lt_z d.year (pos 1970)
    (λ lt. let early = epoch_day-lt d first_day (inl lt) in let zero = known_days.0 in absurd (omega (arith, signed_arith)))
    (λ le. le)

pub returns-clause-year : goal.returns-clause-year
returns-clause-year c =
    let day : epoch_day c.from_days_since_min.result ≡ pos c.args.day = omega (arith, signed_arith) in
    (from_1970 c.from_days_since_min.result c.args.day day, c.from_days_since_min.result.year_in.1)
