-- A text is read as no moment beyond the greatest.
use Rattle.std.proofs.Common.{◌≡◌, ℕ, ◌+◌, ◌*◌, ◌≤◌, Bool, true, false, cond, List, Some, subst, arith, pos, ◌≤ℤ◌, refl}
use Rattle.std.specs.Prelude.{◌&&◌, ◌==◌, unsigned_abs, ℤ, negsuc}
use Rattle.std.proofs.lemmas.Bool.{and_parts}
use Rattle.std.proofs.lemmas.Bool.Decides.{nat_tests}
use Rattle.std.proofs.lemmas.Option.{cond_some}
use Rattle.jiff_core.specs.Calendar.{days_from_civil}
use Rattle.jiff_core.proofs.SignedLemmas.{signed_arith}
use Rattle.irc_time.specs.Time.{Fields, IsDateTime, greatest, greatest_day}
use Rattle.irc_time.specs.Reading.{fields_at, is_date, is_time_of_day, is_text, moment_of, time_of}
use Rattle.irc_time.proofs.ReadingLemmas.{exists, days_since, days_until_9999}

abs_within : (z : ℤ) → pos 0 ≤ℤ z → z ≤ℤ pos greatest_day → unsigned_abs z ≤ greatest_day
abs_within (pos n) low high = omega (arith, signed_arith)
abs_within (negsuc n) low high = absurd (omega (arith, signed_arith))

days_within : (f : Fields) → IsDateTime f → unsigned_abs (days_from_civil (pos f.year) f.month f.day) ≤ greatest_day
days_within f ok = abs_within _ (days_since f ok) (days_until_9999 f ok)

in_minute : (second millisecond : ℕ) → second ≤ 60 → millisecond ≤ 999 → cond (second == 60) 59999 (second * 1000 + millisecond) ≤ 59999
in_minute second millisecond s m = go (second == 60) refl where
  go : (b : Bool) → (second == 60) ≡ b → cond b 59999 (second * 1000 + millisecond) ≤ 59999
  go true e = omega arith
  go false e = grind (arith, nat_tests)

moment_within : (f : Fields) → IsDateTime f → moment_of f ≤ greatest
moment_within f ok =
    let days = days_within f ok in
    let minute = in_minute f.second f.millisecond ok.second ok.millisecond in
    let hour = ok.hour in
    let minutes = ok.minute in
    omega arith

pub time_within : (bytes : List ℕ) (t : ℕ) → time_of bytes ≡ Some t → t ≤ greatest
unfolding time_of
time_within bytes t e =
    let f = fields_at bytes in
    let w = cond_some (is_text bytes f) (moment_of f) t e in
    subst (λ n. n ≤ greatest) w.1 (moment_within f (exists f (and_parts _ (is_date f && is_time_of_day f) w.0).1))
