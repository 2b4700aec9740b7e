-- The moment that bytes spell, as a function, is what `IsTime` says.
use Rattle.std.proofs.Common.{◌≡◌, ℕ, ◌+◌, ◌*◌, ◌≤◌, Bool, true, List, Option, None, Some, refl, sym, ap, ◌∙◌, subst, arith, pos, ◌+ℤ◌, ◌*ℤ◌, ◌≤ℤ◌}
use Rattle.std.specs.Prelude.{◌&&◌, ◌==◌, nat_le, unsigned_abs, IfSome, IfNone, ℤ, negsuc}
use Rattle.std.specs.Cmp.Lexicographic.{pointwise, bytes_decides}
use Rattle.std.proofs.lemmas.Bool.{and_parts, leb-true, le-leb, cond-true}
use Rattle.std.proofs.lemmas.Option.{cond_some}
use Rattle.jiff_core.specs.declared.civil.date.Date.{Date}
use Rattle.jiff_core.specs.Calendar.{days_from_civil, days_in_month}
use Rattle.jiff_core.proofs.SignedLemmas.{signed_arith}
use Rattle.jiff_core.proofs.DateLemmas.{epoch_day_range}
use Rattle.irc_time.specs.Time.{Fields, IsDateTime, greatest_day, HasMoment, IsTime, since_midnight, text}
use Rattle.irc_time.specs.Reading.{fields_at, is_from, is_date, is_time_of_day, is_text, moment_of, time_of}
use Rattle.irc_time.proofs.PartsLemmas.{spelled_once}
use Rattle.irc_time.proofs.DayLemmas.{days_from_1970}

both : (a b : Bool) → a ≡ true → b ≡ true → (a && b) ≡ true
both a b p q = (λ i. p i && q i)

-- ---- the tests tell of the fields

is_from-true : (low high n : ℕ) → is_from low high n ≡ true → (low ≤ n) × (n ≤ high)
is_from-true low high n e = (let p = and_parts (nat_le low n) (nat_le n high) e in (leb-true low n p.0, leb-true n high p.1))

true-is_from : (low high n : ℕ) → (low ≤ n) × (n ≤ high) → is_from low high n ≡ true
true-is_from low high n p = both _ _ (le-leb low n p.0) (le-leb n high p.1)

pub exists : (f : Fields) → (is_date f && is_time_of_day f) ≡ true → IsDateTime f
exists f e =
    let p = and_parts (is_date f) (is_time_of_day f) e in
    let d = and_parts (is_from 1970 9999 f.year) _ p.0 in
    let m = and_parts (is_from 1 12 f.month) _ d.1 in
    let h = and_parts (nat_le f.hour 23) _ p.1 in
    let n = and_parts (nat_le f.minute 59) _ h.1 in
    let s = and_parts (nat_le f.second 60) _ n.1 in
    record {
      year = is_from-true 1970 9999 f.year d.0;
      month = is_from-true 1 12 f.month m.0;
      day = is_from-true 1 (days_in_month (pos f.year) f.month) f.day m.1;
      hour = leb-true f.hour 23 h.0;
      minute = leb-true f.minute 59 n.0;
      second = leb-true f.second 60 s.0;
      millisecond = leb-true f.millisecond 999 s.1;
    }

tested : (f : Fields) → IsDateTime f → (is_date f && is_time_of_day f) ≡ true
tested f ok = both (is_date f) (is_time_of_day f)
    (both _ _ (true-is_from 1970 9999 f.year ok.year) (both _ _ (true-is_from 1 12 f.month ok.month) (true-is_from 1 (days_in_month (pos f.year) f.month) f.day ok.day)))
    (both _ _ (le-leb f.hour 23 ok.hour) (both _ _ (le-leb f.minute 59 ok.minute) (both _ _ (le-leb f.second 60 ok.second) (le-leb f.millisecond 999 ok.millisecond))))

-- ---- the moment of the fields

date_of : (f : Fields) → IsDateTime f → Date
date_of f ok = record {
  year = pos f.year;
  month = f.month;
  day = f.day;
  year_in = (let h = ok.year in omega (arith, signed_arith), let h = ok.year in omega (arith, signed_arith));
  month_in = ok.month;
  day_in = ok.day;
}

pub days_since : (f : Fields) → IsDateTime f → pos 0 ≤ℤ days_from_civil (pos f.year) f.month f.day
unfolding date_of
days_since f ok = days_from_1970 (date_of f ok) (let h = ok.year.0 in omega (arith, signed_arith))

pub days_until_9999 : (f : Fields) → IsDateTime f → days_from_civil (pos f.year) f.month f.day ≤ℤ pos greatest_day
unfolding date_of
days_until_9999 f ok = (epoch_day_range (date_of f ok)).1

number : (z : ℤ) (s t : ℕ) → pos 0 ≤ℤ z → pos t ≡ z *ℤ pos 86400000 +ℤ pos s → t ≡ unsigned_abs z * 86400000 + s
number (pos n) s t h e = omega (arith, signed_arith)
number (negsuc n) s t h e = absurd (omega (arith, signed_arith))

numbered : (z : ℤ) (s : ℕ) → pos 0 ≤ℤ z → pos (unsigned_abs z * 86400000 + s) ≡ z *ℤ pos 86400000 +ℤ pos s
numbered (pos n) s h = omega (arith, signed_arith)
numbered (negsuc n) s h = absurd (omega (arith, signed_arith))

-- ---- the function and its meaning

pub time_of-is : (bytes : List ℕ) (t : ℕ) → time_of bytes ≡ Some t → IsTime bytes t
unfolding time_of
time_of-is bytes t e =
    let f = fields_at bytes in
    let w = cond_some (is_text bytes f) (moment_of f) t e in
    let p = and_parts (pointwise (λ (a b : ℕ). a == b) bytes (text f)) (is_date f && is_time_of_day f) w.0 in
    let ok = exists f p.1 in
    record {
      fields = f;
      exists = ok;
      spelled = (bytes_decides bytes (text f)).0 p.0;
      moment = subst (λ n. HasMoment f n) w.1 (numbered (days_from_civil (pos f.year) f.month f.day) (since_midnight f) (days_since f ok));
    }

pub is-time_of : (bytes : List ℕ) (t : ℕ) → IsTime bytes t → time_of bytes ≡ Some t
unfolding time_of
is-time_of bytes t is =
    let f = is.fields in
    let same : fields_at bytes ≡ f = spelled_once bytes f is.exists is.spelled in
    let so : is_text bytes f ≡ true = both _ _ ((bytes_decides bytes (text f)).1 is.spelled) (tested f is.exists) in
    cond-true _ _ _ (ap (is_text bytes) same ∙ so)
    ∙ ap (λ (g : Fields). Some (moment_of g)) same
    ∙ ap Some (sym (number (days_from_civil (pos f.year) f.month f.day) (since_midnight f) t (days_since f is.exists) is.moment))

-- whoever answers by the rules answers it
pub read-is : (bytes : List ℕ) (o : Option ℕ) → IfSome o (λ t. IsTime bytes t) → IfNone o ((t : ℕ) → IsTime bytes t → ⊥) → o ≡ time_of bytes
read-is bytes (Some t) p q = sym (is-time_of bytes t p)
read-is bytes None p q = go (time_of bytes) refl where
  go : (o : Option ℕ) → time_of bytes ≡ o → None ≡ time_of bytes
  go None e = sym e
  go (Some t) e = absurd (q t (time_of-is bytes t e))
