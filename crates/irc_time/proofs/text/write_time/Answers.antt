use Rattle.std.proofs.Common.{◌≡◌, ℕ, ◌+◌, ◌*◌, ◌/◌, ◌%◌, ◌<◌, pos, ◌+ℤ◌, ◌*ℤ◌, sym, ap, ◌∙◌, subst, arith}
use Rattle.std.proofs.lemmas.Bool.{cond-false, ne_eqb}
use Rattle.jiff_core.specs.Calendar.{days_from_civil, days_in_month}
use Rattle.jiff_core.proofs.SignedLemmas.{signed_arith}
use Rattle.irc_time.specs.Time.{Fields, IsFrom, since_midnight}
use Rattle.irc_time.proofs.TextLemmas.{text_once}
use Rattle.irc_time.proofs.text.write_time.Goals as goal

-- the parts of a day
of_day : (in_day : ℕ) → (in_day / 60000 / 60 * 60 + in_day / 60000 % 60) * 60000 + (in_day % 60000 / 1000 * 1000 + in_day % 60000 % 1000) ≡ in_day
of_day n = omega arith

joined : (t q r : ℕ) → q * 86400000 + r ≡ t → pos t ≡ pos q *ℤ pos 86400000 +ℤ pos r
joined t q r e = omega (arith, signed_arith)

pub returns-clause-meaning : goal.returns-clause-meaning
returns-clause-meaning c =
    let date = c.date_of-date.result in
    let year = c.year_of.result in
    let ms = c.ms-ms.result in
    let in_day = ms % 86400000 in
    let bound : in_day < 86400000 = omega arith in
    let second : in_day % 60000 / 1000 < 60 = omega arith in
    let days : days_from_civil (pos year) date.month date.day ≡ pos (ms / 86400000) = ap (λ y. days_from_civil y date.month date.day) c.year_of.ensures ∙ c.date_of-date.ensures.day in
    let fields : Fields = record {
      year = year;
      month = date.month;
      day = date.day;
      hour = in_day / 60000 / 60;
      minute = in_day / 60000 % 60;
      second = in_day % 60000 / 1000;
      millisecond = in_day % 60000 % 1000;
    } in
    let since : since_midnight fields ≡ in_day =
    ap (λ n. (in_day / 60000 / 60 * 60 + in_day / 60000 % 60) * 60000 + n) (cond-false _ _ _ (ne_eqb (in_day % 60000 / 1000) 60 (λ e. omega arith))) ∙ of_day in_day in
    record {
      fields = fields;
      exists = record {
        year = (omega (arith, signed_arith), omega (arith, signed_arith));
        month = date.month_in;
        day = subst (λ y. IsFrom 1 (days_in_month y date.month) date.day) (sym c.year_of.ensures) date.day_in;
        hour = omega arith;
        minute = omega arith;
        second = omega arith;
        millisecond = omega arith;
      };
      spelled = c.text_of.ensures;
      moment = ap pos (sym c.ms-ms.ensures.value) ∙ joined ms (ms / 86400000) in_day (omega arith)
          ∙ ap (λ z. z *ℤ pos 86400000 +ℤ pos in_day) (sym days) ∙ ap (λ n. days_from_civil (pos year) date.month date.day *ℤ pos 86400000 +ℤ pos n) (sym since);
      no_leap_second = omega arith;
    }

pub returns-clause-text : goal.returns-clause-text
returns-clause-text c = text_once _ _ (returns-clause-meaning c)
