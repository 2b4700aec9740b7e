-- The fields of a text are read back.
use Rattle.std.proofs.Common.{◌≡◌, ℕ, ◌+◌, ◌-◌, ◌*◌, ◌/◌, ◌%◌, ◌≤◌, List, length, refl, sym, ap, ◌∙◌, arith, pos, ◌+ℤ◌, ◌*ℤ◌}
use Rattle.std.proofs.Common.{[], ◌∷◌, true, eqb}
use Rattle.std.specs.Cmp.Lexicographic.{pointwise}
use Rattle.std.proofs.lemmas.Bool.{true≢false, and_parts, eqb-true}
use Rattle.jiff_core.proofs.CalendarLemmas.{days_in_month_bounds}
use Rattle.jiff_core.specs.Calendar.{days_from_civil}
use Rattle.jiff_core.proofs.SignedLemmas.{signed_arith}
use Rattle.irc_time.specs.Time.{Fields, IsDateTime, IsTime, since_midnight, text}
use Rattle.irc_time.specs.Reading.{fields_at}

two_back : (n : ℕ) → n ≤ 99 → (48 + n / 10 % 10 - 48) * 10 + (48 + n % 10 - 48) ≡ n
two_back n h = omega arith

three_back : (n : ℕ) → n ≤ 999 → (48 + n / 100 % 10 - 48) * 100 + ((48 + n / 10 % 10 - 48) * 10 + (48 + n % 10 - 48)) ≡ n
three_back n h = omega arith

four_back : (n : ℕ) → n ≤ 9999 → ((48 + n / 1000 % 10 - 48) * 10 + (48 + n / 100 % 10 - 48)) * 100 + ((48 + n / 10 % 10 - 48) * 10 + (48 + n % 10 - 48)) ≡ n
four_back n h = omega arith

same_fields : (f g : Fields) → f.year ≡ g.year → f.month ≡ g.month → f.day ≡ g.day → f.hour ≡ g.hour → f.minute ≡ g.minute → f.second ≡ g.second → f.millisecond ≡ g.millisecond → f ≡ g
same_fields f g a b c d e h k = λ i. record { year = a i; month = b i; day = c i; hour = d i; minute = e i; second = h i; millisecond = k i }

pub fields_at-text : (f : Fields) → IsDateTime f → fields_at (text f) ≡ f
fields_at-text f ok =
    let most = days_in_month_bounds (pos f.year) f.month in
    same_fields (fields_at (text f)) f (four_back f.year ok.year.1) (two_back f.month (omega (arith, ok.month.1))) (two_back f.day (omega (arith, ok.day.1, most.0)))
    (two_back f.hour (omega (arith, ok.hour))) (two_back f.minute (omega (arith, ok.minute))) (two_back f.second (omega (arith, ok.second))) (three_back f.millisecond ok.millisecond)

pub length-text : (f : Fields) → length (text f) ≡ 24
length-text f = refl

pub spelled_once : (bytes : List ℕ) (f : Fields) → IsDateTime f → bytes ≡ text f → fields_at bytes ≡ f
spelled_once bytes f ok e = ap fields_at e ∙ fields_at-text f ok

-- lists whose items pass the test one by one are the same
pub same_from : (xs ys : List ℕ) → pointwise eqb xs ys ≡ true → xs ≡ ys
same_from [] [] e = refl
same_from [] (y ∷ ys) e = absurd (true≢false (sym e))
same_from (x ∷ xs) [] e = absurd (true≢false (sym e))
same_from (x ∷ xs) (y ∷ ys) e =
    let parts = and_parts (eqb x y) (pointwise eqb xs ys) e in
    λ i. eqb-true x y parts.0 i ∷ same_from xs ys parts.1 i

same_moment : (t u : ℕ) → pos t ≡ pos u → t ≡ u
same_moment t u e = omega (arith, signed_arith)

-- a text is read as one moment
pub moment_once : (bytes : List ℕ) (t u : ℕ) → IsTime bytes t → IsTime bytes u → t ≡ u
moment_once bytes t u p q =
    let same = sym (spelled_once bytes p.fields p.exists p.spelled) ∙ spelled_once bytes q.fields q.exists q.spelled in
    same_moment t u (p.moment ∙ ap (λ (f : Fields). days_from_civil (pos f.year) f.month f.day *ℤ pos 86400000 +ℤ pos (since_midnight f)) same ∙ sym q.moment)
