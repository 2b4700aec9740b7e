-- A moment has one text.
use Rattle.std.proofs.Common.{◌≡◌, ℕ, zero, suc, ◌+◌, ◌-◌, ◌*◌, ◌/◌, ◌%◌, ◌<◌, ◌≤◌, true, Option, None, Some, List, [], refl, sym, ap, ◌∙◌, subst, arith, pos, ◌+ℤ◌, ◌*ℤ◌, inl, inr}
use Rattle.std.specs.Prelude.{◌⊎◌, ℤ, negsuc}
use Rattle.std.specs.declared.cmp.Ordering.{Ordering}
use Rattle.std.specs.declared.cmp.Ordering.TheVariants.{Less, Equal, Greater}
use Rattle.std.specs.Option.{option_or, option_map, unwrap_or}
use Rattle.std.specs.Ordering.{eq_by_cmp, int_cmp, is_eq}
use Rattle.std.specs.FinMap.{int_cmp-IsAntisymmetric}
use Rattle.std.proofs.lemmas.Bool.{cond-true, cond-false, cases_lt, ne_eqb}
use Rattle.std.proofs.lemmas.Option.{cond_some}
use Rattle.std.proofs.lemmas.Cmp.{tied_itself, int_cmp_total}
use Rattle.jiff_core.specs.declared.civil.date.Date.{Date}
use Rattle.jiff_core.specs.Calendar.{days_from_civil, days_in_month}
use Rattle.jiff_core.proofs.SignedLemmas.{signed_arith}
use Rattle.jiff_core.proofs.DateLemmas.{epoch_day_injective}
use Rattle.irc_time.specs.Time.{Fields, since_midnight, text, IsTextOf}
use Rattle.irc_time.specs.Text.{first_some, Day, if_day, date_of, fields_on, time_text}

-- ---- what the first number gives that gives something

module _ {A : Type 0} (give : ℕ → Option A) where
  given_by : (n : ℕ) (z : A) → first_some give n ≡ Some z → (j : ℕ) × (j < n) × (give j ≡ Some z)
  given_by zero z e = cc
  given_by (suc n) z e = go (λ y f. given_by n y f) (first_some give n) refl e where
    go : ((y : A) → first_some give n ≡ Some y → (j : ℕ) × (j < n) × (give j ≡ Some y)) → (o : Option A) → first_some give n ≡ o → option_or o (give n) ≡ Some z
        → (j : ℕ) × (j < suc n) × (give j ≡ Some z)
    go again None f g = (n, omega arith, g)
    go again (Some y) f g = (let w = again y f in (w.0, (let l = w.1 in omega arith), w.2 ∙ g))

  found : (x : A) (n k : ℕ) → ((j : ℕ) (z : A) → j < n → give j ≡ Some z → z ≡ x) → k < n → give k ≡ Some x → first_some give n ≡ Some x
  found x zero k only h e = absurd (omega arith)
  found x (suc n) k only h e = go (λ lt. found x n k (λ j w i m. only j w (omega arith) m) lt e) (first_some give n) refl (cases_lt k n) where
    go : ((k < n) → first_some give n ≡ Some x) → (o : Option A) → first_some give n ≡ o → ((k < n) ⊎ (n ≤ k)) → option_or o (give n) ≡ Some x
    go again (Some y) f c = (let w = given_by n y f in ap Some (only w.0 y (let l = w.1 in omega arith) w.2))
    go again None f (inl lt) = (let there = again lt in cc)
    go again None f (inr le) = (let same : k ≡ n = omega arith in ap give (sym same) ∙ e)

-- ---- dates

equal : (r : Ordering) → is_eq r ≡ true → r ≡ Equal
equal Less e = cc
equal Equal e = refl
equal Greater e = cc

module _ (n year month day : ℕ) where
  if_day_is : days_from_civil (pos year) month day ≡ pos n → if_day n year month day ≡ Some (record { year = year; month = month; day = day })
  if_day_is e = cond-true _ _ _ (ap (λ z. is_eq (int_cmp z (pos n))) e ∙ ap is_eq (tied_itself int_cmp_total (pos n)))

  if_day_only : (z : Day) → if_day n year month day ≡ Some z → (days_from_civil (pos year) month day ≡ pos n) × (record { year = year; month = month; day = day } ≡ z)
  if_day_only z e =
      let found = cond_some (eq_by_cmp int_cmp (days_from_civil (pos year) month day) (pos n)) _ _ e in
      (int_cmp-IsAntisymmetric (days_from_civil (pos year) month day) (pos n) (equal _ found.0), found.1)

date_at : (y m d : ℕ) → y < 8030 → m < 12 → d < days_in_month (pos (1970 + y)) (m + 1) → Date
date_at y m d hy hm hd = record {
  year = pos (1970 + y);
  month = m + 1;
  day = d + 1;
  year_in = (omega (arith, signed_arith), omega (arith, signed_arith));
  month_in = (omega arith, omega arith);
  day_in = (omega arith, omega arith);
}

same_pos : (a b : ℕ) → pos a ≡ pos b → a ≡ b
same_pos a b e = omega (arith, signed_arith)

module _ (n y m d : ℕ) (hy : y < 8030) (hm : m < 12) (hd : d < days_in_month (pos (1970 + y)) (m + 1)) (is : days_from_civil (pos (1970 + y)) (m + 1) (d + 1) ≡ pos n) where
  abbrev it : Day
  it = record { year = 1970 + y; month = m + 1; day = d + 1 }

  only_day : (z : Day) (v l k : ℕ) → v < 8030 → l < 12 → k < days_in_month (pos (1970 + v)) (l + 1) → if_day n (1970 + v) (l + 1) (k + 1) ≡ Some z → z ≡ it
  unfolding date_at
  only_day z v l k hv hl hk e =
      let w = if_day_only n (1970 + v) (l + 1) (k + 1) z e in
      let same = epoch_day_injective (date_at v l k hv hl hk) (date_at y m d hy hm hd) (w.0 ∙ sym is) in
      let year : 1970 + v ≡ 1970 + y = same_pos _ _ same.0 in
      sym w.1 ∙ (λ i. record { year = year i; month = same.1 i; day = same.2 i })

  abbrev in_month : ℕ → ℕ → ℕ → Option Day
  in_month v l k = if_day n (1970 + v) (l + 1) (k + 1)

  abbrev in_year : ℕ → ℕ → Option Day
  in_year v l = first_some (in_month v l) (days_in_month (pos (1970 + v)) (l + 1))

  date_is : date_of n ≡ Some it
  unfolding date_of
  date_is =
      found (λ v. first_some (λ l. first_some (λ k. if_day n (1970 + v) (l + 1) (k + 1)) (days_in_month (pos (1970 + v)) (l + 1))) 12) it 8030 y
      (λ v z hv e. let a = given_by (in_year v) 12 z e in let b = given_by (in_month v a.0) (days_in_month (pos (1970 + v)) (a.0 + 1)) z a.2 in only_day z v a.0 b.0 hv a.1 b.1 b.2) hy
      (found (λ l. first_some (λ k. if_day n (1970 + y) (l + 1) (k + 1)) (days_in_month (pos (1970 + y)) (l + 1))) it 12 m
      (λ l z hl e. let b = given_by (in_month y l) (days_in_month (pos (1970 + y)) (l + 1)) z e in only_day z y l b.0 hy hl b.1 b.2) hm
      (found (λ k. if_day n (1970 + y) (m + 1) (k + 1)) it (days_in_month (pos (1970 + y)) (m + 1)) d
      (λ k z hk e. only_day z y m k hy hm hk e) hd (if_day_is n (1970 + y) (m + 1) (d + 1) is)))

-- ---- the text

day_number : (days : ℤ) (t s : ℕ) → s < 86400000 → pos t ≡ days *ℤ pos 86400000 +ℤ pos s → (days ≡ pos (t / 86400000)) × (s ≡ t % 86400000)
day_number (pos n) t s h e = (let same : t ≡ n * 86400000 + s = omega (arith, signed_arith) in let q : n ≡ t / 86400000 = omega arith in (ap pos q, omega arith))
day_number (negsuc n) t s h e = absurd (omega (arith, signed_arith))

fields_same : (f : Fields) (t : ℕ) (date : Day) → since_midnight f ≡ t % 86400000 → f.hour ≤ 23 → f.minute ≤ 59 → f.second ≤ 59 → f.millisecond ≤ 999
    → f.year ≡ date.year → f.month ≡ date.month → f.day ≡ date.day → f ≡ fields_on t date
fields_same f t date e a b c d year month day =
    let s = t % 86400000 in
    let since : (f.hour * 60 + f.minute) * 60000 + (f.second * 1000 + f.millisecond) ≡ s =
    ap (λ n. (f.hour * 60 + f.minute) * 60000 + n) (sym (cond-false _ _ _ (ne_eqb f.second 60 (λ h. omega arith)))) ∙ e in
    let hour : f.hour ≡ s / 3600000 = omega arith in
    let minute : f.minute ≡ s / 60000 % 60 = omega arith in
    let second : f.second ≡ s / 1000 % 60 = omega arith in
    let millisecond : f.millisecond ≡ s % 1000 = omega arith in
    λ i. record { year = year i; month = month i; day = day i; hour = hour i; minute = minute i; second = second i; millisecond = millisecond i }

since_below : (f : Fields) → f.hour ≤ 23 → f.minute ≤ 59 → f.second ≤ 59 → f.millisecond ≤ 999 → since_midnight f < 86400000
since_below f a b c d =
    let other : since_midnight f ≡ (f.hour * 60 + f.minute) * 60000 + (f.second * 1000 + f.millisecond) =
    ap (λ n. (f.hour * 60 + f.minute) * 60000 + n) (cond-false _ _ _ (ne_eqb f.second 60 (λ h. omega arith))) in omega arith

pub text_once : (bytes : List ℕ) (t : ℕ) → IsTextOf bytes t → bytes ≡ time_text t
unfolding time_text
text_once bytes t is =
    let f = is.fields in
    let below = since_below f is.exists.hour is.exists.minute is.no_leap_second is.exists.millisecond in
    let parts = day_number (days_from_civil (pos f.year) f.month f.day) t (since_midnight f) below is.moment in
    let year : f.year ≡ 1970 + (f.year - 1970) = (let h = is.exists.year.0 in omega arith) in
    let month : f.month ≡ f.month - 1 + 1 = (let h = is.exists.month.0 in omega arith) in
    let day : f.day ≡ f.day - 1 + 1 = (let h = is.exists.day.0 in omega arith) in
    let in_month : f.day - 1 < days_in_month (pos (1970 + (f.year - 1970))) (f.month - 1 + 1) =
    subst (λ y. f.day - 1 < days_in_month (pos y) (f.month - 1 + 1)) year (subst (λ m. f.day - 1 < days_in_month (pos f.year) m) month
    (let h = is.exists.day.0 in let k = is.exists.day.1 in omega arith)) in
    let number : days_from_civil (pos (1970 + (f.year - 1970))) (f.month - 1 + 1) (f.day - 1 + 1) ≡ pos (t / 86400000) =
    (λ i. days_from_civil (pos (sym year i)) (sym month i) (sym day i)) ∙ parts.0 in
    let date = date_is (t / 86400000) (f.year - 1970) (f.month - 1) (f.day - 1) (let h = is.exists.year.1 in omega arith) (let h = is.exists.month.1 in omega arith) in_month number in
    is.spelled ∙ ap text (fields_same f t (record { year = 1970 + (f.year - 1970); month = f.month - 1 + 1; day = f.day - 1 + 1 }) parts.1
    is.exists.hour is.exists.minute is.no_leap_second is.exists.millisecond year month day)
    ∙ ap (λ o. unwrap_or (option_map (λ (date : Day). text (fields_on t date)) o) []) (sym date)
