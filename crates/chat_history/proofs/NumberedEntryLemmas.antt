-- Lists of entries in the order of their keys: what is found in them, and how far the first of them come.
use Rattle.std.proofs.Common.{◌≡◌, ℕ, zero, suc, ◌≤◌, ◌<◌, max, Bool, true, false, cond, ◌&&◌, Option, Some, None, List, [], ◌∷◌, map, take, refl, sym, ◌∙◌, ap, subst, T, arith}
use Rattle.std.specs.declared.cmp.Ordering.{Ordering}
use Rattle.std.specs.declared.cmp.Ordering.TheVariants.{Less, Equal, Greater}
use Rattle.std.proofs.lemmas.Bool.Decides.{nat_tests}
use Rattle.std.proofs.lemmas.Cmp.{tied_itself}
use Rattle.std.proofs.lemmas.List.Elements.{Contains-append_right}
use Rattle.std.proofs.lemmas.Map.Lookups.{exact_unsigned}
use Rattle.std.specs.Cmp.{IsTotalOrder, Equal-is}
use Rattle.std.specs.List.{AllByRecursion}
use Rattle.std.specs.Ordering.{is_lt, is_eq, nat_cmp, eq_by_cmp, ordering_reverse, flip_args}
use Rattle.std.specs.Option.{unwrap_or}
use Rattle.std.specs.Prelude.{Contains}
use Rattle.std.specs.FinMap.{FinMap, find, is_sorted, entries, entries_sorted, get, get-entries}
use Rattle.std.specs.FinMap.Entries.{below_all}
use Rattle.chat_history.specs.Choice.{earlier, greatest}

first : (a b : Bool) → T (a && b) → T a
first true b p = tt
first false b p = p

second : (a b : Bool) → T (a && b) → T b
second true b p = p
second false b p = absurd p

reversed_not_eq : (r : Ordering) → T (is_lt r) → is_eq (ordering_reverse r) ≡ false
reversed_not_eq Less h = refl
reversed_not_eq Equal h = absurd h
reversed_not_eq Greater h = absurd h

-- ---- each entry is found under its key

module _ {K X : Type 0} {R : K → K → Ordering} (o : IsTotalOrder R) where
  found_later : (x : K × X) (es fs : List (K × X)) → T (below_all R x.0 es) → AllByRecursion (λ e. find R e.0 fs ≡ Some e.1) es → AllByRecursion (λ e. find R e.0 (x ∷ fs) ≡ Some e.1) es
  found_later x [] fs s h = tt
  found_later x (e ∷ es) fs s h = (
    ap (λ b. cond b (Some x.1) (find R e.0 fs)) (ap is_eq (o.antisymm e.0 x.0) ∙ reversed_not_eq (R x.0 e.0) (first _ _ s)) ∙ h.0,
    found_later x es fs (second _ _ s) h.1,
  )

  pub all_found : (es : List (K × X)) → T (is_sorted R es) → AllByRecursion (λ e. find R e.0 es ≡ Some e.1) es
  all_found [] s = tt
  all_found (e ∷ es) s = (
    ap (λ b. cond b (Some e.1) (find R e.0 es)) (ap is_eq (tied_itself o e.0)),
    found_later e es es (first _ _ s) (all_found es (second _ _ s)),
  )

  got : (m : FinMap R X) (es : List (K × X)) → AllByRecursion (λ e. find R e.0 (entries m) ≡ Some e.1) es → AllByRecursion (λ e. get m e.0 ≡ Some e.1) es
  got m [] h = tt
  got m (e ∷ es) h = (get-entries m e.0 ∙ h.0, got m es h.1)

  pub entries_found : (m : FinMap R X) → AllByRecursion (λ e. get m e.0 ≡ Some e.1) (entries m)
  entries_found m = got m (entries m) (all_found (entries m) (entries_sorted m))

-- ---- entries by number

pub number_is : (n k : ℕ) → eq_by_cmp nat_cmp n k ≡ true → n ≡ k
number_is n k e = exact_unsigned n k ((Equal-is (nat_cmp n k)).0 e)

lt_is : (a b : ℕ) → T (is_lt (nat_cmp a b)) → a < b
lt_is a b h = grind (arith, nat_tests)

pub greatest_more : (a d : ℕ) (u : Option ℕ) → unwrap_or (earlier (flip_args nat_cmp) (Some a) u) d ≤ max a (unwrap_or u d)
greatest_more a d None = omega arith
greatest_more a d (Some b) = grind (arith, nat_tests)

module _ {X : Type 0} where
  found_above : (a n : ℕ) (x : X) (es : List (ℕ × X)) → T (below_all nat_cmp a es) → find nat_cmp n es ≡ Some x → a < n
  found_above a n x [] s h = cc
  found_above a n x (e ∷ es) s h =
      elim (eq_by_cmp nat_cmp n e.0) as (λ b. eq_by_cmp nat_cmp n e.0 ≡ b → cond b (Some e.1) (find nat_cmp n es) ≡ Some x → a < n) [
        | true ↦ λ p _. subst (λ k. a < k) (sym (number_is n e.0 p)) (lt_is a e.0 (first _ _ s))
        | false ↦ λ _ h. found_above a n x es (second _ _ s) h
      ] refl h

  pub found_within : (most n : ℕ) (x : X) (es : List (ℕ × X)) → AllByRecursion (λ e. e.0 ≤ most) es → find nat_cmp n es ≡ Some x → n ≤ most
  found_within most n x [] s h = cc
  found_within most n x (e ∷ es) s h =
      elim (eq_by_cmp nat_cmp n e.0) as (λ b. eq_by_cmp nat_cmp n e.0 ≡ b → cond b (Some e.1) (find nat_cmp n es) ≡ Some x → n ≤ most) [
        | true ↦ λ p _. subst (λ k. k ≤ most) (sym (number_is n e.0 p)) s.0
        | false ↦ λ _ h. found_within most n x es s.1 h
      ] refl h

  pub Contains-found : (n : ℕ) (x : X) (es : List (ℕ × X)) → find nat_cmp n es ≡ Some x → Contains (map (λ (e : ℕ × X). e.1) es) x
  Contains-found n x [] h = cc
  Contains-found n x (e ∷ es) h =
      let values = map (λ (e : ℕ × X). e.1) es in
      elim (eq_by_cmp nat_cmp n e.0) as (λ b. cond b (Some e.1) (find nat_cmp n es) ≡ Some x → Contains (e.1 ∷ values) x) [
        | true ↦ λ h. (0, omega arith, cc h)
        | false ↦ λ h. Contains-append_right (e.1 ∷ []) values x (Contains-found n x es h)
      ] h

  -- of entries in order, the first few have each entry whose number is no greater than the greatest of theirs
  pub Contains-first : (m n d : ℕ) (x : X) (es : List (ℕ × X)) → d < n → T (is_sorted nat_cmp es) → find nat_cmp n es ≡ Some x → n ≤ unwrap_or (greatest (map (λ (e : ℕ × X). e.0) (take m es))) d → Contains (map (λ (e : ℕ × X). e.1) (take m es)) x
  Contains-first zero n d x es l s h b = absurd (omega (arith, l, b))
  Contains-first (suc m) n d x [] l s h b = cc
  Contains-first (suc m) n d x (e ∷ es) l s h b =
      let values = map (λ (e : ℕ × X). e.1) (take m es) in
      let others = greatest (map (λ (e : ℕ × X). e.0) (take m es)) in
      elim (eq_by_cmp nat_cmp n e.0) as (λ t. cond t (Some e.1) (find nat_cmp n es) ≡ Some x → Contains (e.1 ∷ values) x) [
        | true ↦ λ h. (0, omega arith, cc h)
        | false ↦ λ h.
            let above = found_above e.0 n x es (first _ _ s) h in
            let more = greatest_more e.0 d others in
            Contains-append_right (e.1 ∷ []) values x (Contains-first m n d x es l (second _ _ s) h (omega (arith, above, more, b)))
      ] h

-- no number is above what each is within
pub greatest_within : (most d : ℕ) (ns : List ℕ) → d ≤ most → AllByRecursion (λ n. n ≤ most) ns → unwrap_or (greatest ns) d ≤ most
greatest_within most d [] l h = l
greatest_within most d (n ∷ ns) l h =
    let rest = greatest_within most d ns l h.1 in
    let here = h.0 in
    let more = greatest_more n d (greatest ns) in
    omega (arith, rest, here, more)

-- what holds of each entry's value holds of a value that is found
pub found_all : {X : Type 0} (P : X → Type 0) (n : ℕ) (x : X) (es : List (ℕ × X)) → AllByRecursion (λ e. P e.1) es → find nat_cmp n es ≡ Some x → P x
found_all P n x [] s h = cc
found_all P n x (e ∷ es) s h =
    elim (eq_by_cmp nat_cmp n e.0) as (λ b. cond b (Some e.1) (find nat_cmp n es) ≡ Some x → P x) [
      | true ↦ λ h. let same : e.1 ≡ x = cc h in subst P same s.0
      | false ↦ λ h. found_all P n x es s.1 h
    ] h

-- the greatest of some numbers is no less than the first
pub greatest_least : (a d : ℕ) (u : Option ℕ) → a ≤ unwrap_or (earlier (flip_args nat_cmp) (Some a) u) d
greatest_least a d None = omega arith
greatest_least a d (Some b) = grind (arith, nat_tests)
