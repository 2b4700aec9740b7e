-- Pages, from the records between two cuts.
use Rattle.std.proofs.Common.{◌≡◌, ◌-◌, ℕ, zero, suc, Bool, true, false, not, cond, Option, Some, None, List, [], ◌∷◌, length, take, filter, map, min, refl, sym, ◌∙◌, ap, arith, length-drop}
use Rattle.std.specs.Prelude.{◌&&◌, ◌==◌, IsSome}
use Rattle.std.specs.Option.{option_map, option_and_then}
use Rattle.std.proofs.lemmas.Bool.{false≢true, cond-false}
use Rattle.std.proofs.lemmas.Bool.Decides.{nat_tests}
use Rattle.chat_change.specs.Record.{Record}
use Rattle.chat_history.specs.Cut.{is_after as is_after_cut}
use Rattle.chat_history.specs.declared.cut.Cut.{Cut}
use Rattle.chat_history.specs.declared.cut.Cut.TheVariants.{Bottom, Top}
use Rattle.chat_page.specs.Cuts.{between_cuts}
use Rattle.chat_change.specs.declared.change.Change.{Change}
use Rattle.chat_history.specs.History.{norm}
use Rattle.chat_query.specs.Scope.{Scope}
use Rattle.chat_query.specs.declared.query.Selector.{Selector}
use Rattle.chat_query.specs.declared.query.Query.TheVariants as queries
use Rattle.chat_page.specs.declared.pager.SelectorSide.TheVariants.{LatestAfter, Before, After, Around}
use Rattle.chat_query.specs.Page.{Point, is_before, is_after, last, page, page_in, of_records, buffer_of, point_of}
use Rattle.chat_page.specs.Answer.{side_of, between_of}
use Rattle.chat_page.proofs.CutLemmas.{filter_alike}

and_true : (b : Bool) → (b && true) ≡ b
and_true true = refl
and_true false = refl

turned : (a b : Bool) → not a ≡ b → a ≡ not b
turned true b e = ap not e
turned false b e = ap not e

pub all_between : (records : List Record) → between_cuts Bottom Top records ≡ records
all_between [] = refl
all_between (r ∷ records) = ap (λ l. r ∷ l) (all_between records)

pub before_is : (high : Cut) (p : Point) → ((r : Record) → not (is_after_cut high r) ≡ is_before p r) → (records : List Record) → between_cuts Bottom high records ≡ filter (is_before p) records
before_is high p h records = filter_alike _ _ h records

pub not_before_is : (low : Cut) (p : Point) → ((r : Record) → not (is_after_cut low r) ≡ is_before p r) → (records : List Record)
    → between_cuts low Top records ≡ filter (λ r. not (is_before p r)) records
not_before_is low p h records = filter_alike _ _ (λ r. and_true (is_after_cut low r) ∙ turned _ _ (h r)) records

pub between_is : (low high : Cut) (p q : Point) → ((r : Record) → is_after_cut low r ≡ is_after p r) → ((r : Record) → not (is_after_cut high r) ≡ is_before q r)
    → (records : List Record) → between_cuts low high records ≡ filter (λ r. is_after p r && is_before q r) records
between_is low high p q g h records = filter_alike _ _ (λ r. ap (λ b. b && not (is_after_cut high r)) (g r) ∙ ap (λ b. is_after p r && b) (h r)) records

-- ---- the page of BETWEEN

no_items : {A : Type 0} (xs : List A) → length xs ≡ 0 → xs ≡ []
no_items [] e = refl
no_items (x ∷ xs) e = absurd (omega arith)

some : (n : ℕ) → (suc n == 0) ≡ false
some n = grind (arith, nat_tests)

module _ {A : Type 0} (n : ℕ) (page rising falling : List A) (size : ℕ) (empty : Bool) where
  pub turns : page ≡ take n rising → size ≡ length page → empty ≡ (size == 0) → empty ≡ true
      → last n falling ≡ cond (length rising == 0) (last n falling) (take n rising)
  turns e s t u = go n rising (let z : size ≡ 0 = grind (arith, nat_tests) in sym (ap length e) ∙ sym s ∙ z) where
    go : (k : ℕ) (up : List A) → length (take k up) ≡ 0 → last k falling ≡ cond (length up == 0) (last k falling) (take k up)
    go k [] h = refl
    go zero (x ∷ up) h = no_items (last 0 falling) (omega (arith, length-drop (length falling - 0) falling)) ∙ sym (cond-false _ _ _ (some (length up)))
    go (suc k) (x ∷ up) h = absurd (omega arith)

  pub goes_on : page ≡ take n rising → size ≡ length page → empty ≡ (size == 0) → empty ≡ false
      → page ≡ cond (length rising == 0) (last n falling) (take n rising)
  goes_on e s t u = e ∙ go n rising (let z : (size ≡ 0 → ⊥) = λ z. absurd (grind (arith, nat_tests)) in λ h. z (s ∙ ap length e ∙ h)) where
    go : (k : ℕ) (up : List A) → (length (take k up) ≡ 0 → ⊥) → take k up ≡ cond (length up == 0) (last k falling) (take k up)
    go zero [] h = absurd (h refl)
    go (suc k) [] h = absurd (h refl)
    go k (x ∷ up) h = sym (cond-false _ _ _ (some (length up)))

-- ---- the points that were found

pub at_point : (cut : Point → List Record) (wanted point : Option Point) (records : List Record)
    → wanted ≡ point → IsSome point → ((p : Point) → point ≡ Some p → records ≡ cut p)
    → option_map of_records (option_map cut wanted) ≡ Some (of_records records)
at_point cut wanted None records e some is = absurd (false≢true some)
at_point cut wanted (Some p) records e some is =
    ap (λ w. option_map of_records (option_map cut w)) e ∙ ap (λ l. Some (of_records l)) (sym (is p refl))

pub at_points : (cut : Point → Point → List Record) (first second one other : Option Point) (records : List Record)
    → first ≡ one → IsSome one → second ≡ other → IsSome other
    → ((p q : Point) → one ≡ Some p → other ≡ Some q → records ≡ cut p q)
    → option_map of_records (option_and_then (λ p. option_map (cut p) second) first) ≡ Some (of_records records)
at_points cut first second None other records e some f other_some is = absurd (false≢true some)
at_points cut first second (Some p) other records e some f other_some is =
    ap (λ w. option_map of_records (option_and_then (λ p. option_map (cut p) second) w)) e
    ∙ at_point (cut p) second other records f other_some (λ q g. is p q refl g)

-- ---- the page of each query

joined : {A B C : Type 0} (f : A → B) (g : B → C) (o : Option A) → option_map g (option_map f o) ≡ option_map (λ x. g (f x)) o
joined f g None = refl
joined f g (Some x) = refl

joined_both : {A B C : Type 0} (f : A → A → B) (g : B → C) (o u : Option A)
    → option_map g (option_and_then (λ x. option_map (f x) u) o) ≡ option_and_then (λ x. option_map (λ y. g (f x y)) u) o
joined_both f g None u = refl
joined_both f g (Some x) u = joined (f x) g u

module _ (changes : List Change) (scope : Scope) (target : List ℕ) (s : Selector) (limit : ℕ) where
  pub latest_after_page : option_map of_records (side_of (norm changes) (buffer_of scope target) s LatestAfter (min limit scope.maximum)) ≡ page changes scope (queries.Latest target (Some s) limit)
  unfolding page_in
  latest_after_page = joined _ of_records (point_of (norm changes) (buffer_of scope target) s)

  pub before_page : option_map of_records (side_of (norm changes) (buffer_of scope target) s Before (min limit scope.maximum)) ≡ page changes scope (queries.Before target s limit)
  unfolding page_in
  before_page = joined _ of_records (point_of (norm changes) (buffer_of scope target) s)

  pub after_page : option_map of_records (side_of (norm changes) (buffer_of scope target) s After (min limit scope.maximum)) ≡ page changes scope (queries.After target s limit)
  unfolding page_in
  after_page = joined _ of_records (point_of (norm changes) (buffer_of scope target) s)

  pub around_page : option_map of_records (side_of (norm changes) (buffer_of scope target) s Around (min limit scope.maximum)) ≡ page changes scope (queries.Around target s limit)
  unfolding page_in
  around_page = joined _ of_records (point_of (norm changes) (buffer_of scope target) s)

  pub between_page : (u : Selector) → option_map of_records (between_of (norm changes) (buffer_of scope target) s u (min limit scope.maximum)) ≡ page changes scope (queries.Between target s u limit)
  unfolding page_in
  between_page u = joined_both _ of_records (point_of (norm changes) (buffer_of scope target) s) (point_of (norm changes) (buffer_of scope target) u)
