-- What a page has was posted in the buffer that is asked for.
use Rattle.std.proofs.Common.{◌-◌, ◌/◌, ℕ, Bool, true, false, not, cond, Option, Some, None, List, length, take, filter, min, nat_lt}
use Rattle.std.specs.Prelude.{Contains, ◌&&◌, ◌==◌, IfSome}
use Rattle.std.specs.Option.{option_map, option_and_then}
use Rattle.std.specs.List.{All}
use Rattle.std.proofs.lemmas.List.Elements.{All-append, All-take, All-drop, All-filter, All-contains, All-contains_itself, All-weaker}
use Rattle.chat_change.specs.Buffer.{Buffer}
use Rattle.chat_change.specs.Record.{Record}
use Rattle.chat_change.specs.declared.change.Change.{Change}
use Rattle.chat_history.specs.History.{norm}
use Rattle.chat_history.specs.Visible.{visible}
use Rattle.chat_history.proofs.CallerLemmas.{among, norm_keyed, visible_posted}
use Rattle.chat_query.specs.Scope.{Scope}
use Rattle.chat_query.specs.declared.query.Query.{Query}
use Rattle.chat_query.specs.declared.query.Query.TheVariants.{Latest, Before, After, Around, Between, Targets}
use Rattle.chat_query.specs.Page.{Point, point_of, is_before, is_after, last, around_cut, between_cut, buffer_of, buffers_in, lies_between, targets_cut, Page, of_records, page_in, page}
use Rattle.chat_query.specs.Posted.{IsPostedIn, IsListed, IsOfTarget, IsOfPosts}
use Rattle.chat_query.proofs.ListingLemmas.{listing_is}

all_posted : (changes : List Change) (b : Buffer) → All (IsPostedIn changes b) (visible changes b)
all_posted changes b = All-weaker (Contains (visible changes b)) (IsPostedIn changes b) (visible_posted changes b) (visible changes b) (All-contains_itself (visible changes b))

either_all : {A : Type 0} (P : A → Type 0) (b : Bool) (xs ys : List A) → All P xs → All P ys → All P (cond b xs ys)
either_all P true xs ys p q = p
either_all P false xs ys p q = q

last_all : {A : Type 0} (P : A → Type 0) (n : ℕ) (xs : List A) → All P xs → All P (last n xs)
last_all P n xs all = All-drop P (length xs - n) xs all

module _ (P : Record → Type 0) where
  around_all : (n : ℕ) (rs : List Record) (s : Point) → All P rs → All P (around_cut n rs s)
  around_all n rs s all =
      All-append P (last (n / 2) (filter (is_before s) rs)) (take (n - n / 2) (filter (λ r. not (is_before s r)) rs))
      (last_all P (n / 2) (filter (is_before s) rs) (All-filter (is_before s) P rs all))
      (All-take P (n - n / 2) (filter (λ r. not (is_before s r)) rs) (All-filter (λ r. not (is_before s r)) P rs all))

  between_all : (n : ℕ) (rs : List Record) (s u : Point) → All P rs → All P (between_cut n rs s u)
  between_all n rs s u all =
      either_all P (length (filter (λ r. is_after s r && is_before u r) rs) == 0) _ _
      (last_all P n _ (All-filter (λ r. is_after u r && is_before s r) P rs all))
      (All-take P n _ (All-filter (λ r. is_after s r && is_before u r) P rs all))

-- ---- pages of records

module _ {A B : Type 0} (Q : B → Type 0) where
  some_mapped : (f : A → B) (o : Option A) → ((x : A) → Q (f x)) → IfSome (option_map f o) Q
  some_mapped f None h = tt
  some_mapped f (Some x) h = h x

  some_mapped_both : (f : A → A → B) (o u : Option A) → ((x y : A) → Q (f x y)) → IfSome (option_and_then (λ x. option_map (f x) u) o) Q
  some_mapped_both f None u h = tt
  some_mapped_both f (Some x) u h = some_mapped (f x) u (h x)

module _ (changes : List Change) (scope : Scope) where
  of_list : (target : List ℕ) (rs : List Record) → All (IsPostedIn changes (buffer_of scope target)) rs → IsOfTarget changes scope (Some target) (of_records rs)
  of_list target rs all r m = All-contains (IsPostedIn changes (buffer_of scope target)) rs r all m

  -- a buffer is listed by its latest visible record, which was posted
  is_listed : (e : ℕ × List ℕ) → Contains (buffers_in (norm changes) scope) e → IsListed changes scope e
  is_listed e m =
      let latest = (listing_is (norm changes) (norm_keyed changes) scope e).0 (among (buffers_in (norm changes) scope) e m) in
      (latest.0.0, visible_posted changes (buffer_of scope e.1) latest.0.0 latest.0.1, latest.0.2)

  buffers_all : All (IsListed changes scope) (buffers_in (norm changes) scope)
  buffers_all = All-weaker (Contains (buffers_in (norm changes) scope)) (IsListed changes scope) is_listed (buffers_in (norm changes) scope) (All-contains_itself (buffers_in (norm changes) scope))

  targets_all : (n t u : ℕ) → All (IsListed changes scope) (targets_cut n t u (buffers_in (norm changes) scope))
  targets_all n t u =
      let found = All-filter (lies_between t u) (IsListed changes scope) (buffers_in (norm changes) scope) buffers_all in
      either_all (IsListed changes scope) (nat_lt t u) _ _ (All-take (IsListed changes scope) n _ found) (last_all (IsListed changes scope) n _ found)

  abbrev Posted : List ℕ → Record → Type 0
  Posted target = IsPostedIn changes (buffer_of scope target)

  abbrev Answers : List ℕ → Page → Type 0
  Answers target = IsOfTarget changes scope (Some target)

  all : (target : List ℕ) → All (Posted target) (visible changes (buffer_of scope target))
  all target = all_posted changes (buffer_of scope target)

  pub page_posted : (query : Query) → IfSome (page changes scope query) (IsOfPosts changes scope query)
  unfolding page_in
  page_posted (Latest target None limit) = of_list target _ (last_all (Posted target) (min limit scope.maximum) _ (all target))
  page_posted (Latest target (Some s) limit) =
      some_mapped (Answers target) _ (point_of (norm changes) (buffer_of scope target) s)
      (λ p. of_list target _ (last_all (Posted target) (min limit scope.maximum) _ (All-filter (is_after p) (Posted target) _ (all target))))
  page_posted (Before target s limit) =
      some_mapped (Answers target) _ (point_of (norm changes) (buffer_of scope target) s)
      (λ p. of_list target _ (last_all (Posted target) (min limit scope.maximum) _ (All-filter (is_before p) (Posted target) _ (all target))))
  page_posted (After target s limit) =
      some_mapped (Answers target) _ (point_of (norm changes) (buffer_of scope target) s)
      (λ p. of_list target _ (All-take (Posted target) (min limit scope.maximum) _ (All-filter (is_after p) (Posted target) _ (all target))))
  page_posted (Around target s limit) =
      some_mapped (Answers target) _ (point_of (norm changes) (buffer_of scope target) s)
      (λ p. of_list target _ (around_all (Posted target) (min limit scope.maximum) _ p (all target)))
  page_posted (Between target s u limit) =
      some_mapped_both (Answers target) _ (point_of (norm changes) (buffer_of scope target) s) (point_of (norm changes) (buffer_of scope target) u)
      (λ p q. of_list target _ (between_all (Posted target) (min limit scope.maximum) _ p q (all target)))
  page_posted (Targets t u limit) = (let all = targets_all (min limit scope.maximum) t u in λ e m. All-contains (IsListed changes scope) _ e all m)
