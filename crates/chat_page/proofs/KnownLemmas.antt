-- Which queries have a page.
use Rattle.std.proofs.Common.{◌≡◌, ◌∙◌, ℕ, Option, Some, None, List, true, refl, sym, ap}
use Rattle.std.specs.Prelude.{◌&&◌, is_some}
use Rattle.std.specs.Option.{option_map, option_and_then}
use Rattle.chat_change.specs.Buffer.{Buffer}
use Rattle.chat_change.specs.declared.change.Change.{Change}
use Rattle.chat_history.specs.History.{norm, position_of}
use Rattle.chat_history.proofs.CallerLemmas.{position_in-norm}
use Rattle.chat_query.specs.Scope.{Scope}
use Rattle.chat_query.specs.declared.query.Selector.{Selector}
use Rattle.chat_query.specs.declared.query.Selector.TheVariants.{Message}
use Rattle.chat_query.specs.declared.query.Query.TheVariants as queries
use Rattle.chat_query.specs.Page.{spot, page, page_in, buffer_of, point_of}

some_mapped : {A B : Type 0} (f : A → B) (o : Option A) → is_some (option_map f o) ≡ is_some o
some_mapped f None = refl
some_mapped f (Some x) = refl

some_both : {A B : Type 0} (f : A → A → B) (o u : Option A) → is_some (option_and_then (λ x. option_map (f x) u) o) ≡ (is_some o && is_some u)
some_both f None u = refl
some_both f (Some x) u = some_mapped (f x) u

-- a message has a point where it has a position
pub point_known : (changes : List Change) (b : Buffer) (m : List ℕ) (t : Option ℕ) → t ≡ position_of changes b m → is_some (point_of (norm changes) b (Message m)) ≡ is_some t
point_known changes b m t e = some_mapped (λ (at : ℕ). spot at m) _ ∙ ap is_some (position_in-norm changes b m ∙ sym e)

module _ (changes : List Change) (scope : Scope) (target : List ℕ) (s : Selector) (limit : ℕ) where
  pub latest_known : is_some (page changes scope (queries.Latest target (Some s) limit)) ≡ is_some (point_of (norm changes) (buffer_of scope target) s)
  unfolding page_in
  latest_known = some_mapped _ (point_of (norm changes) (buffer_of scope target) s)

  pub before_known : is_some (page changes scope (queries.Before target s limit)) ≡ is_some (point_of (norm changes) (buffer_of scope target) s)
  unfolding page_in
  before_known = some_mapped _ (point_of (norm changes) (buffer_of scope target) s)

  pub after_known : is_some (page changes scope (queries.After target s limit)) ≡ is_some (point_of (norm changes) (buffer_of scope target) s)
  unfolding page_in
  after_known = some_mapped _ (point_of (norm changes) (buffer_of scope target) s)

  pub around_known : is_some (page changes scope (queries.Around target s limit)) ≡ is_some (point_of (norm changes) (buffer_of scope target) s)
  unfolding page_in
  around_known = some_mapped _ (point_of (norm changes) (buffer_of scope target) s)

  pub between_known : (u : Selector) → is_some (page changes scope (queries.Between target s u limit)) ≡ (is_some (point_of (norm changes) (buffer_of scope target) s) && is_some (point_of (norm changes) (buffer_of scope target) u))
  unfolding page_in
  between_known u = some_both _ (point_of (norm changes) (buffer_of scope target) s) (point_of (norm changes) (buffer_of scope target) u)

pub latest_always : (changes : List Change) (scope : Scope) (target : List ℕ) (limit : ℕ) → is_some (page changes scope (queries.Latest target None limit)) ≡ true
unfolding page_in
latest_always changes scope target limit = refl

pub targets_always : (changes : List Change) (scope : Scope) (t u limit : ℕ) → is_some (page changes scope (queries.Targets t u limit)) ≡ true
unfolding page_in
targets_always changes scope t u limit = refl
