-- What TARGETS lists (IRCv3 draft/chathistory, "TARGETS"), in terms of visible records.
use Rattle.std.specs.Prelude.{ℕ, ◌≡◌, ◌<◌, ◌≤◌, ◌↔◌, Contains, min, max, List}
use Rattle.std.specs.List.Sorted.{IsStrictlySortedBy}
use Rattle.chat_change.specs.Record.{Record}
use Rattle.chat_change.specs.declared.change.Change.{Change}
use Rattle.chat_history.specs.Visible.{spot_cmp, visible}
use Rattle.chat_query.specs.Scope.{Scope}
use Rattle.chat_query.specs.Page.{buffer_of}

-- some record has that moment, and none has a later one
abbrev pub IsLatestOf : List Record → ℕ → Type 0
IsLatestOf records t =
    ((r : Record) × Contains records r × (r.at ≡ t))
    × ((r : Record) → Contains records r → r.at ≤ t)

-- the moment of a buffer's latest visible record lies strictly between two moments; the buffer is seen as (moment, folded
-- target)
abbrev pub IsLatestBetween : List Change → Scope → ℕ → ℕ → ℕ × List ℕ → Type 0
IsLatestBetween changes scope t u e =
    IsLatestOf (visible changes (buffer_of scope e.1)) e.0 × (min t u < e.0) × (e.0 < max t u)

-- the list has just those buffers, and rises strictly by moment, at equal moments by target: so each stands there once
pub record IsListing (changes : List Change) (scope : Scope) (t u : ℕ) (found : List (ℕ × List ℕ)) : Type 0 where
  pub members : (e : ℕ × List ℕ) → Contains found e ↔ IsLatestBetween changes scope t u e
  pub rises : IsStrictlySortedBy spot_cmp found
