-- What it means to be up to date with a node, up to a number.
use Rattle.std.specs.Prelude.{◌≡◌, ◌≤◌, ℕ, Some, List}
use Rattle.std.specs.FinMap.{get}
use Rattle.chat_change.specs.declared.change.Change.{Change}
use Rattle.chat_change.specs.Key.{Key}
use Rattle.chat_history.specs.History.{norm, Includes}
use Rattle.chat_history.specs.Numbering.{number}

-- whoever took `taken` includes every piece that a node which took `changes` holds with a number up
-- to `upto`
abbrev pub IncludesUpTo : List Change → ℕ → List Change → ℕ → Type 0
IncludesUpTo taken start changes upto =
    (k : Key) (c : Change) → get (norm changes) k ≡ Some c → number start changes k ≤ upto →
    Includes taken c
