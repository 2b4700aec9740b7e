-- Which node it is.
use Rattle.std.specs.Prelude.{◌≡◌, ℕ}
use Rattle.shared_node.specs.declared.unnamed.Unnamed.{Unnamed}

-- the node to be has this book for its history, and this name and so many parts for its count of changes
abbrev pub IsNamed : ℕ → ℕ → ℕ → Unnamed → Type 0
IsNamed book name parts node =
    (node.seen.book ≡ book) × (node.blank.name ≡ name) × (node.blank.parts ≡ parts)
