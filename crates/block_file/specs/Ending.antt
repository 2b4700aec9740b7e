-- What may stand behind the last whole block of a file.
use Rattle.std.specs.Prelude.{◌≡◌, ◌≤◌, ◌+◌, ℕ, ⊤, List, [], ◌∷◌, ◌++◌, length, drop}
use Rattle.block_file.specs.Blocks.{IsNoBlock, most, open_gate, closed_gate}

-- behind none of the line ends in these bytes a whole open block begins
abbrev pub HasNoLaterBlock : List ℕ → Type 0
HasNoLaterBlock [] = ⊤
HasNoLaterBlock (byte ∷ after) = (byte ≡ 10 → IsNoBlock after) × HasNoLaterBlock after

-- an open gate begins the bytes, and a line's end and a closed gate end them: they were a block, whatever its head says
abbrev pub IsFinished : List ℕ → Type 0
IsFinished end = (middle : List ℕ) × (end ≡ open_gate ∷ middle ++ 13 ∷ 10 ∷ closed_gate ∷ [])

-- What one append that was cut short may leave: no more than one block and a gate, which wasn't finished, with no whole open
-- block behind its first byte or behind a line's end.
pub record IsTornEnd (end : List ℕ) : Type 0 where
  pub short : length end ≤ most + 12
  pub unfinished : IsFinished end → ⊥
  pub none_next : IsNoBlock (drop 1 end)
  pub none_later : HasNoLaterBlock end
