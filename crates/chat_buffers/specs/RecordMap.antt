-- The latest of the records that are filed by where they stand.
use Rattle.std.specs.Prelude.{ℕ, ◌≡◌, Option, Some, None, List, []}
use Rattle.chat_change.specs.Record.{Record}
use Rattle.chat_history.specs.Cut.{latest_first}
use Rattle.chat_history.specs.declared.cut.Spot.{Spot}
use Rattle.ordered_maps.specs.Ends.{IsLeast}

-- it is the moment of the first entry, or none where there is no entry
abbrev pub IsLatestIn : List (Spot × Record) → Option ℕ → Type 0
IsLatestIn entries None = entries ≡ []
IsLatestIn entries (Some t) =
    (e : Spot × Record) × IsLeast latest_first e entries × (e.0.at ≡ t)
