-- The channels that were entered, among the parts of a batch.
use Rattle.std.specs.Prelude.{ℕ, ◌≡◌, List, [], ◌∷◌, Option, Some}
use Rattle.network_server.specs.declared.batch.BatchPart.{BatchPart}
use Rattle.network_server.specs.declared.batch.BatchPart.TheVariants.{Entered}

-- it is that one alone, if there is one
abbrev pub OnlyEntered : Option (List ℕ) → List BatchPart → Type 0
OnlyEntered channel [] = Unit {0}
OnlyEntered channel (Entered entered ∷ parts) =
    (channel ≡ Some entered) × OnlyEntered channel parts
OnlyEntered channel (_ ∷ parts) = OnlyEntered channel parts
