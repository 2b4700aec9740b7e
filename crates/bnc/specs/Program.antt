-- How the program ends, by what its words ask for.
use Rattle.std.specs.Prelude.{◌≡◌, ℕ, List, Option, None, Some, Result, Err}
use Rattle.bnc.specs.declared.ending.End.{End}
use Rattle.bnc.specs.declared.ending.End.TheVariants.{Usage}
use Rattle.bnc.specs.Words.{Command, Replay, Serve, Names}

-- `serves` says how a node at a path ends, and `replays` how a script of those names does.
abbrev pub EndsAs : (List ℕ → Result (Unit {0}) End → Type 0)
    → (Names → Result (Unit {0}) End → Type 0) → Option Command → Result (Unit {0}) End → Type 0
EndsAs serves replays None result = result ≡ Err Usage
EndsAs serves replays (Some (Serve path)) result = serves path result
EndsAs serves replays (Some (Replay names)) result = replays names result
