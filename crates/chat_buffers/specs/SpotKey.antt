-- Where records stand, as keys of a map: the prefix of a spot.
use Rattle.std.specs.Prelude.{ℕ, ◌-◌, ◌^◌}
use Rattle.chat_history.specs.declared.cut.Spot.{Spot}

-- as the latest spot comes first, the prefix is the less the later it is
abbrev pub spot_prefix : Spot → ℕ
spot_prefix s = 2 ^ 64 - 1 - s.at
