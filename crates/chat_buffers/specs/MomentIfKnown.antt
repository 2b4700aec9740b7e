-- How a moment that may not be known is kept as a number.
use Rattle.std.specs.Prelude.{ℕ, Option, Some, None, nat_le, if◌then◌else◌}
use Rattle.irc_time.specs.Time.{greatest}

-- the moment that a number stands for, where there is such a moment
abbrev pub moment_in : ℕ → Option ℕ
moment_in ms = if nat_le ms greatest then Some ms else None
