-- Moments in lines.
use Rattle.std.specs.Prelude.{ℕ, List, Option}
use Rattle.irc_time.specs.Time.{greatest}
use Rattle.byte_text.specs.Number.{number_to}

-- the moment that a text spells, as milliseconds after 1970 began
abbrev pub moment_of : List ℕ → Option ℕ
moment_of text = number_to greatest text
