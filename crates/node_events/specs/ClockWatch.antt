-- Whether the wall clock kept time from one look at the clocks to the next.
use Rattle.std.specs.Prelude.{ℕ, ◌+◌, ◌-◌, Option, Some, None, nat_lt, if◌then◌else◌}
use Rattle.node_events.specs.declared.clocks.Clocks.{Clocks}
use Rattle.node_events.specs.declared.clocks.Leap.{Leap}
use Rattle.node_events.specs.declared.clocks.Leap.TheVariants.{Ahead, Back}
use Rattle.node_events.specs.declared.clock_watch.TheConstants.{MOST}

-- by how much the wall clock is ahead of where the monotonic clock would have taken it; 0 where it isn't
abbrev pub ahead : Clocks → Clocks → ℕ
ahead last this = (this.wall + last.monotonic) - (last.wall + this.monotonic)

-- by how much it is behind
abbrev pub behind : Clocks → Clocks → ℕ
behind last this = (last.wall + this.monotonic) - (this.wall + last.monotonic)

-- it leapt where that is more than five minutes
abbrev pub leap : Clocks → Clocks → Option Leap
leap last this =
    if nat_lt MOST (ahead last this)
    then Some (Ahead (ahead last this))
    else (if nat_lt MOST (behind last this) then Some (Back (behind last this)) else None)

-- ---- what may happen to the clocks between two looks

-- so many milliseconds pass
abbrev pub after : ℕ → Clocks → Clocks
after time clocks =
    record { wall = clocks.wall + time; monotonic = clocks.monotonic + time }

-- the wall clock is set ahead by so many
abbrev pub set_ahead : ℕ → Clocks → Clocks
set_ahead by clocks = record clocks { wall = clocks.wall + by }

-- it is set back by so many
abbrev pub set_back : ℕ → Clocks → Clocks
set_back by clocks = record clocks { wall = clocks.wall - by }
