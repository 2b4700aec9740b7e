-- After how many milliseconds a peer is dialed again with which there has been no connection since a moment, if one is known.
use Rattle.std.specs.Prelude.{ℕ, ◌-◌, nat_lt, Option, None, Some, if◌then◌else◌}
use Rattle.bnc_keep.specs.declared.dialing.TheConstants.{FIRST, NEXT, ABSENT, LAST}

abbrev pub pause : Option ℕ → ℕ → ℕ
pause None now = FIRST
pause (Some since) now = if nat_lt (now - since) ABSENT then NEXT else LAST

abbrev pub missed_since : Option ℕ → ℕ → ℕ
missed_since None now = now
missed_since (Some since) now = since
