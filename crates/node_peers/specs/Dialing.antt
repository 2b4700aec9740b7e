-- When a peer is dialed, and when the operator is told that there is no connection with it.
use Rattle.std.specs.Prelude.{ℕ, Bool, false, Option, None, Some, ◌+◌, ◌-◌, ◌^◌, min, nat_le, if◌then◌else◌}
use Rattle.node_peers.specs.declared.dialing.Dialing.{Dialing}
use Rattle.node_peers.specs.declared.dialing.TheConstants.{RETRY, ABSENT}

-- the moment so many milliseconds later
abbrev pub later : ℕ → ℕ → ℕ
later now span = min (now + span) (2 ^ 64 - 1)

-- a connection ended at that moment, or could not be made
abbrev pub put_off : ℕ → Dialing → Dialing
put_off now d = if d.is_own then record d { dial_at = Some (later now RETRY) } else d

-- there is no connection from that moment on
abbrev pub missed : ℕ → Dialing → Dialing
missed now d = if d.is_own then record d { absent_at = Some (later now ABSENT) } else d

-- at that moment there was no connection yet
abbrev pub at_once : Bool → ℕ → Dialing
at_once is_own now =
    missed now (record { is_own = is_own; dial_at = if is_own then Some now else None; absent_at = None })

-- that moment has come
abbrev pub is_due : ℕ → Option ℕ → Bool
is_due now None = false
is_due now (Some at) = nat_le at now

-- the earlier one, where there is any
abbrev pub earlier : Option ℕ → Option ℕ → Option ℕ
earlier None other = other
earlier (Some a) None = Some a
earlier (Some a) (Some b) = Some (min a b)
