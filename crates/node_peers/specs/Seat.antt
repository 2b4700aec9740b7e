-- A connection of the table.
use Rattle.std.specs.Prelude.{ℕ, ◌≡◌, ◌+◌, Bool, true, false, Option, None, Some, is_some, nat_le, ◌&&◌, not, if◌then◌else◌}
use Rattle.gossip_link.specs.Pace as pace
use Rattle.node_peers.specs.declared.entry.TheConstants.{PATIENCE}
use Rattle.node_peers.specs.declared.loss.PeerLoss.{PeerLoss}
use Rattle.node_peers.specs.declared.loss.PeerLoss.TheVariants.{Unheard, Unacknowledged, Unregistered}
use Rattle.node_peers.specs.declared.quiet.TheConstants.{GONE}
use Rattle.node_peers.specs.PeerState.{PeerState}

-- In turn:
--   peer        what its connection came to
--   dialed      the place of the peer to which this node opened it, where this node did
--   order       how many connections came before it
--   since       when it came, in milliseconds
--   is_awaited  whether it is to make way for another one
pub record Seat : Type 0 where
  pub peer : PeerState
  pub dialed : Option ℕ
  pub order : ℕ
  pub since : ℕ
  pub is_awaited : Bool

abbrev pub new_seat : PeerState → Option ℕ → ℕ → ℕ → Seat
new_seat peer dialed order now = record { peer = peer; dialed = dialed; order = order; since = now; is_awaited = false }

-- a peer said hello over it
abbrev pub is_greeted : Seat → Bool
is_greeted seat = is_some seat.peer.talk.noted

-- the other end opened it, and no peer has said hello over it
abbrev pub is_stranger : Seat → Bool
is_stranger seat = not (is_some seat.dialed) && not (is_greeted seat)

-- a stranger that isn't to make way
abbrev pub is_waiting : Seat → Bool
is_waiting seat = is_stranger seat && not seat.is_awaited

-- a stranger that is to make way
abbrev pub gives_way : Seat → Bool
gives_way seat = is_stranger seat && seat.is_awaited

-- why it is to be closed at that moment, where it is
abbrev pub overdue : ℕ → Seat → Option PeerLoss
overdue now seat =
    if is_greeted seat
    then (if nat_le (seat.peer.heard_at + GONE) now
    then Some Unheard
    else (if pace.is_over now seat.peer.talk.session.pace then Some Unacknowledged else None))
    else (if nat_le (seat.since + PATIENCE) now then Some Unregistered else None)

-- nothing of it changed but what its connection came to, and who was noted as the peer stays that
pub record IsSameSeat (old new : Seat) : Type 0 where
  pub dialed : new.dialed ≡ old.dialed
  pub order : new.order ≡ old.order
  pub since : new.since ≡ old.since
  pub is_awaited : new.is_awaited ≡ old.is_awaited
  pub noted : is_some old.peer.talk.noted ≡ true → new.peer.talk.noted ≡ old.peer.talk.noted
