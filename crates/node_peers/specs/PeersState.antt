-- The table of a node's peers, as it stands.
use Rattle.std.specs.Prelude.{ℕ, ◌≡◌, ◌≢◌, ◌+◌, ◌-◌, ◌*◌, ◌^◌, ◌≤◌, true, false, List, Option, Some, length, min, slice_get, slice_set, IsSomeAnd, MatchOption}
use Rattle.std.specs.BTreeMap.{is_at}
use Rattle.std.specs.List.{All, count_by}
use Rattle.std.specs.Map.{lookup, remove_entry, set_value, values_of}
use Rattle.std.specs.Ordering.{nat_cmp}
use Rattle.node_peers.specs.Dialing.{is_due}
use Rattle.node_peers.specs.Seat.{Seat, is_waiting}
use Rattle.node_peers.specs.declared.dialing.Dialing.{Dialing}
use Rattle.node_peers.specs.declared.connections.TheConstants.{SPARE}

-- In turn:
--   seats     the connections, by their numbers
--   dialings  when each peer is dialed, in the order of the node's terms
--   begun     how many connections came so far
pub record PeersState : Type 0 where
  pub seats : List (ℕ × Seat)
  pub dialings : List Dialing
  pub begun : ℕ

-- the connection of that number
abbrev pub seat_at : PeersState → ℕ → Option Seat
seat_at s number = lookup (is_at (nat_cmp number)) s.seats

-- that connection is no longer there
abbrev pub without : ℕ → PeersState → List (ℕ × Seat)
without number s = remove_entry (is_at (nat_cmp number)) s.seats

-- that connection, which is there, came to that
abbrev pub with_seat : ℕ → Seat → PeersState → PeersState
with_seat number seat s = record s { seats = set_value (is_at (nat_cmp number)) s.seats seat }

-- what was there but the connection of that number is there as it was, unless it is a stranger's that isn't to make way
abbrev pub KeepsOthers : ℕ → PeersState → PeersState → Type 0
KeepsOthers number old new = (n : ℕ) (seat : Seat) → n ≢ number → seat_at old n ≡ Some seat
    → is_waiting seat ≡ false → seat_at new n ≡ Some seat

-- ---- strangers

-- how many strangers there are that aren't to make way
abbrev pub waiting : PeersState → ℕ
waiting s = count_by is_waiting (values_of s.seats)

-- how many there may be of so many peers: two for each, and some more
abbrev pub room_for : ℕ → ℕ
room_for peers = min (2 * peers + SPARE) (2 ^ 64 - 1)

abbrev pub most : PeersState → ℕ
most s = room_for (length s.dialings)

-- Of the strangers that aren't to make way that one came first.
pub record IsOldest (s : PeersState) (number : ℕ) (seat : Seat) : Type 0 where
  pub is_there : seat_at s number ≡ Some seat
  pub does_wait : is_waiting seat ≡ true
  pub is_first : All (λ (e : ℕ × Seat). is_waiting e.1 ≡ true → seat.order ≤ e.1.order) s.seats

-- Of the strangers that aren't to make way the one that came first is to make way now.
pub record IsMadeWay (old new : PeersState) : Type 0 where
  pub number : ℕ
  pub seat : Seat
  pub is_oldest : IsOldest old number seat
  pub is_new : new ≡ with_seat number (record seat { is_awaited = true }) old

-- ---- peers

-- Over the connection of that number the peer at that place said hello.
pub record IsGreetedAs (s : PeersState) (number place : ℕ) : Type 0 where
  pub seat : Seat
  pub is_there : seat_at s number ≡ Some seat
  pub is_noted : seat.peer.talk.noted ≡ Some place

-- there is such a connection with the peer at that place
abbrev pub IsConnected : PeersState → ℕ → Type 0
IsConnected s place = (number : ℕ) × IsGreetedAs s number place

-- when the peer at that place is dialed, where there is one, changed so
abbrev pub IsDialedSo : (Dialing → Dialing) → ℕ → PeersState → PeersState → Type 0
IsDialedSo change place old new = MatchOption (slice_get old.dialings place) (new ≡ old)
    (λ d. new ≡ record old { dialings = slice_set old.dialings place (change d) })

-- that is to be dialed by now
abbrev pub IsDue : ℕ → PeersState → ℕ → Type 0
IsDue now s place = IsSomeAnd (slice_get s.dialings place) (λ d. is_due now d.dial_at ≡ true)

-- nothing changed but when peers are dialed
pub record IsSameButDialing (old new : PeersState) : Type 0 where
  pub seats : new.seats ≡ old.seats
  pub begun : new.begun ≡ old.begun
  pub peers : length new.dialings ≡ length old.dialings
