-- When packets are made for a peer, over one connection.
use Rattle.std.specs.Prelude.{ℕ, ◌+◌, ◌-◌, ◌^◌, Bool, true, false, not, ◌&&◌, Option, Some, None, nat_le, nat_lt, is_none, if◌then◌else◌}
use Rattle.gossip_link.specs.declared.pace.Pace.{Pace}
use Rattle.gossip_link.specs.declared.pace.UnderWay.{UnderWay}
use Rattle.gossip_link.specs.declared.pace.TheConstants.{ACK_WAIT_MS, MOST_UNANSWERED}

-- a new connection
abbrev pub new : Pace
new = record { is_greeted = false; is_wanted = false; under_way = None; unanswered = 0 }

-- a packet is to be made: the peer said hello, something may be new for it, and none is under way
abbrev pub is_due : Pace → Bool
is_due p = p.is_greeted && (p.is_wanted && is_none p.under_way)

-- the peer said hello, and nothing is left for it: no packet is under way, nothing was new when the last one was to be made, and
-- nothing happened since by which something may be
abbrev pub is_caught_up : Pace → Bool
is_caught_up p = p.is_greeted && (not p.is_wanted && is_none p.under_way)

-- ---- what the peer says, and what is published

abbrev pub greeted : Pace → Pace
greeted p = record p { is_greeted = true; is_wanted = true }

abbrev pub published : Pace → Pace
published p = record p { is_wanted = true }

-- a packet is under way until its number is acknowledged
abbrev pub left_by : ℕ → Option UnderWay → Option UnderWay
left_by upto None = None
left_by upto (Some packet) = if nat_lt upto packet.to then Some packet else None

abbrev pub acknowledged : ℕ → Pace → Pace
acknowledged upto p =
    record p { is_wanted = true; under_way = left_by upto p.under_way; unanswered = 0 }

-- ---- moments

-- a packet has waited long enough for its acknowledgement
abbrev pub has_waited : ℕ → Option UnderWay → Bool
has_waited now None = false
has_waited now (Some packet) = nat_le ACK_WAIT_MS (now - packet.since)

-- the last of so many packets in a row has, and the connection is to be closed
abbrev pub is_over : ℕ → Pace → Bool
is_over now p = has_waited now p.under_way && nat_le MOST_UNANSWERED p.unanswered

-- an earlier one is given up, and the next one is to be made
abbrev pub ticked : ℕ → Pace → Pace
ticked now p =
    if has_waited now p.under_way && nat_lt p.unanswered MOST_UNANSWERED
    then record p { is_wanted = true; under_way = None }
    else p

abbrev pub deadline_of : Option UnderWay → Option ℕ
deadline_of None = None
deadline_of (Some packet) =
    if nat_lt (packet.since + ACK_WAIT_MS) (2 ^ 64)
    then Some (packet.since + ACK_WAIT_MS)
    else None

-- when the packet that is under way will have waited long enough
abbrev pub deadline : Pace → Option ℕ
deadline p = deadline_of p.under_way

-- ---- packets

abbrev pub one_more : ℕ → ℕ
one_more unanswered =
    if nat_lt unanswered MOST_UNANSWERED then unanswered + 1 else MOST_UNANSWERED

-- a packet up to a number was made, or none since nothing is new
abbrev pub made : Option ℕ → ℕ → Pace → Pace
made None now p = record p { is_wanted = false }
made (Some to) now p = record p {
  is_wanted = false;
  under_way = Some (record { to = to; since = now });
  unanswered = one_more p.unanswered;
}
