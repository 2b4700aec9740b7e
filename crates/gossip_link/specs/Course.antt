-- What happens on one connection, in turn, and when packets are made meanwhile.
use Rattle.std.specs.Prelude.{ℕ, ◌-◌, Bool, true, false, Option, Some, None, List, [], ◌∷◌, nat_le}
use Rattle.gossip_link.specs.declared.pace.Pace.{Pace}
use Rattle.gossip_link.specs.declared.pace.TheConstants.{ACK_WAIT_MS}
use Rattle.gossip_link.specs.Pace as pace

-- What may happen next.
--   Greeted       the peer says hello
--   Published     something is published
--   Acknowledged  the peer acknowledges a number
--   Ticked        it is that moment
--   Made          a packet up to a number is made at a moment, or none since nothing is new
pub data PaceEvent : Type 0 where
  Greeted : PaceEvent
  Published : PaceEvent
  Acknowledged : (upto : ℕ) → PaceEvent
  Ticked : (now : ℕ) → PaceEvent
  Made : (to : Option ℕ) (now : ℕ) → PaceEvent

abbrev pub after : PaceEvent → Pace → Pace
after Greeted p = pace.greeted p
after Published p = pace.published p
after (Acknowledged upto) p = pace.acknowledged upto p
after (Ticked now) p = pace.ticked now p
after (Made to now) p = pace.made to now p

abbrev pub after_all : List PaceEvent → Pace → Pace
after_all [] p = p
after_all (e ∷ es) p = after_all es (after e p)

-- ---- what happens, and what doesn't

abbrev pub is_hello : PaceEvent → Bool
is_hello Greeted = true
is_hello _ = false

abbrev pub is_acknowledgement : PaceEvent → Bool
is_acknowledgement (Acknowledged upto) = true
is_acknowledgement _ = false

-- a packet was to be made, whether or not anything was new
abbrev pub is_making : PaceEvent → Bool
is_making (Made to now) = true
is_making _ = false

abbrev pub is_packet : PaceEvent → Bool
is_packet (Made (Some to) now) = true
is_packet _ = false

-- something may be new for the peer, or a packet is under way
abbrev pub is_news : PaceEvent → Bool
is_news Greeted = true
is_news Published = true
is_news (Acknowledged upto) = true
is_news (Ticked now) = false
is_news (Made None now) = false
is_news (Made (Some to) now) = true

-- a packet was to be made, and there was none since nothing was new
abbrev pub finds_nothing : PaceEvent → Bool
finds_nothing (Made None now) = true
finds_nothing _ = false

-- of a packet up to a number that was made at a moment: it is acknowledged, or has waited long enough
abbrev pub ends_wait : ℕ → ℕ → PaceEvent → Bool
ends_wait to since (Acknowledged upto) = nat_le to upto
ends_wait to since (Ticked now) = nat_le ACK_WAIT_MS (now - since)
ends_wait to since _ = false
