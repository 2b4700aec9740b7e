-- What came over the connections to a network's server, what was said over them, and what came of that.
use Rattle.std.specs.Prelude.{ℕ, ◌≡◌, ◌<◌, List, [], ◌∷◌, ◌++◌, Some, None, slice_get}
use mathlib.Core.List.{IsPrefix}
use Rattle.irc_line.specs.Stream.{Item, items}
use Rattle.cluster_directory.specs.declared.config.SessionConfig.{SessionConfig}
use Rattle.client_session.specs.declared.effect.Effect.{Effect}
use Rattle.client_session.specs.declared.effect.Effect.TheVariants.{Upstream}
use Rattle.upstream_session.specs.declared.connection.ServerSession.{ServerSession}
use Rattle.upstream_session.specs.Events.{ServerEvent, Line, Saying, after, all_effects, run}
use Rattle.upstream_session.specs.Session.{start, step, say, joined}
use Rattle.network_log.specs.Facts.{NodeFacts}
use Rattle.network_log.specs.Host.{BatchEntry, entries_by, sends_of, session_begun}
use Rattle.network_log.specs.declared.origin.Origin.TheVariants.{NetworkDialed}
use Rattle.network_log.specs.declared.serial.TheConstants.{FIRST_SERIAL}
use Rattle.network_laws.specs.Heard.{AreHeard}
use Rattle.network_laws.specs.Acts.{Act, AreActsOf, AreOnce}

-- A connection to a network's server. In turn:
--   serial    its number
--   joins     behind how many others it joined the network
--   received  what came over it
--   heard     the first lines of that, those that are heard or left out
--   first     the serial number of the first id that its session could make
--   events    what happened to its session: lines of the server, and lines that were said to it
--   said      who said these, the latest first
pub record Stream : Type 0 where
  pub serial : ℕ
  pub joins : ℕ
  pub received : List ℕ
  pub heard : List Item
  pub first : ℕ
  pub events : List ServerEvent
  pub said : List Act

-- ---- what was said to its session

-- the lines that were said to a session, in order
abbrev pub sayings_of : List ServerEvent → List (List ℕ)
sayings_of [] = []
sayings_of (Line now bytes ∷ events) = sayings_of events
sayings_of (Saying now bytes ∷ events) = bytes ∷ sayings_of events

-- a client's line for the server
abbrev pub line_in : Effect → List (List ℕ)
line_in (Upstream text) = text ∷ []
line_in _ = []

-- the lines that these have said, of whom the latest stands first
abbrev pub lines_by : List Act → List (List ℕ)
lines_by [] = []
lines_by (a ∷ acts) = lines_by acts ++ line_in a.effect

-- ---- what its session began as, and came to

abbrev pub begun : NodeFacts → SessionConfig → Stream → ServerSession
begun facts config s = session_begun facts config s.first

-- all that the server was told: what the session begins with, and what it answers or gives on, in order
abbrev pub told_over : NodeFacts → SessionConfig → Stream → List ℕ
told_over facts config s =
    sends_of (start (begun facts config s)) ++ sends_of (all_effects (begun facts config s) s.events)

-- what comes of an event of a session, for the node and for clients
abbrev pub entries_by_event : ServerSession → ServerEvent → List BatchEntry
entries_by_event u (Line now bytes) = entries_by u (step u now bytes) (joined u bytes)
entries_by_event u (Saying now bytes) = entries_by u (say u now bytes) None

abbrev pub all_entries : ServerSession → List ServerEvent → List BatchEntry
all_entries u [] = []
all_entries u (event ∷ events) = entries_by_event u event ++ all_entries (after u event) events

-- ---- connections

-- each happened at a moment of the node's clock
abbrev pub AreByClock : NodeFacts → List ServerEvent → Type 0
AreByClock facts [] = Unit {0}
AreByClock facts (Line now bytes ∷ events) = facts.clock now × AreByClock facts events
AreByClock facts (Saying now bytes ∷ events) = facts.clock now × AreByClock facts events

-- The connection was dialed for that network and joined it. Its session heard the first lines of what came over it, in order, each once,
-- but for those that may be left out, and beside them lines that clients of that network said, at moments of the node's clock.
pub record IsStream (facts : NodeFacts) (place : ℕ) (config : SessionConfig) (s : Stream) : Type 0 where
  pub later : List Item
  pub it_came : facts.came (NetworkDialed place) s.serial s.received
  pub it_joined : facts.joined s.serial place s.joins
  pub are_first : items s.received ≡ s.heard ++ later
  pub are_heard : AreHeard s.heard s.events
  pub are_by_clock : AreByClock facts s.events
  pub are_said : sayings_of s.events ≡ lines_by s.said
  pub are_spoken : AreActsOf facts place config s.said

-- the serial number from which the next session goes on
abbrev pub serial_after : NodeFacts → SessionConfig → List Stream → ℕ
serial_after facts config [] = FIRST_SERIAL
serial_after facts config (s ∷ streams) = (run (begun facts config s) s.events).serial

-- Such connections, the latest first, each of which joined before the one that stands before it, and whose session goes on from the serial
-- number of the one before: so none is there twice, and no id is made twice.
abbrev pub AreStreams : NodeFacts → ℕ → SessionConfig → ℕ → List Stream → Type 0
AreStreams facts place config bound [] = Unit {0}
AreStreams facts place config bound (s ∷ streams) =
    (IsStream facts place config s × s.joins < bound × (s.first ≡ serial_after facts config streams))
    × AreStreams facts place config s.joins streams

-- all that came of these, in order
abbrev pub entries_of : NodeFacts → SessionConfig → List Stream → List BatchEntry
entries_of facts config [] = []
entries_of facts config (s ∷ streams) =
    entries_of facts config streams ++ all_entries (begun facts config s) s.events

-- all who have said something, the latest first
abbrev pub said_of : List Stream → List Act
said_of [] = []
said_of (s ∷ streams) = s.said ++ said_of streams

-- these are some of those, each at most once and in their order
pub data IsPart : List BatchEntry → List BatchEntry → Type 0 where
  Nothing : IsPart [] []
  IsThere : {some all : List BatchEntry} (entry : BatchEntry)
      → IsPart some all → IsPart (some ++ entry ∷ []) (all ++ entry ∷ [])
  IsLeftOut : {some all : List BatchEntry} (entry : BatchEntry)
      → IsPart some all → IsPart some (all ++ entry ∷ [])

-- ---- what a server is told

-- Its connection was dialed for that network of this node's configuration. What it was told are the first bytes of what its session
-- sends: its opening, and then what it answers to the lines that came over this very connection, and gives on of lines that clients
-- of that network said, each of them once, also of what earlier connections to the server were told.
pub record HearsItsClientsAlone (facts : NodeFacts) (network serial : ℕ) (received bytes : List ℕ) : Type 0 where
  pub config : SessionConfig
  pub is_configured : slice_get facts.accounts.networks network ≡ Some config
  pub bound : ℕ
  pub stream : Stream
  pub earlier : List Stream
  pub are_streams : AreStreams facts network config bound (stream ∷ earlier)
  pub are_once : AreOnce (said_of (stream ∷ earlier))
  pub is_serial : stream.serial ≡ serial
  pub is_received : stream.received ≡ received
  pub is_told : IsPrefix bytes (told_over facts config stream)
