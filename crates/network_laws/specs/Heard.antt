-- What came over a connection and was heard.
use Rattle.std.specs.Prelude.{ℕ, ◌≡◌, Bool, List, [], ◌∷◌, ◌++◌, length, Option, None, Some}
use Rattle.irc_line.specs.Stream.{Item, items, line as whole_line, too_long as cut_line}
use Rattle.chat_change.specs.declared.change.Change.{Change}
use Rattle.client_session.specs.declared.stage.Stage.{Stage}
use Rattle.client_session.specs.Events.{ClientEvent, Line, CutLine, Answer, after, run}
use Rattle.client_session.specs.Lookup.{MessageName, name_sought}
use Rattle.client_session.specs.Session.{new}
use Rattle.upstream_session.specs.Events.{ServerEvent}
use Rattle.upstream_session.specs.Events as server
use Rattle.network_log.specs.Facts.{NodeFacts}
use Rattle.network_log.specs.Guest.{Guest}
use Rattle.network_log.specs.Host.{Host, session_begun}
use Rattle.network_log.specs.NetworkState.{NetworkState}
use Rattle.network_log.specs.Truth.{IsDirectory, IsShownIn, MayBeLeftOut}
use Rattle.network_log.specs.declared.origin.Origin.TheVariants.{ClientCame, NetworkDialed}

-- the lines of a client among what happened to its session, in order
abbrev pub lines_in : List ClientEvent → List Item
lines_in [] = []
lines_in (Line directory shown bytes ∷ events) = whole_line bytes ∷ lines_in events
lines_in (CutLine directory ∷ events) = cut_line ∷ lines_in events
lines_in (Answer answered ∷ events) = lines_in events

-- a line is heard by the accounts of this node
abbrev pub IsByAccounts : NodeFacts → ClientEvent → Type 0
IsByAccounts facts (Line directory shown bytes) = IsDirectory facts directory
IsByAccounts facts (CutLine directory) = IsDirectory facts directory
IsByAccounts facts (Answer answered) = Unit {0}

abbrev pub AreByAccounts : NodeFacts → List ClientEvent → Type 0
AreByAccounts facts [] = Unit {0}
AreByAccounts facts (event ∷ events) = IsByAccounts facts event × AreByAccounts facts events

-- Whether the message of that name is shown was what the node held at some moment.
abbrev pub IsFound : NodeFacts → Bool → Option MessageName → Type 0
IsFound facts shown None = Unit {0}
IsFound facts shown (Some name) = (held : List Change) × facts.held held × IsShownIn held shown (Some name)

-- where a line names a message, it is heard with whether that is shown
abbrev pub IsSeen : NodeFacts → Stage → ClientEvent → Type 0
IsSeen facts session (Line directory shown bytes) = IsFound facts shown (name_sought session bytes)
IsSeen facts session (CutLine directory) = Unit {0}
IsSeen facts session (Answer answered) = Unit {0}

abbrev pub AreSeen : NodeFacts → Stage → List ClientEvent → Type 0
AreSeen facts session [] = Unit {0}
AreSeen facts session (event ∷ events) = IsSeen facts session event × AreSeen facts (after session event) events

-- It came over a client's connection of that number, which joined the network behind so many others. The session came to this by
-- the first of its lines, those that it has heard, in order, each once, by the accounts of this node and what it held, and by answers.
pub record IsHeardOverItsConnection (facts : NodeFacts) (place : ℕ) (g : Guest) : Type 0 where
  pub joins : ℕ
  pub events : List ClientEvent
  pub later : List Item
  pub it_came : facts.came ClientCame g.serial g.received
  pub is_joined : g.joined ≡ Some joins
  pub it_joined : facts.joined g.serial place joins
  pub are_first : items g.received ≡ lines_in events ++ later
  pub is_count : length (lines_in events) ≡ g.heard
  pub are_by_accounts : AreByAccounts facts events
  pub are_seen : AreSeen facts (new facts.cluster facts.maximum) events
  pub came_to : run (new facts.cluster facts.maximum) events ≡ g.session

-- Of what happened to a session, the lines of its server are those that came, in order, each once, but for what was left out. In
-- turn:
--   Nothing    nothing came, and nothing happened
--   IsLeftOut  something came that may be left out, and nothing happened
--   IsHeard    a line came, and the session heard it
--   IsSaid     a line was said to the session
pub data AreHeard : List Item → List ServerEvent → Type 0 where
  Nothing : AreHeard [] []
  IsLeftOut : {came : List Item} {events : List ServerEvent} (item : Item)
      → MayBeLeftOut item
      → AreHeard came events → AreHeard (came ++ item ∷ []) events
  IsHeard : {came : List Item} {events : List ServerEvent} (now : ℕ) (bytes : List ℕ)
      → AreHeard came events
      → AreHeard (came ++ whole_line bytes ∷ []) (events ++ server.Line now bytes ∷ [])
  IsSaid : {came : List Item} {events : List ServerEvent} (now : ℕ) (bytes : List ℕ)
      → AreHeard came events → AreHeard came (events ++ server.Saying now bytes ∷ [])

-- The same of a network's server: its connection was dialed for the network, and joined it behind so many others.
pub record ServerIsHeardOverItsConnection (facts : NodeFacts) (w : NetworkState) (h : Host) : Type 0 where
  pub joins : ℕ
  pub first : ℕ
  pub heard : List Item
  pub later : List Item
  pub events : List ServerEvent
  pub is_network : h.network ≡ w.place
  pub it_came : facts.came (NetworkDialed w.place) h.serial h.received
  pub it_joined : facts.joined h.serial w.place joins
  pub are_first : items h.received ≡ heard ++ later
  pub is_count : length heard ≡ h.heard
  pub are_heard : AreHeard heard events
  pub came_to : server.run (session_begun facts w.config first) events ≡ h.session
