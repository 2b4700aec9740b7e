-- The server of a network, and what its lines come to.
use Rattle.std.specs.Prelude.{ℕ, ◌+◌, Bool, true, false, not, ◌&&◌, nat_lt, List, [], ◌∷◌, ◌++◌, length, Option, Some}
use Rattle.std.specs.Str.{bytes_eq}
use Rattle.irc_caps.specs.declared.recipients.Recipients.{Recipients}
use Rattle.chat_change.specs.declared.change.Change.{Change}
use Rattle.chat_change.specs.declared.change.Change.TheVariants.{Post}
use Rattle.cluster_directory.specs.Entry.{Entry}
use Rattle.cluster_directory.specs.declared.config.SessionConfig.{SessionConfig}
use Rattle.upstream_session.specs.declared.connection.ServerSession.{ServerSession}
use Rattle.upstream_session.specs.declared.effect.UpEffect.{UpEffect}
use Rattle.upstream_session.specs.declared.effect.UpEffect.TheVariants.{Send, Put, Relay}
use Rattle.upstream_session.specs.Messages.{is_from}
use Rattle.upstream_session.specs.Session.{start}
use Rattle.upstream_session.specs.Step.{ServerStep, new}
use Rattle.network_log.specs.Facts.{NodeFacts}

-- In turn:
--   network   the place of the network for which its connection was dialed
--   serial    the number of that connection
--   received  what came over it
--   heard     how many of the lines of that its session has heard, the first ones
--   session   what its session came to
--   told      what it was told: what was sent, with what is owed behind that
pub record Host : Type 0 where
  pub network : ℕ
  pub serial : ℕ
  pub received : List ℕ
  pub heard : ℕ
  pub session : ServerSession
  pub told : List ℕ

-- ---- what it is told

-- the lines to the server among what is to be done, in order
abbrev pub sends_of : List UpEffect → List ℕ
sends_of [] = []
sends_of (Send text ∷ effects) = text ++ sends_of effects
sends_of (_ ∷ effects) = sends_of effects

-- a session that begins, with that serial number for the first id that it makes
abbrev pub session_begun : NodeFacts → SessionConfig → ℕ → ServerSession
session_begun facts config first =
    new config facts.terms.me.node facts.terms.me.incarnation first

-- a server whose connection is there: it is told what a session begins with
abbrev pub new_host : NodeFacts → ℕ → SessionConfig → ℕ → ℕ → Host
new_host facts place config serial first = record {
  network = place;
  serial = serial;
  received = [];
  heard = 0;
  session = session_begun facts config first;
  told = sends_of (start (session_begun facts config first));
}

-- the server after a step of its session
abbrev pub host_after : ServerStep → Host → Host
host_after s h = record h { session = s.session; told = h.told ++ sends_of s.effects }

-- one line more was heard
abbrev pub one_heard : Host → Host
one_heard h = record h { heard = h.heard + 1 }

-- ---- what clients are told of it, and what is put

-- What comes of a line, for the node and for clients. In turn:
--   Posted    a change that is put, and whether it is a message of the session's own
--   PassedOn  a line that is passed on to these
--   Renamed   the network's nick is another one, and whether a line that says so is passed on too
--   Entered   the session has joined a channel
pub data BatchEntry : Type 0 where
  Posted : (change : Change) (is_own : Bool) → BatchEntry
  PassedOn : (text : List ℕ) (to : Recipients) → BatchEntry
  Renamed : (nick : List ℕ) (is_passed_on : Bool) → BatchEntry
  Entered : (channel : List ℕ) → BatchEntry

-- a message is the session's own where it is from its present nick
abbrev pub is_own_by : List ℕ → Change → Bool
is_own_by nick (Post r) = is_from nick r
is_own_by nick _ = false

-- what is put and passed on of what is to be done, in order
abbrev pub entries_of : List ℕ → List UpEffect → List BatchEntry
entries_of nick [] = []
entries_of nick (Put change ∷ effects) =
    Posted change (is_own_by nick change) ∷ entries_of nick effects
entries_of nick (Relay text to ∷ effects) = PassedOn text to ∷ entries_of nick effects
entries_of nick (_ ∷ effects) = entries_of nick effects

abbrev pub passes_on : List UpEffect → Bool
passes_on [] = false
passes_on (Relay text to ∷ effects) = true
passes_on (_ ∷ effects) = passes_on effects

-- the network is up, and wasn't up under that nick before
abbrev pub is_renamed : Entry → Entry → Bool
is_renamed before after = after.is_up && not (before.is_up && bytes_eq before.nick after.nick)

abbrev pub renaming : Bool → List ℕ → Bool → List BatchEntry
renaming true nick is_passed_on = Renamed nick is_passed_on ∷ []
renaming false nick is_passed_on = []

-- the session is in one channel more
abbrev pub has_entered : Entry → Entry → Bool
has_entered before after = nat_lt (length before.channels) (length after.channels)

abbrev pub entering : Bool → Option (List ℕ) → List BatchEntry
entering true (Some channel) = Entered channel ∷ []
entering _ _ = []

-- what comes of a step of a session, and of the channel that it joins by the line, if it does
abbrev pub entries_by : ServerSession → ServerStep → Option (List ℕ) → List BatchEntry
entries_by before s channel =
    renaming (is_renamed before.entry s.session.entry) s.session.entry.nick (passes_on s.effects)
    ++ (entries_of s.session.entry.nick s.effects
    ++ entering (has_entered before.entry s.session.entry) channel)
