-- What a client is told, and where it comes from.
use Rattle.std.specs.Prelude.{ℕ, ◌≡◌, Bool, false, List, [], ◌∷◌, ◌++◌, Option, Some, None, Result, Ok, Err, drop, take, slice_get}
use mathlib.Core.List.{IsPrefix}
use Rattle.irc_line.specs.declared.line.LineFault.{LineFault}
use Rattle.irc_line.specs.declared.line.TagLimit.TheVariants.{Client}
use Rattle.irc_line.specs.Line.{Reading}
use Rattle.irc_line.specs.Read.{read}
use Rattle.irc_line.specs.Stream.{Item, items}
use Rattle.irc_reply.specs.ToClient.{no_nick}
use Rattle.chat_change.specs.declared.change.Change.{Change}
use Rattle.chat_query.specs.Answers.{answer_of}
use Rattle.chat_query.specs.declared.facts.Facts.{Facts}
use Rattle.cluster_directory.specs.declared.config.SessionConfig.{SessionConfig}
use Rattle.client_session.specs.declared.effect.Effect.{Effect}
use Rattle.client_session.specs.declared.effect.Effect.TheVariants.{Send, Put, Ask, Upstream, Close}
use Rattle.client_session.specs.declared.stage.Stage.{Stage}
use Rattle.client_session.specs.Events.{ClientEvent, Line, CutLine, Answer as Answered, after, effects_of}
use Rattle.client_session.specs.Session.{new, facts_in, session_after}
use Rattle.network_log.specs.Facts.{NodeFacts}
use Rattle.network_log.specs.Guest.{Guest, nick_after}
use Rattle.network_log.specs.Host.{BatchEntry}
use Rattle.network_log.specs.NetworkState.{NetworkState}
use Rattle.network_log.specs.Share.{marker_text, nick_by, share_of}
use Rattle.network_log.specs.Truth.{AreWholeLines, IsReached}
use Rattle.network_log.specs.declared.origin.Origin.TheVariants.{ClientCame}
use Rattle.network_laws.specs.Acts.{Act, AreActsOf, AreOnce, all_effects}
use Rattle.network_laws.specs.Heard.{AreByAccounts, IsHeardOverItsConnection, lines_in}
use Rattle.network_laws.specs.LetIn.{HasLoggedIn, IsOfNetwork}
use Rattle.network_laws.specs.Puts.{ArePutOf}
use Rattle.network_laws.specs.Streams.{Stream, AreStreams, IsPart, entries_of, said_of}

-- ---- a client that was never let in

-- the session's own lines among what is to be done, in order
abbrev pub lines_of : List Effect → List ℕ
lines_of [] = []
lines_of (Send text ∷ effects) = text ++ lines_of effects
lines_of (_ ∷ effects) = lines_of effects

-- it isn't registered, and none of these registers it
abbrev pub IsNeverIn : Stage → List ClientEvent → Type 0
IsNeverIn session [] = facts_in session ≡ None
IsNeverIn session (event ∷ events) = (facts_in session ≡ None) × IsNeverIn (after session event) events

-- Its session was never registered. It came to what it is by the first lines of what came over this very connection, in order, each
-- once, and what the client was told are the first bytes of what that session said to these.
pub record HearsItsSessionAlone (facts : NodeFacts) (serial : ℕ) (received bytes : List ℕ) : Type 0 where
  pub events : List ClientEvent
  pub later : List Item
  pub it_came : facts.came ClientCame serial received
  pub are_first : items received ≡ lines_in events ++ later
  pub are_by_accounts : AreByAccounts facts events
  pub is_never : IsNeverIn (new facts.cluster facts.maximum) events
  pub is_told : IsPrefix bytes (lines_of (all_effects (new facts.cluster facts.maximum) events))

-- ---- the course of a client of a network

-- A client was told its share of these, which are a run of the entries that were put, without a gap: up to the latest one, as long as it is
-- there and registered.
pub record AreLatestOf (put heard : List BatchEntry) (is_gone : Bool) (session : Stage) : Type 0 where
  pub before : List BatchEntry
  pub missed : List BatchEntry
  pub is_all : put ≡ before ++ (heard ++ missed)
  pub is_latest : (f : Facts) → is_gone ≡ false → facts_in session ≡ Some f → missed ≡ []

-- it is a line, whole or cut
abbrev pub IsLine : ClientEvent → Type 0
IsLine (Line directory shown bytes) = Unit {0}
IsLine (CutLine directory) = Unit {0}
IsLine (Answered answered) = ⊥

-- what is no word for the client
abbrev pub IsNoWord : Effect → Type 0
IsNoWord (Send text) = ⊥
IsNoWord (Ask question) = ⊥
IsNoWord (Put change) = Unit {0}
IsNoWord (Upstream line) = Unit {0}
IsNoWord Close = Unit {0}

-- a question has no answer where the session isn't registered, or it is no line
abbrev pub HasNoAnswer : Option Facts → Result Reading LineFault → Type 0
HasNoAnswer None reading = Unit {0}
HasNoAnswer (Some f) (Ok line) = ⊥
HasNoAnswer (Some f) (Err fault) = Unit {0}

-- What a client's session came to by what happened to it, what is left to do of its last line, which of its own words wait, of which
-- entries it was told its share, what nick it knows, and all that it was told. In turn:
--   Connects      its connection is there, and nothing was told
--   Hears         its session hears a line, once all of the line before is done
--   IsSaid        a line of the session's own waits for it, behind the others
--   IsAnswered    so does the answer to a question of its session, by the session's own facts, from what the node held
--   IsUnanswered  a question has no answer
--   IsDone        something is done of which it is told nothing
--   IsOffered     the first of its own words that wait are told: all of them, or whole lines
--   IsShared      its share of the next entry is told, by its session's own facts, where the node held that
--   IsInformed    so is a marker
pub data Course (facts : NodeFacts) (config : SessionConfig)
    : List ClientEvent → Stage → List Effect → List ℕ → List BatchEntry → List ℕ → List ℕ → Type 0 where
  Connects : Course facts config [] (new facts.cluster facts.maximum) [] [] [] no_nick []
  Hears : {events : List ClientEvent} {session : Stage} {waiting : List ℕ} {heard : List BatchEntry} {nick told : List ℕ}
      (event : ClientEvent)
      → IsLine event
      → Course facts config events session [] waiting heard nick told
      → Course facts config (events ++ event ∷ []) (after session event) (effects_of session event) waiting heard
      (nick_after (facts_in session) (facts_in (after session event)) nick) told
  IsSaid : {events : List ClientEvent} {session : Stage} {todo : List Effect} {waiting : List ℕ} {heard : List BatchEntry}
      {nick told : List ℕ} (text : List ℕ)
      → Course facts config events session (Send text ∷ todo) waiting heard nick told
      → Course facts config events session todo (waiting ++ text) heard nick told
  IsAnswered : {events : List ClientEvent} {session : Stage} {todo : List Effect} {waiting : List ℕ} {heard : List BatchEntry}
      {nick told : List ℕ} (question : List ℕ) (held : List Change) (f : Facts) (line : Reading)
      → facts.held held
      → facts_in session ≡ Some f
      → IsOfNetwork config session
      → read Client question ≡ Ok line
      → Course facts config events session (Ask question ∷ todo) waiting heard nick told
      → Course facts config (events ++ Answered (answer_of held f line).answered ∷ [])
      (session_after session (answer_of held f line).answered) todo (waiting ++ (answer_of held f line).text) heard nick told
  IsUnanswered : {events : List ClientEvent} {session : Stage} {todo : List Effect} {waiting : List ℕ} {heard : List BatchEntry}
      {nick told : List ℕ} (question : List ℕ)
      → HasNoAnswer (facts_in session) (read Client question)
      → Course facts config events session (Ask question ∷ todo) waiting heard nick told
      → Course facts config events session todo waiting heard nick told
  IsDone : {events : List ClientEvent} {session : Stage} {todo : List Effect} {waiting : List ℕ} {heard : List BatchEntry}
      {nick told : List ℕ} (effect : Effect)
      → IsNoWord effect
      → Course facts config events session (effect ∷ todo) waiting heard nick told
      → Course facts config events session todo waiting heard nick told
  IsOffered : {events : List ClientEvent} {session : Stage} {todo : List Effect} {waiting : List ℕ} {heard : List BatchEntry}
      {nick told : List ℕ} (count : ℕ)
      → AreWholeLines waiting count
      → Course facts config events session todo waiting heard nick told
      → Course facts config events session todo (drop count waiting) heard nick (told ++ take count waiting)
  IsShared : {events : List ClientEvent} {session : Stage} {todo : List Effect} {waiting : List ℕ} {heard : List BatchEntry}
      {nick told : List ℕ} (held : List Change) (f : Facts) (entry : BatchEntry)
      → facts.held held
      → facts_in session ≡ Some f
      → IsOfNetwork config session
      → Course facts config events session todo waiting heard nick told
      → Course facts config events session todo waiting (heard ++ entry ∷ []) (nick_by nick entry)
      (told ++ share_of held f nick entry)
  IsInformed : {events : List ClientEvent} {session : Stage} {todo : List Effect} {waiting : List ℕ} {heard : List BatchEntry}
      {nick told : List ℕ} (held : List Change) (f : Facts) (target : List ℕ)
      → facts.held held
      → facts_in session ≡ Some f
      → IsOfNetwork config session
      → Course facts config events session todo waiting heard nick told
      → Course facts config events session todo waiting heard nick (told ++ marker_text held f target)

-- It has said the secret of an account over this very connection. What it was told are the first bytes of what the log of that account's
-- network gives for it. And that is what its course gives: its session's lines and the answers to its own questions; its share of what
-- came of the lines that came over connections dialed to that network's server, and of those that clients of that network said, of each
-- entry of a run of those that were put, in their order and each once; and markers of its account and network. It is told of no change
-- that wasn't put before.
pub record HearsItsOwnAlone (facts : NodeFacts) (serial : ℕ) (received bytes : List ℕ) : Type 0 where
  pub world : NetworkState
  pub place : ℕ
  pub guest : Guest
  pub is_reached : IsReached facts world
  pub is_guest : slice_get world.guests place ≡ Some guest
  pub is_serial : guest.serial ≡ serial
  pub is_received : guest.received ≡ received
  pub is_told : IsPrefix bytes guest.told
  pub is_heard : IsHeardOverItsConnection facts world.place guest
  pub has_logged_in : HasLoggedIn facts world.config guest
  pub todo : List Effect
  pub waiting : List ℕ
  pub heard : List BatchEntry
  pub put : List BatchEntry
  pub acts : List Act
  pub streams : List Stream
  pub course : Course facts world.config is_heard.events guest.session todo waiting heard guest.nick guest.told
  pub are_latest : AreLatestOf put heard guest.is_gone guest.session
  pub are_put : ArePutOf put acts world.puts
  pub are_acts : AreActsOf facts world.place world.config acts
  pub acts_once : AreOnce acts
  pub are_entries : IsPart put (entries_of facts world.config streams)
  pub are_streams : AreStreams facts world.place world.config world.joins streams
  pub are_once : AreOnce (said_of streams)
