-- What is put, and where it comes from.
use Rattle.std.specs.Prelude.{ℕ, ◌≡◌, List, [], ◌∷◌, ◌++◌, Some, slice_get}
use Rattle.chat_change.specs.declared.change.Change.{Change}
use Rattle.cluster_directory.specs.declared.config.SessionConfig.{SessionConfig}
use Rattle.client_session.specs.declared.effect.Effect.TheVariants.{Put}
use Rattle.network_log.specs.Facts.{NodeFacts}
use Rattle.network_log.specs.Host.{BatchEntry}
use Rattle.network_log.specs.NetworkState.{changes_of}
use Rattle.network_laws.specs.Acts.{Act, AreActsOf, AreOnce}
use Rattle.network_laws.specs.Streams.{Stream, AreStreams, IsPart, entries_of, said_of}

-- Changes, in order: those of these entries, which came of a server's lines, and those that these clients put, of whom the latest stands
-- first. In turn: there are none; the next is that of the next entry, if it has one; and the next is what a client's session put.
pub data ArePutOf : List BatchEntry → List Act → List Change → Type 0 where
  Nothing : ArePutOf [] [] []
  OfServer : {entries : List BatchEntry} {acts : List Act} {changes : List Change} (entry : BatchEntry)
      → ArePutOf entries acts changes
      → ArePutOf (entries ++ entry ∷ []) acts (changes ++ changes_of (entry ∷ []))
  OfClient : {entries : List BatchEntry} {acts : List Act} {changes : List Change} (change : Change) (a : Act)
      → a.effect ≡ Put change
      → ArePutOf entries acts changes
      → ArePutOf entries (a ∷ acts) (changes ++ change ∷ [])

-- All that was put for that network of this node's configuration, and these behind it, are, in order, changes that came of lines which
-- came over connections dialed to its server or which clients of that network said, each at most once, and read markers that the sessions
-- of clients put that were let in to it, each at most once. The node was seen to hold those.
pub record PutsWhatWasSaid (facts : NodeFacts) (place : ℕ) (puts held changes : List Change) : Type 0 where
  pub config : SessionConfig
  pub is_configured : slice_get facts.accounts.networks place ≡ Some config
  pub is_held : facts.held held
  pub bound : ℕ
  pub streams : List Stream
  pub entries : List BatchEntry
  pub acts : List Act
  pub are_streams : AreStreams facts place config bound streams
  pub are_once : AreOnce (said_of streams)
  pub is_part : IsPart entries (entries_of facts config streams)
  pub are_acts : AreActsOf facts place config acts
  pub acts_once : AreOnce acts
  pub are_put : ArePutOf entries acts (puts ++ changes)
