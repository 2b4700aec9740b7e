-- What a cluster promises, whatever happens.
use Rattle.std.specs.Prelude.{ℕ, ◌≡◌, ◌≤◌, ◌⊎◌, true, Contains, Option, Some, List}
use Rattle.std.specs.Option.{IfSome, option_map}
use Rattle.std.specs.FinMap.{get}
use Rattle.chat_change.specs.Buffer.{Buffer}
use Rattle.chat_change.specs.Record.{Record}
use Rattle.chat_change.specs.declared.change.Change.{Change}
use Rattle.chat_change.specs.declared.change.Change.TheVariants.{Post, Redact}
use Rattle.chat_change.specs.Key.{Key}
use Rattle.chat_history.specs.History.{Includes}
use Rattle.chat_history.specs.Numbering.{Delta, delta, front, number}
use Rattle.cluster_directory.specs.declared.version.Version.{Version}
use Rattle.gossip_link.specs.declared.link.KnownLife.{KnownLife}
use Rattle.gossip_link.specs.Peer.{is_served}
use Rattle.gossip_link.specs.Cluster.{Made, World, ClusterEvent, run, start, LivesDiffer}

-- some node made the change
abbrev pub IsMade : List Made → Change → Type 0
IsMade made c = (m : Made) × Contains made m × Contains m.changes c

abbrev pub WasRedacted : List Made → Buffer → List ℕ → Type 0
WasRedacted made b m = (t : Option ℕ) × IsMade made (Redact b m t)

-- the moment of a post of that id, or of a redaction of it
abbrev pub IsMadeMoment : List Made → Buffer → List ℕ → ℕ → Type 0
IsMadeMoment made b m at =
    ((r : Record) × (r.buffer ≡ b) × (r.id ≡ m) × (r.at ≡ at) × IsMade made (Post r))
    ⊎ IsMade made (Redact b m (Some at))

-- a record, a marker or a floor was made by some node. Of a redaction, some node made one of that id, and its
-- place, where it has one, is the moment of a post or a redaction of that id that some node made
abbrev pub ComesFrom : List Made → Change → Type 0
ComesFrom made (Redact b m t) = WasRedacted made b m × IfSome t (IsMadeMoment made b m)
ComesFrom made c = IsMade made c

abbrev pub incarnation_of : Option KnownLife → Option ℕ
incarnation_of heard = option_map (λ (h : KnownLife). h.incarnation) heard

-- a node knows the life that a peer has now
abbrev pub Knows : World → List ℕ → List ℕ → Type 0
Knows w name peer =
    incarnation_of ((w.nodes name).peers peer).heard ≡ Some (w.nodes peer).incarnation

-- the life that a node knows of a peer speaks no lower version than the node
abbrev pub Serves : World → List ℕ → List ℕ → Type 0
Serves w name peer =
    is_served (w.nodes name).version ((w.nodes name).peers peer).heard ≡ true

-- the peer includes every piece that the node holds with a number up to its acknowledged number
abbrev pub PeerIncludes : World → List ℕ → List ℕ → Type 0
PeerIncludes w name peer =
    (k : Key) (c : Change) → get (w.nodes name).history k ≡ Some c →
    number 0 (w.nodes name).taken k ≤ ((w.nodes name).peers peer).acked →
    Includes (w.nodes peer).taken c

-- the node knows the peer's present life, which acknowledged all that the node holds
abbrev pub IsAcknowledged : World → List ℕ → List ℕ → Type 0
IsAcknowledged w name peer =
    Knows w name peer × (((w.nodes name).peers peer).acked ≡ front 0 (w.nodes name).taken)

-- the delta that a node would send a peer of all that it took
abbrev pub next_delta : World → List ℕ → List ℕ → Delta
next_delta w name peer = delta 0 (w.nodes name).taken ((w.nodes name).peers peer).acked

-- some events lead there from nodes in their first lives, and each restart had an incarnation that its node never had
pub record IsReached (w : World) : Type 0 where
  pub incarnations : List ℕ → ℕ
  pub versions : List ℕ → Version
  pub events : List ClusterEvent
  pub differ : LivesDiffer events (start incarnations versions)
  pub ends : run events (start incarnations versions) ≡ w
