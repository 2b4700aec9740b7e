-- That all is by right which is said over a connection with another node.
use Rattle.std.specs.Prelude.{ℕ, ◌≡◌, false, List, ◌++◌, Option, Some}
use Rattle.irc_line.specs.Stream.{Item, Held, bytes_of, held_past, items, items_from, next_item}
use Rattle.cluster_directory.specs.Terms.{Terms}
use Rattle.peer_lines.specs.declared.peer_line.PeerLine.{PeerLine}
use Rattle.gossip_link.specs.Session.{IsRead, is_close, step}
use Rattle.gossip_link.specs.declared.handshake.Side.{Side}
use Rattle.gossip_link.specs.declared.handshake.Side.TheVariants.{Opener, Acceptor}
use Rattle.network_log.specs.Facts.{NodeFacts}
use Rattle.network_log.specs.Peer.{PeerCourse, bytes_in}
use Rattle.network_log.specs.Telling.{IsPeer}
use Rattle.node_peers.specs.Talk.{Talk, after_step}

-- All that was said to it is by right, and its session heard the first lines of what came. Whatever follows, the lines of the
-- whole stream are these, then those of what is unread and of the rest.
pub record IsServed (facts : NodeFacts) (side : Side) (received : List ℕ) (unread : Held) (sent : List ℕ) (talk : Talk) : Type 0 where
  pub heard : List Item
  pub course : PeerCourse facts side heard talk.session talk.brought talk.noted (sent ++ talk.owed)
  pub given : (rest : List ℕ) → items (received ++ rest) ≡ heard ++ items_from unread rest

-- where this node opened it, it was to a configured peer
abbrev pub IsConfigured : NodeFacts → Side → Type 0
IsConfigured facts (Opener peer) = IsPeer facts peer
IsConfigured facts Acceptor = Unit {0}

-- The session heard the next line of what is unread at that moment, or that it was too long, and went on.
pub record IsHeardSo (terms : Terms) (now : ℕ) (unread later : Held) (old new : Talk) : Type 0 where
  pub item : Item
  pub line : Option PeerLine
  pub is_next : next_item unread ≡ Some item
  pub is_read : IsRead (bytes_in item) line
  pub is_kept : is_close (step terms old.session line).heard ≡ false
  pub is_new : new ≡ after_step (step terms old.session line) now old
  pub is_past : later ≡ held_past (bytes_of unread)
