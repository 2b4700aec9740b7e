-- What changes a connection with another node.
use Rattle.std.specs.Prelude.{ℕ, ◌≡◌, ◌≤◌, true, false, Option, Some, is_some, length}
use Rattle.irc_line.specs.Stream.{Item, held_without, next_item}
use Rattle.peer_lines.specs.declared.peer_line.PeerLine.{PeerLine}
use Rattle.gossip_link.specs.Session.{IsRead, step, is_close}
use Rattle.gossip_link.specs.declared.heard.Heard.TheVariants.{Nothing}
use Rattle.network_log.specs.Facts.{NodeFacts}
use Rattle.network_log.specs.Peer.{bytes_in}
use Rattle.node_peers.specs.PeerState.{PeerState, said_to}
use Rattle.node_peers.specs.Talk.{after_step}

-- Its session hears its next line at that moment, or that this was too long, once what the line before brought is carried out.
pub record IsHeard (facts : NodeFacts) (now : ℕ) (old new : PeerState) : Type 0 where
  pub item : Item
  pub line : Option PeerLine
  pub is_next : next_item old.unread ≡ Some item
  pub is_idle : old.talk.brought ≡ Nothing
  pub is_read : IsRead (bytes_in item) line
  pub is_kept : is_close (step facts.terms old.talk.session line).heard ≡ false
  pub is_new : new ≡ record old {
    unread = held_without (Some item) old.unread;
    talk = after_step (step facts.terms old.talk.session line) now old.talk;
  }

-- It is lost: nothing is said any more, and nothing was that isn't owed or sent. The peer that was noted still is.
pub record IsLost (old new : PeerState) : Type 0 where
  pub has_loss : is_some new.loss ≡ true
  pub received : new.received ≡ old.received
  pub sent : new.sent ≡ old.sent
  pub owed : new.talk.owed ≡ old.talk.owed
  pub noted : new.talk.noted ≡ old.talk.noted

-- The first bytes of what was owed went out, or none, and nothing else changed. Where the other node is gone it is lost.
pub record IsSent (old new : PeerState) : Type 0 where
  pub all : said_to new ≡ said_to old
  pub is_less : length new.talk.owed ≤ length old.talk.owed
  pub is_same : new ≡ record old {
    sent = new.sent;
    talk = record old.talk { owed = new.talk.owed };
    loss = new.loss;
  }
