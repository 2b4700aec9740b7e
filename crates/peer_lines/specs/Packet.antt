-- What nodes send each other.
use Rattle.std.specs.Prelude.{ℕ, List, length}
use Rattle.chat_change.specs.declared.change.Change.{Change}
use Rattle.cluster_directory.specs.Life.{Life}
use Rattle.cluster_directory.specs.declared.version.Version.{Version}

-- the sender says which life it has, and which version of the lines it speaks
pub record Hello : Type 0 where
  pub life : Life
  pub version : Version

-- the head of a packet, of which so many changes follow
pub record Head : Type 0 where
  pub sender : Life
  pub receiver : Life
  pub from : ℕ
  pub to : ℕ
  pub count : ℕ

-- pieces that the sender holds: those with numbers above `from`, up to `to`
pub record Packet : Type 0 where
  pub sender : Life
  pub receiver : Life
  pub from : ℕ
  pub to : ℕ
  pub changes : List Change

-- the sender says that it took the pieces with numbers up to `upto`
pub record Ack : Type 0 where
  pub sender : Life
  pub receiver : Life
  pub upto : ℕ

-- the head of a packet
abbrev pub head_of : Packet → Head
head_of p = record {
  sender = p.sender;
  receiver = p.receiver;
  from = p.from;
  to = p.to;
  count = length p.changes;
}

-- the packet of a head and its changes
abbrev pub packet_of : Head → List Change → Packet
packet_of h changes = record {
  sender = h.sender;
  receiver = h.receiver;
  from = h.from;
  to = h.to;
  changes = changes;
}
