-- What a keeper finds in its file after any lives.
use Rattle.std.specs.Prelude.{ℕ, ◌⊎◌, List, [], Contains}
use Rattle.chat_change.specs.declared.change.Change.{Change}
use Rattle.gossip_link.specs.Cluster.{World}
use Rattle.gossip_link.specs.Promises.{IsMade}
use Rattle.history_file.specs.Changes.{Past, HasPast}
use Rattle.keeper.specs.Keeper.{HasNoOthers}
use Rattle.keeper.specs.Lives.{Life, AreLives, last_left, all_given}
use Rattle.peer_lines.specs.Packet.{Packet}

-- some node made the change, or sent it in a packet
abbrev pub MayCome : World → Change → Type 0
MayCome w c = IsMade w.made c ⊎ ((p : Packet) × Contains w.packets p × Contains p.changes c)

-- The file began with no change, lived these lives, in which nothing came but what some node had made or sent, and stands for
-- this past now.
pub record IsRecovered (w : World) (lives : List Life) (past : Past) : Type 0 where
  pub first : List ℕ
  pub begins : HasNoOthers [] first
  pub are : AreLives first lives
  pub came : (c : Change) → Contains (all_given lives) c → MayCome w c
  pub stands : HasPast (last_left first lives) past
