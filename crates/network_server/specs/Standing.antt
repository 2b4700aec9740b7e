-- How a session stood before a line.
use Rattle.std.specs.Prelude.{◌≡◌, length}
use Rattle.cluster_directory.specs.Entry.{Entry}
use Rattle.network_server.specs.declared.standing.Standing.{Standing}

-- the entry was noted
pub record IsNoted (standing : Standing) (entry : Entry) : Type 0 where
  pub is_up : standing.is_up ≡ entry.is_up
  pub nick : standing.nick.items ≡ entry.nick
  pub channels : standing.channels ≡ length entry.channels
