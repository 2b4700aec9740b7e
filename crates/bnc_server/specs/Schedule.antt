-- What the nodes of a script are in a cluster.
use Rattle.std.specs.Prelude.{ℕ, ◌≡◌, ◌≢◌, ◌<◌, length}
use Rattle.gossip_link.specs.Cluster as cluster
use Rattle.gossip_link.specs.Promises.{IsReached}
use Rattle.bnc_server.specs.Links.{link_at}
use Rattle.bnc_server.specs.World.{World, node_at}
use Rattle.bnc_server.specs.Script.{places, name_of}

-- how many nodes there are
abbrev pub node_count : ℕ
node_count = length places

-- the places of two nodes
pub record ArePlaces (one other : ℕ) : Type 0 where
  pub is_one : one < node_count
  pub is_other : other < node_count
  pub differ : one ≢ other

-- Each node of the script took in the cluster just what it took, lives there the same life, and knows there the same of
-- each other.
pub record IsShown (w : cluster.World) (v : World) : Type 0 where
  pub taken : (place : ℕ) → place < node_count →
      (w.nodes (name_of place)).taken ≡ (node_at v place).taken
  pub life : (place : ℕ) → place < node_count →
      cluster.life (name_of place) (w.nodes (name_of place)) ≡ (node_at v place).life
  pub known : (place other : ℕ) → ArePlaces place other →
      (w.nodes (name_of place)).peers (name_of other) ≡ (link_at (node_at v place) other).peer

-- some events lead to a cluster that shows the nodes
abbrev pub IsSchedule : World → Type 0
IsSchedule v = (w : cluster.World) × IsReached w × IsShown w v
