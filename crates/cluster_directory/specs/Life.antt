-- Lives of nodes.
use Rattle.std.specs.Prelude.{ℕ, ◌≡◌, ◌<◌, ◌^◌, Bool, true, ◌&&◌, ◌==◌, List}
use Rattle.cluster_directory.specs.Names.{is_node_name, same_name}

-- a node from one start to the next
pub record Life : Type 0 where
  pub node : List ℕ  -- its name
  pub incarnation : ℕ

abbrev pub same_life : Life → Life → Bool
same_life a b = same_name a.node b.node && a.incarnation == b.incarnation

-- the lives that there are: those of which each part is lawful
pub record IsLife (l : Life) : Type 0 where
  pub node : is_node_name l.node ≡ true
  pub incarnation : l.incarnation < 2 ^ 64
