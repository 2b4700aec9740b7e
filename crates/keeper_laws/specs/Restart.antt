-- How a node of a cluster starts again from a keeper's file.
use Rattle.std.specs.Prelude.{ℕ, ◌≡◌, ◌≢◌, ◌≤◌, ◌<◌, ⊤, List, [], ◌∷◌, length}
use Rattle.std.specs.List.{AllByRecursion}
use Rattle.chat_change.specs.declared.change.Change.{Change}
use Rattle.chat_history.specs.History.{norm}
use Rattle.cluster_directory.specs.declared.version.Version.{Version}
use Rattle.gossip_link.specs.Cluster.{Node, ClusterEvent, Make, Take, Restart}
use Rattle.keeper.specs.Keeper.{Says, Covers}
use Rattle.keeper.specs.Lives.{Life, IsLife}

-- the incarnations that a node has and had
abbrev pub lives_of : Node → List ℕ
lives_of x = x.incarnation ∷ x.earlier

-- none of them is above that number
abbrev pub HasLivedUpTo : ℕ → Node → Type 0
HasLivedUpTo n x = AllByRecursion (λ i. i ≤ n) (lives_of x)

-- a node starts again in an incarnation, makes the changes that it found, and takes them
abbrev pub restart_with : List ℕ → ℕ → Version → List Change → List ClusterEvent
restart_with name incarnation version found =
    Restart name incarnation version ∷ Make name found ∷ Take name 0 (length found) ∷ []

-- The node begins that life of a keeper. Its file says these changes and knows a life no lower
-- than any that the node had, and what was found in it says them too.
pub record IsReturn (x : Node) (life : Life) (found said : List Change) : Type 0 where
  pub file : List ℕ
  pub known : ℕ
  pub covers : Covers said known file
  pub lived : HasLivedUpTo known x
  pub begins : IsLife file life
  pub says : Says found said

-- The node holds what was found, and what it took says these changes, in an incarnation above each
-- that it had.
pub record IsBack (old : Node) (number : ℕ) (found said : List Change) (new : Node) : Type 0 where
  pub holds : new.history ≡ norm found
  pub says : Says new.taken said
  pub incarnation : new.incarnation ≡ number
  pub above : AllByRecursion (λ i. i < number) (lives_of old)
  pub lived : HasLivedUpTo number new

-- what happens is no restart of the node
abbrev pub IsAnother : List ℕ → ClusterEvent → Type 0
IsAnother name (Restart node incarnation version) = node ≢ name
IsAnother name _ = ⊤
