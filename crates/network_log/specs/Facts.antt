-- What is so of a node.
use Rattle.std.specs.Prelude.{ℕ, List}
use Rattle.chat_change.specs.declared.change.Change.{Change}
use Rattle.cluster_directory.specs.Terms.{Terms}
use Rattle.network_log.specs.Accounts.{Accounts}
use Rattle.network_log.specs.declared.origin.Origin.{Origin}

-- What its configuration says and its start settled, which never changes. In turn:
--   accounts  its accounts and networks
--   cluster   the name of the cluster
--   maximum   the most messages or buffers of an answer
--   terms     the word that the nodes share, this node's name and life, and its peers
--   days      for how many days messages are kept; 0 is for ever
-- What is known of what happened. In turn:
--   came      these were the first bytes that came over the connection of that number, of that origin. Only what receives says
--             so, and, of no bytes, what makes a connection
--   joined    the connection of that number joined the network at that place, behind so many others. A connection joins once,
--             and only what joins it says so
--   put       these are all the changes that were put for the network at that place, in order. Only what puts says so
--   held      these were all the changes that the node had published at some moment. Only the node's own calls say so
--   clock     the node's clock read that moment
pub record NodeFacts : Type 1 where
  pub accounts : Accounts
  pub cluster : List ℕ
  pub maximum : ℕ
  pub terms : Terms
  pub days : ℕ
  pub came : Origin → ℕ → List ℕ → Type 0
  pub joined : ℕ → ℕ → ℕ → Type 0
  pub put : ℕ → List Change → Type 0
  pub held : List Change → Type 0
  pub clock : ℕ → Type 0
