-- What a document says of the parts of a configuration that are read on their own.
use Rattle.std.specs.Prelude.{codes}
use Rattle.toml.specs.Data.{Members}
use Rattle.node_config.specs.declared.reading.NodeHead.{NodeHead}
use Rattle.node_config.specs.declared.reading.Lists.{Lists}
use Rattle.node_config.specs.Values.{HasText, HasAddress}
use Rattle.node_config.specs.Meaning.{ArePeersOf, AreAccountsOf, AreNetworksOf}

-- who the node is, and where it listens
pub record IsHeadOf (document : Members) (head : NodeHead) : Type 0 where
  pub name : HasText document (codes "name") head.name
  pub node : HasText document (codes "node") head.node
  pub listen : HasAddress document (codes "listen") head.listen
  pub peer_listen : HasAddress document (codes "peer_listen") head.peer_listen
  pub peer_word : HasText document (codes "peer_word") head.peer_word

-- the lists
pub record AreListsOf (document : Members) (lists : Lists) : Type 0 where
  pub peers : ArePeersOf document lists.peers.items
  pub accounts : AreAccountsOf document lists.accounts.items
  pub networks : AreNetworksOf document lists.networks.items
