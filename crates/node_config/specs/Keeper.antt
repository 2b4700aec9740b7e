-- What a document says of a keeper: each value of its configuration is the one under its own key.
use Rattle.std.specs.Prelude.{ℕ, List, IsSomeAnd, codes}
use Rattle.toml.specs.Data.{Members}
use Rattle.toml.specs.Parse.{parse_document}
use Rattle.node_config.specs.declared.keeper.KeeperConfig.{KeeperConfig}
use Rattle.node_config.specs.Meaning.{ArePeersOf}
use Rattle.node_config.specs.Values.{HasText}

-- the whole of a document
pub record IsKeeperOf (document : Members) (config : KeeperConfig) : Type 0 where
  pub node : HasText document (codes "node") config.node
  pub peer_word : HasText document (codes "peer_word") config.peer_word
  pub file : HasText document (codes "file") config.file
  pub peers : ArePeersOf document config.peers.items

-- the bytes are a document that says this
abbrev pub SaysOfKeeper : List ℕ → KeeperConfig → Type 0
SaysOfKeeper bytes config = IsSomeAnd (parse_document bytes) (λ document. IsKeeperOf document config)
