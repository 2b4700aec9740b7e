-- What a document says of a node: each value of its configuration is the one under its own key.
use Rattle.std.specs.Prelude.{ℕ, List, IsSomeAnd, codes}
use Rattle.toml.specs.Data.{Members}
use Rattle.toml.specs.Parse.{parse_document}
use Rattle.node_config.specs.declared.config.Config.{Config}
use Rattle.node_config.specs.declared.entries.AccountConfig.{AccountConfig}
use Rattle.node_config.specs.declared.entries.NetworkConfig.{NetworkConfig}
use Rattle.node_config.specs.declared.entries.PeerConfig.{PeerConfig}
use Rattle.node_config.specs.declared.limits.Limits.{Limits}
use Rattle.node_config.specs.declared.limits.TheConstants.{LEAST_MAXIMUM}
use Rattle.node_config.specs.Values.{HasText, HasNumber, HasNumberOr, HasTime, HasAddress, HasTexts, HasVersion, HasEntries}

-- a table of `peer` says this
pub record IsPeerOf (t : Members) (peer : PeerConfig) : Type 0 where
  pub name : HasText t (codes "name") peer.name
  pub address : HasAddress t (codes "address") peer.address
  pub version : HasVersion t (codes "version") peer.version

-- a table of `account`
pub record IsAccountOf (t : Members) (account : AccountConfig) : Type 0 where
  pub name : HasText t (codes "name") account.name
  pub secret : HasText t (codes "secret") account.secret
  pub keep_from : HasTime t (codes "keep_from") account.keep_from

-- a table of `network`
pub record IsNetworkOf (t : Members) (network : NetworkConfig) : Type 0 where
  pub account : HasText t (codes "account") network.account
  pub name : HasText t (codes "name") network.name
  pub address : HasAddress t (codes "address") network.address
  pub nick : HasText t (codes "nick") network.nick
  pub user : HasText t (codes "user") network.user
  pub channels : HasTexts t (codes "channels") network.channels.items

-- the numbers of a document
pub record AreLimitsOf (document : Members) (limits : Limits) : Type 0 where
  pub workers : HasNumber document (codes "workers") limits.workers
  pub places : HasNumber document (codes "places") limits.places
  pub bound : HasNumber document (codes "bound") limits.bound
  pub retain_days : HasNumber document (codes "retain_days") limits.retain_days

-- the lists of a document
abbrev pub ArePeersOf : Members → List PeerConfig → Type 0
ArePeersOf document peers = HasEntries IsPeerOf document (codes "peer") peers

abbrev pub AreAccountsOf : Members → List AccountConfig → Type 0
AreAccountsOf document accounts = HasEntries IsAccountOf document (codes "account") accounts

abbrev pub AreNetworksOf : Members → List NetworkConfig → Type 0
AreNetworksOf document networks = HasEntries IsNetworkOf document (codes "network") networks

-- the whole of a document
pub record IsConfigOf (document : Members) (config : Config) : Type 0 where
  pub name : HasText document (codes "name") config.name
  pub node : HasText document (codes "node") config.node
  pub listen : HasAddress document (codes "listen") config.listen
  pub peer_listen : HasAddress document (codes "peer_listen") config.peer_listen
  pub peer_word : HasText document (codes "peer_word") config.peer_word
  pub limits : AreLimitsOf document config.limits
  pub maximum : HasNumberOr LEAST_MAXIMUM document (codes "maximum") config.maximum
  pub peers : ArePeersOf document config.peers.items
  pub accounts : AreAccountsOf document config.accounts.items
  pub networks : AreNetworksOf document config.networks.items

-- the bytes are a document that says this
abbrev pub Says : List ℕ → Config → Type 0
Says bytes config = IsSomeAnd (parse_document bytes) (λ document. IsConfigOf document config)
