-- What never changes of a node: what its configuration says.
use Rattle.std.specs.Prelude.{ℕ, ◌≡◌, List, map}
use Rattle.bnc_work.specs.declared.settings.NodeSettings.{NodeSettings}
use Rattle.cluster_directory.specs.Terms.{Terms}
use Rattle.cluster_directory.specs.declared.terms.PeerTerms.{PeerTerms}
use Rattle.network_log.specs.Accounts.{Accounts}
use Rattle.node_config.specs.Beginnings.{directory_of, names_of}
use Rattle.node_config.specs.declared.config.Config.{Config}
use Rattle.node_config.specs.declared.entries.NetworkConfig.{NetworkConfig}
use Rattle.node_config.specs.declared.entries.PeerConfig.{PeerConfig}
use Rattle.cluster_directory.specs.declared.config.SessionConfig.{SessionConfig}

-- the session with a network's server: with its account, its names and its channels
abbrev pub session_of : NetworkConfig → SessionConfig
session_of n = record {
  account = n.account;
  network = n.name;
  nick = n.nick;
  user = n.user;
  channels = n.channels.items;
}

-- one for each network, in their order
abbrev pub sessions_of : List NetworkConfig → List SessionConfig
sessions_of networks = map session_of networks

-- what is said to a peer: the hello in its version
abbrev pub peer_terms_of : PeerConfig → PeerTerms
peer_terms_of p = record { name = p.name; version = p.version }

-- the shared word, the node in this incarnation, and its peers in their order
abbrev pub terms_of : Config → ℕ → Terms
terms_of config incarnation = record {
  word = config.peer_word;
  me = record { node = config.node; incarnation = incarnation };
  peers = map peer_terms_of config.peers.items;
}

-- the accounts and their networks, none of which is up
abbrev pub accounts_of : Config → Accounts
accounts_of config = record {
  directory = directory_of config.accounts.items config.networks.items;
  networks = sessions_of config.networks.items;
}

-- They are what the configuration says, in some incarnation of the node.
pub record AreSettings (config : Config) (settings : NodeSettings) : Type 0 where
  pub incarnation : ℕ
  pub is_cluster : settings.cluster ≡ config.name
  pub is_maximum : settings.maximum ≡ config.maximum
  pub are_accounts : settings.accounts ≡ accounts_of config
  pub are_terms : settings.terms ≡ terms_of config incarnation
  pub are_peers : settings.peers.items ≡ names_of config.peers.items
  pub are_days : settings.retain_days ≡ config.limits.retain_days
