-- What a node begins with.
use Rattle.std.specs.Prelude.{ℕ, ◌≡◌, false, List, [], map, filter}
use Rattle.std.specs.Str.{bytes_eq}
use Rattle.cluster_directory.specs.Directory as directory
use Rattle.cluster_directory.specs.Entry.{Entry}
use Rattle.node_config.specs.declared.entries.AccountConfig.{AccountConfig}
use Rattle.node_config.specs.declared.entries.NetworkConfig.{NetworkConfig}
use Rattle.node_config.specs.declared.entries.PeerConfig.{PeerConfig}

-- a network isn't up, and its present nick is the configured one
abbrev pub entry_of : NetworkConfig → Entry
entry_of n = record { is_up = false; nick = n.nick; channels = []; takes_redact = false }

abbrev pub network_of : NetworkConfig → directory.Network
network_of n = record { name = n.name; entry = entry_of n }

-- the networks of an account, in their order
abbrev pub networks_of : List NetworkConfig → List ℕ → List directory.Network
networks_of networks account =
    map network_of (filter (λ n. bytes_eq n.account account) networks)

abbrev pub account_of : List NetworkConfig → AccountConfig → directory.Account
account_of networks a =
    record { name = a.name; secret = a.secret; networks = networks_of networks a.name }

-- the accounts, each with its secret and its networks
abbrev pub directory_of : List AccountConfig → List NetworkConfig → directory.Directory
directory_of accounts networks = map (account_of networks) accounts

abbrev pub names_of : List PeerConfig → List (List ℕ)
names_of peers = map (λ p. p.name) peers

-- a copy of a network
pub record IsCopy (network copy : NetworkConfig) : Type 0 where
  pub account : copy.account ≡ network.account
  pub name : copy.name ≡ network.name
  pub address : copy.address ≡ network.address
  pub nick : copy.nick ≡ network.nick
  pub user : copy.user ≡ network.user
  pub channels : copy.channels.items ≡ network.channels.items
