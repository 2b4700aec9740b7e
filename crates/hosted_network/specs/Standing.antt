-- The accounts by which a network hears its clients: its own account, with its own network alone.
use Rattle.std.specs.Prelude.{ℕ, ◌≡◌, List}
use Rattle.cluster_directory.specs.Directory.{Directory, directory_with, entry_in}
use Rattle.cluster_directory.specs.Entry.{Entry}
use Rattle.cluster_directory.specs.declared.config.SessionConfig.{SessionConfig}
use Rattle.hosted_network.specs.declared.standing.NetworkStanding.{NetworkStanding}

-- it has the same entry of the network as the node's accounts, where the network stands so
abbrev pub HasEntry : Directory → SessionConfig → Entry → Directory → Type 0
HasEntry accounts config entry directory =
    entry_in directory config.account config.network
    ≡ entry_in (directory_with accounts config.account config.network entry) config.account config.network

-- where it stood so at some moment
pub record HasSomeEntry (accounts : Directory) (config : SessionConfig) (directory : Directory) : Type 0 where
  pub entry : Entry
  pub is_entry : HasEntry accounts config entry directory

-- where it stands so, but for its channels, of which a registered session hears nothing
pub record StandsSo (accounts : Directory) (config : SessionConfig) (entry : Entry) (directory : Directory) : Type 0 where
  pub channels : List (List ℕ)
  pub is_entry : HasEntry accounts config (record entry { channels = channels }) directory

-- an entry says that a network stands so, but for its channels
pub record IsAs (standing : NetworkStanding) (entry : Entry) : Type 0 where
  pub is_up : entry.is_up ≡ standing.is_up
  pub is_nick : entry.nick ≡ standing.nick.now
  pub is_redact : entry.takes_redact ≡ standing.takes_redact
