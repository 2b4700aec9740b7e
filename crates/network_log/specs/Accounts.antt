-- The accounts of a node and their networks, as its configuration has them. They never change.
use Rattle.std.specs.Prelude.{ℕ, ◌≡◌, true, false, is_some, List, [], Some, slice_get}
use Rattle.cluster_directory.specs.Entry.{Entry}
use Rattle.cluster_directory.specs.Directory.{Directory, directory_with, entry_by_secret}
use Rattle.cluster_directory.specs.declared.config.SessionConfig.{SessionConfig}

-- In turn: the accounts with their secrets and networks, none of which is up; and how each network is configured. Networks are
-- counted by their place in that list, from 0.
pub record Accounts : Type 0 where
  pub directory : Directory
  pub networks : List SessionConfig

-- A network that isn't up stands so: only its nick is known.
abbrev pub down : List ℕ → Entry
down nick = record { is_up = false; nick = nick; channels = []; takes_redact = false }

-- the accounts at a moment at which that network stands so
abbrev pub directory_at : Accounts → SessionConfig → Entry → Directory
directory_at accounts config entry =
    directory_with accounts.directory config.account config.network entry

-- That network of that account is the one at the place, and the secret is the account's.
pub record IsLogin (accounts : Accounts) (place : ℕ) (account network secret : List ℕ) : Type 0 where
  pub config : SessionConfig
  pub is_there : slice_get accounts.networks place ≡ Some config
  pub is_account : config.account ≡ account
  pub is_network : config.network ≡ network
  pub has_secret : is_some (entry_by_secret accounts.directory account network secret) ≡ true
