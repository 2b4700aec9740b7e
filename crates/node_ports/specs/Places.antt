-- The place of a network among those of a node.
use Rattle.std.specs.Prelude.{ℕ, Bool, ◌&&◌, List, Option, position}
use Rattle.std.specs.Str.{bytes_eq}
use Rattle.cluster_directory.specs.declared.config.SessionConfig.{SessionConfig}
use Rattle.network_log.specs.Accounts.{Accounts}

abbrev pub is_of : List ℕ → List ℕ → SessionConfig → Bool
is_of account network config = bytes_eq config.account account && bytes_eq config.network network

abbrev pub place_of : Accounts → List ℕ → List ℕ → Option ℕ
place_of accounts account network = position (is_of account network) accounts.networks
