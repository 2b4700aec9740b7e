-- The network that a line names, and that a session is to be registered with.
use Rattle.std.specs.Prelude.{ℕ, Bool, false, ◌&&◌, List, Option, None, Some}
use Rattle.std.specs.Str.{bytes_eq}
use Rattle.irc_line.specs.Stream.{Item, line as whole_line}
use Rattle.cluster_directory.specs.declared.config.SessionConfig.{SessionConfig}
use Rattle.client_session.specs.Naming.{user_after, user_in}
use Rattle.client_session.specs.Registration.{account_of, network_of}
use Rattle.client_session.specs.declared.stage.Stage.{Stage}
use Rattle.network_log.specs.Accounts.{Accounts}
use Rattle.node_ports.specs.Places.{place_of}

-- the place of the network of that user
abbrev pub place_of_user : Accounts → Option (List ℕ) → Option ℕ
place_of_user accounts None = None
place_of_user accounts (Some user) = place_of accounts (account_of user) (network_of user)

-- the place of the network that a line names, where it is one of these
abbrev pub place_in : Accounts → List ℕ → Option ℕ
place_in accounts bytes = place_of_user accounts (user_in bytes)

abbrev pub place_in_item : Accounts → Option Item → Option ℕ
place_in_item accounts (Some (whole_line bytes)) = place_in accounts bytes
place_in_item accounts _ = None

-- the user is that network of that account
abbrev pub is_user : SessionConfig → List ℕ → Bool
is_user config user =
    bytes_eq (account_of user) config.account && bytes_eq (network_of user) config.network

abbrev pub is_user_if : SessionConfig → Option (List ℕ) → Bool
is_user_if config None = false
is_user_if config (Some user) = is_user config user

-- the session is to be registered with that account and network once it has heard the line
abbrev pub is_for : SessionConfig → Stage → List ℕ → Bool
is_for config session bytes = is_user_if config (user_after session bytes)

abbrev pub is_for_item : SessionConfig → Stage → Option Item → Bool
is_for_item config session (Some (whole_line bytes)) = is_for config session bytes
is_for_item config session _ = false
