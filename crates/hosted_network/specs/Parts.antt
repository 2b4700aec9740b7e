-- What contracts see of a network.
use Rattle.std.specs.Prelude.{ℕ, ◌≡◌, List, Option, None, Some, filter, not, slice_set}
use Rattle.cluster_directory.specs.declared.config.SessionConfig.{SessionConfig}
use Rattle.upstream_session.specs.Refusal.{Session}
use Rattle.network_log.specs.Guest.{Guest}
use Rattle.network_log.specs.Host.{Host}
use Rattle.network_log.specs.NetworkState.{NetworkState}
use Rattle.network_log.specs.declared.serial.TheConstants.{FIRST_SERIAL}
use Rattle.network_server.specs.ServerState.{ServerState}

-- the server, as its network's log has it
abbrev pub host_of : Option ServerState → Option Host
host_of None = None
host_of (Some s) = Some s.host

-- the serial number from which the next session goes on, and the nick, by the last session that ended
abbrev pub serial_of : Option Session → ℕ
serial_of None = FIRST_SERIAL
serial_of (Some s) = s.connection.serial

abbrev pub nick_of : SessionConfig → Option Session → List ℕ
nick_of config None = config.nick
nick_of config (Some s) = s.connection.entry.nick

-- In turn:
--   network  the network, as its log has it
--   retry    when its server is dialed, in milliseconds. None while one is there, or is being dialed
pub record Hosted : Type 0 where
  pub network : NetworkState
  pub retry : Option ℕ

-- nothing changed but the client at that place
pub record IsOnlyAt (place : ℕ) (old new : NetworkState) : Type 0 where
  pub client : Guest
  pub is_new : new ≡ record old { guests = slice_set old.guests place client }

-- those that aren't gone
abbrev pub those_there : List Guest → List Guest
those_there guests = filter (λ g. not g.is_gone) guests
