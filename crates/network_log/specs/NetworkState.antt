-- A network: its server, its clients, and what the node holds.
use Rattle.std.specs.Prelude.{ℕ, zero, suc, Bool, true, false, nat_lt, List, [], ◌∷◌, Option, None, Some, if◌then◌else◌}
use Rattle.chat_change.specs.Buffer.{Buffer}
use Rattle.chat_change.specs.declared.change.Change.{Change}
use Rattle.chat_history.specs.Retention.{same_buffer}
use Rattle.cluster_directory.specs.Entry.{Entry}
use Rattle.cluster_directory.specs.declared.config.SessionConfig.{SessionConfig}
use Rattle.network_log.specs.Accounts.{down}
use Rattle.network_log.specs.Guest.{Guest, fallen}
use Rattle.network_log.specs.Host.{Host, BatchEntry, Posted}
use Rattle.network_log.specs.declared.serial.TheConstants.{FIRST_SERIAL}

-- of a read marker that clients were told: whose it is, and its moment
pub record MarkerTold : Type 0 where
  pub buffer : Buffer
  pub at : ℕ

-- In turn:
--   place    its place among the networks of the node
--   config   how it is configured
--   joins    how many connections have joined it
--   serial   the serial number of the next id that is made for it, where no server is there
--   nick     its nick, where no server is there
--   server   its server, if one is there
--   batch    what came of the server's lines and isn't put yet, in order
--   puts     all that was put for it, in order
--   held     all that the node was last seen to have published, in order
--   markers  the read markers that all its clients were told, of each buffer the latest
--   guests   its clients
pub record NetworkState : Type 0 where
  pub place : ℕ
  pub config : SessionConfig
  pub joins : ℕ
  pub serial : ℕ
  pub nick : List ℕ
  pub server : Option Host
  pub batch : List BatchEntry
  pub puts : List Change
  pub held : List Change
  pub markers : List MarkerTold
  pub guests : List Guest

-- no connection is there yet
abbrev pub beginning : ℕ → SessionConfig → List Change → NetworkState
beginning place config held = record {
  place = place;
  config = config;
  joins = 0;
  serial = FIRST_SERIAL;
  nick = config.nick;
  server = None;
  batch = [];
  puts = [];
  held = held;
  markers = [];
  guests = [];
}

-- how the network stands
abbrev pub entry_by : List ℕ → Option Host → Entry
entry_by nick None = down nick
entry_by nick (Some h) = h.session.entry

abbrev pub entry_of : NetworkState → Entry
entry_of w = entry_by w.nick w.server

-- ---- the batch

-- the changes that are to be put
abbrev pub changes_of : List BatchEntry → List Change
changes_of [] = []
changes_of (Posted change is_own ∷ batch) = change ∷ changes_of batch
changes_of (_ ∷ batch) = changes_of batch

-- the first entries, up to the one whose change would be one too many
abbrev pub first_entries : ℕ → List BatchEntry → List BatchEntry
first_entries count [] = []
first_entries zero (Posted change is_own ∷ batch) = []
first_entries (suc count) (Posted change is_own ∷ batch) =
    Posted change is_own ∷ first_entries count batch
first_entries count (entry ∷ batch) = entry ∷ first_entries count batch

-- ---- markers

-- the moment of the marker that clients were told last of a buffer
abbrev pub last_told : List MarkerTold → Buffer → Option ℕ
last_told [] buffer = None
last_told (m ∷ markers) buffer = if same_buffer m.buffer buffer then Some m.at else last_told markers buffer

-- a marker is further than another, or there was none
abbrev pub is_further : Option ℕ → Option ℕ → Bool
is_further None was = false
is_further (Some at) None = true
is_further (Some at) (Some was) = nat_lt was at

-- the marker of a buffer is told, in place of the one before
abbrev pub with_told : Buffer → ℕ → List MarkerTold → List MarkerTold
with_told buffer at [] = record { buffer = buffer; at = at } ∷ []
with_told buffer at (m ∷ markers) =
    if same_buffer m.buffer buffer then record m { at = at } ∷ markers
    else m ∷ with_told buffer at markers

abbrev pub marker_noted : Buffer → Option ℕ → List MarkerTold → List MarkerTold
marker_noted buffer None markers = markers
marker_noted buffer (Some at) markers = with_told buffer at markers

-- ---- clients

-- the first clients are told something, those that can be owed it; the others of these are gone
abbrev pub told_by : (Guest → Guest) → List Bool → List Guest → List Guest
told_by hears [] guests = guests
told_by hears (fits ∷ more) [] = []
told_by hears (true ∷ more) (g ∷ guests) = hears g ∷ told_by hears more guests
told_by hears (false ∷ more) (g ∷ guests) = fallen g ∷ told_by hears more guests
