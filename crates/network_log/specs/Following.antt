-- How a client comes to be another value of it by events of its own alone, and how a list of clients is told something.
use Rattle.std.specs.Prelude.{ℕ, ◌≡◌, Bool, List, length}
use Rattle.chat_change.specs.declared.change.Change.{Change}
use Rattle.cluster_directory.specs.Directory.{Directory}
use Rattle.network_log.specs.Facts.{NodeFacts}
use Rattle.network_log.specs.Guest.{Guest, GuestEvent, guest_run}
use Rattle.network_log.specs.NetworkState.{told_by}
use Rattle.network_log.specs.Truth.{AreTrueOfGuest}

-- some events lead from the one to the other, where the node holds these changes and the accounts stand so
pub record GuestLeads (facts : NodeFacts) (held : List Change) (directory : Directory) (old new : Guest) : Type 0 where
  pub events : List GuestEvent
  pub are_true : AreTrueOfGuest facts held (λ d. d ≡ directory) events old
  pub is_run : new ≡ guest_run held events old

-- each of the first clients was told that, or is gone
pub record AreToldBy (hears : Guest → Guest) (count : ℕ) (old new : List Guest) : Type 0 where
  pub fits : List Bool
  pub is_count : length fits ≡ count
  pub is_new : new ≡ told_by hears fits old
