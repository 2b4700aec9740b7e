-- A marker that a client puts.
use Rattle.std.specs.Prelude.{ℕ, ◌≡◌, Bool, List, ◌∷◌, length, Some, slice_get, slice_set, false}
use Rattle.chat_change.specs.Buffer.{Buffer, buffer_of}
use Rattle.chat_change.specs.declared.change.Change.{Change}
use Rattle.chat_change.specs.declared.change.Change.TheVariants.{Mark as Marks}
use Rattle.chat_history.specs.History.{mark}
use Rattle.client_session.specs.declared.effect.Effect.{Effect}
use Rattle.client_session.specs.declared.effect.Effect.TheVariants.{Put}
use Rattle.cluster_directory.specs.declared.config.SessionConfig.{SessionConfig}
use Rattle.network_log.specs.Facts.{NodeFacts}
use Rattle.network_log.specs.Guest.{Guest}
use Rattle.network_log.specs.NetworkState.{NetworkState, marker_noted, told_by}
use Rattle.network_log.specs.Putting.{IsSeen}
use Rattle.network_log.specs.Share.{hears_marker}
use Rattle.hosted_network.specs.declared.marking.Mark.{Mark}

-- it is that change, and of a buffer of the network
pub record IsMarkOf (config : SessionConfig) (change : Change) (m : Mark) : Type 0 where
  pub at : ℕ
  pub is_change : change ≡ Marks m.buffer at
  pub is_same : m.change ≡ change
  pub is_target : m.target ≡ m.buffer.target
  pub is_buffer : m.buffer ≡ buffer_of config.account config.network m.target

-- it is next of what a client, which is there, has to do
pub record IsNextMark (config : SessionConfig) (m : Mark) (g : Guest) : Type 0 where
  pub more : List Effect
  pub is_there : g.is_gone ≡ false
  pub is_next : g.todo ≡ Put m.change ∷ more
  pub is_mark : IsMarkOf config m.change m

-- each client but the one at that place was told that, or is gone
pub record AreOthersToldBy (hears : Guest → Guest) (place : ℕ) (old new : List Guest) : Type 0 where
  pub fits : List Bool
  pub is_count : length fits ≡ length old
  pub is_new : (g : Guest) → slice_get old place ≡ Some g → new ≡ slice_set (told_by hears fits old) place g

-- The node was seen again. In turn: nobody was told the marker; and each client but the one at that place was told the marker of the
-- target, as the node had it then, or is gone.
pub data IsMarkTold (facts : NodeFacts) (place : ℕ) (buffer : Buffer) (target : List ℕ) (old new : NetworkState) : Type 0 where
  NobodyIsTold : (held : List Change) → IsSeen facts old.held held
      → new ≡ record old { held = held }
      → IsMarkTold facts place buffer target old new
  OthersAreTold : (held : List Change) → IsSeen facts old.held held
      → AreOthersToldBy (hears_marker held target) place old.guests new.guests
      → new ≡ record old {
        held = held;
        markers = marker_noted buffer (mark held buffer) old.markers;
        guests = new.guests;
      }
      → IsMarkTold facts place buffer target old new
