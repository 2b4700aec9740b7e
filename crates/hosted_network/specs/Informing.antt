-- Read markers that rose.
use Rattle.std.specs.Prelude.{ℕ, ◌≡◌, true, Some}
use Rattle.chat_change.specs.Buffer.{Buffer}
use Rattle.chat_history.specs.History.{mark}
use Rattle.network_log.specs.NetworkState.{NetworkState, is_further, last_told}

-- that is the marker of the buffer, as the node was last seen to have it, and further than the one that all clients were told last
pub record HasRisen (w : NetworkState) (buffer : Buffer) (at : ℕ) : Type 0 where
  pub is_marker : mark w.held buffer ≡ Some at
  pub is_further : is_further (Some at) (last_told w.markers buffer) ≡ true
