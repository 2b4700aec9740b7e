-- What comes of a put for a network.
use Rattle.std.specs.Prelude.{ℕ, ◌≡◌, List, ◌++◌, length, take}
use Rattle.chat_change.specs.declared.change.Change.{Change}
use Rattle.network_log.specs.Facts.{NodeFacts}
use Rattle.network_log.specs.Following.{AreToldBy}
use Rattle.network_log.specs.Host.{BatchEntry}
use Rattle.network_log.specs.NetworkState.{NetworkState}
use Rattle.network_log.specs.Putting.{IsSeen}
use Rattle.network_log.specs.Share.{hears_batch}
use Rattle.network_log.specs.Truth.{ArePut}

-- The changes were put for the network and published, behind what others had published. Nothing else changed.
pub record ArePutBehind (facts : NodeFacts) (changes : List Change) (old new : NetworkState) : Type 0 where
  pub others : List Change
  pub is_seen : IsSeen facts old.held (old.held ++ others)
  pub are_put : ArePut facts old.place old.puts (old.held ++ others) changes
  pub is_new : new ≡ record old { puts = old.puts ++ changes; held = (old.held ++ others) ++ changes }

-- So many of them, the first ones, were put and wait to be published.
pub record ArePutInPart (facts : NodeFacts) (count : ℕ) (changes : List Change) (old new : NetworkState) : Type 0 where
  pub held : List Change
  pub is_seen : IsSeen facts old.held held
  pub is_put : facts.put old.place (old.puts ++ take count changes)
  pub is_new : new ≡ record old { puts = old.puts ++ take count changes; held = held }

-- The node was seen again, and each client was told its share of these entries as the node was then, or is gone.
pub record IsToldSeen (facts : NodeFacts) (batch : List BatchEntry) (old new : NetworkState) : Type 0 where
  pub held : List Change
  pub is_seen : IsSeen facts old.held held
  pub are_told : AreToldBy (hears_batch held batch) (length old.guests) old.guests new.guests
  pub is_new : new ≡ record old { held = held; guests = new.guests }
