-- What the crates above may name of these proofs.

-- schedules, put together event by event
pub use Rattle.gossip_link.proofs.StepLemmas.{Leads, nothing_happens, Leads-then, reached_then}
pub use Rattle.gossip_link.proofs.StepLemmas.{takes_own, hears_hello, next_packet, sends_all, packet_comes_in, ack_comes_in, restarts}
-- names, lives, and functions that are changed at one name
pub use Rattle.gossip_link.proofs.NameLemmas.{equal_is, changed_here}
pub use Rattle.gossip_link.proofs.NoLossLemmas.{apart, equal_itself, changed_there, same_life_itself}
