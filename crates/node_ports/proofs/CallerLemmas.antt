-- What the crates above may name of these proofs.
pub use Rattle.node_ports.proofs.UnreadLemmas.{left_next, left_so, none_left, ahead_next, next_ahead}
