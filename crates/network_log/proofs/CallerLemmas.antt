-- What the crates above may name of these proofs.
pub use Rattle.network_log.proofs.ItemLemmas.{items-more}
