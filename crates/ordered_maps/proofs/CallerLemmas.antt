-- What the crates above may name of these proofs.
pub use Rattle.ordered_maps.proofs.MapViewLemmas.{get-held_by, entries-from_ordered, changed_at, unchanged, All-from_lookup}
pub use Rattle.ordered_maps.proofs.MapViewLemmas.{held_alike, inserted, removed, written}
