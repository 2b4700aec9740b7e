-- What the crates above may name of these proofs.
pub use Rattle.chat_buffers.proofs.StoreLemmas.{get-history, get-numbers_in, placed-plain, history_keyed, by_number_total}
-- what is known of keys after a step
pub use Rattle.chat_buffers.proofs.SettleLemmas.{not_same, entered_keyed, removed_keyed}
-- a value that is kept passes
pub use Rattle.chat_buffers.proofs.SoughtLemmas.{kept_passes, past_closed}
pub use Rattle.chat_buffers.proofs.CursorLemmas.{filter_all}
-- what a floor leaves stands under its keys
pub use Rattle.chat_buffers.proofs.FloorLemmas.{swept_keyed}
