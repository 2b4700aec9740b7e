-- What the crates above may name of these proofs.
pub use Rattle.chat_change.proofs.OrderLemmas.{id_total, id_exact, texts_total, texts_exact, buffer_apart, buffer_total, buffer_exact}
pub use Rattle.chat_change.proofs.OrderLemmas.{message_apart, message_total, record_apart, tie_total, record_total, record_exact}
pub use Rattle.chat_change.proofs.KeyLemmas.{key_total, key_exact, same_key_itself, same_key_is, same_key_from}
pub use Rattle.chat_change.proofs.FaultsLemmas.{lawful_message, lawful_buffer, is_message-lawful}
