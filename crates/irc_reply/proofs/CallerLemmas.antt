-- What the crates above may name of these proofs.
pub use Rattle.irc_reply.proofs.ReplyLemmas.{reply_parts, reply_stands, reply_line, unknown_line, too_long_line, fail_line, mark_line, time_middle, low_behind}
pub use Rattle.irc_reply.proofs.TaggedLemmas.{kept_text_read}
