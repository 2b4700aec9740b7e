use Rattle.chat_history.proofs.StoredLemmas.{is_piece, not_redacted, not_below}
use Rattle.chat_history.proofs.laws.stored_records_are_pieces.Goals as goal

pub returns : goal.returns
returns c = record { pieces = is_piece; none_redacted = not_redacted; none_below = not_below }
