-- What the crates above may name of these proofs.
-- what is asked, and the words and references that may stand in a line
pub use Rattle.chat_query.proofs.GivenLemmas.{HasGiven, second_of, query_given}
pub use Rattle.chat_query.proofs.WordLemmas.{target_word, id_bytes, own_bytes, body_stands, kind_is_command, echoed_word}
pub use Rattle.chat_query.proofs.ReferenceLemmas.{reference_stands}
-- buffers in the order of their latest moments
pub use Rattle.chat_query.proofs.BufferLemmas.{Listed, spot_exact, set_is}
-- what is written and what is answered is lines
pub use Rattle.chat_query.proofs.LinesLemmas.{history_lines, targets_lines, live_lines}
pub use Rattle.chat_query.proofs.AnswerLinesLemmas.{answer_lines, read_answer_lines}
-- sets of one normal form have one answer
pub use Rattle.chat_query.proofs.AnswerLemmas.{same_answer}
