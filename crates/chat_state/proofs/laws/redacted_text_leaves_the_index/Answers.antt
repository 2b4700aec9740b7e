use Rattle.chat_state.proofs.IndexLemmas.{no_redacted}
use Rattle.chat_state.proofs.laws.redacted_text_leaves_the_index.Goals as goal

pub returns : goal.returns
returns c = no_redacted
