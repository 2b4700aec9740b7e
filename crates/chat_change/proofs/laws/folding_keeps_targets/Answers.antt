use Rattle.chat_change.proofs.WordsLemmas.{lower_case_of-twice, is_target-lower_case_of}
use Rattle.chat_change.proofs.laws.folding_keeps_targets.Goals as goal

pub returns : goal.returns
returns c = record {
  idempotent = lower_case_of-twice;
  targets = is_target-lower_case_of;
}
