use Rattle.chat_change.proofs.FaultsLemmas.{bad_target-told, bad_source-told, bad_body-told, line_too_long-told, bad_tags-told}
use Rattle.chat_change.proofs.laws.maker_of_records_tells_the_first_fault.Goals as goal

pub returns : goal.returns
returns c = record {
  bad_target = bad_target-told;
  bad_source = bad_source-told;
  bad_body = bad_body-told;
  line_too_long = line_too_long-told;
  bad_tags = bad_tags-told;
}
