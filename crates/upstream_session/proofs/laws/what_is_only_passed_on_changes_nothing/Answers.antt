use Rattle.upstream_session.proofs.PassingLemmas.{stays_as_it_is, keeps_words, relays_at_most}
use Rattle.upstream_session.proofs.laws.what_is_only_passed_on_changes_nothing.Goals as goal

pub returns : goal.returns
returns c = record { session = stays_as_it_is; refusal = keeps_words; effects = relays_at_most }
