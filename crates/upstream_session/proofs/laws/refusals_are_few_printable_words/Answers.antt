use Rattle.upstream_session.proofs.RefusalLemmas.{others_leave_it, starts_shown, stays_shown}
use Rattle.upstream_session.proofs.laws.refusals_are_few_printable_words.Goals as goal

pub returns : goal.returns
returns c = record { others = others_leave_it; first = starts_shown; shown = stays_shown }
