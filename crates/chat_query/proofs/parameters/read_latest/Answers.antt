use Rattle.chat_query.proofs.ParameterLemmas.{few_of_latest}
use Rattle.chat_query.proofs.parameters.read_latest.Goals as goal

pub returns-in_default : goal.returns-in_default
returns-in_default c = few_of_latest (λ p. p.now) c.args.parameters.now c.in_default.len_below
