use Rattle.chat_query.proofs.ParameterLemmas.{few_of_between}
use Rattle.chat_query.proofs.parameters.read_between.Goals as goal

pub returns-in_default : goal.returns-in_default
returns-in_default c = few_of_between (λ p. p.now) c.args.parameters.now c.in_default.len_below
