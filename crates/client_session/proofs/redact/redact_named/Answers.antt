use Rattle.std.proofs.Common.{arith}
use Rattle.std.proofs.lemmas.Grind.{common_steps}
use Rattle.client_session.proofs.redact.redact_named.Goals as goal

pub returns : goal.returns
returns c = grind (arith, common_steps)

pub returns-else-not-takes_redact : goal.returns-else-not-takes_redact
returns-else-not-takes_redact c = grind (arith, common_steps)
