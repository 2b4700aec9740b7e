use Rattle.std.proofs.Common.{arith}
use Rattle.std.proofs.lemmas.Grind.{common_steps}
use Rattle.client_session.proofs.shared.nick_refusal.Goals as goal

pub returns-else-not-is_target : goal.returns-else-not-is_target
returns-else-not-is_target c = grind (arith, common_steps)

pub returns : goal.returns
returns c = grind (arith, common_steps)
