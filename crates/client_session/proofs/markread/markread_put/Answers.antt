use Rattle.std.proofs.Common.{arith}
use Rattle.std.proofs.lemmas.Grind.{common_steps}
use Rattle.client_session.proofs.markread.markread_put.Goals as goal

pub bounds-parameters-0 : goal.bounds-parameters-0
bounds-parameters-0 c = omega arith

pub bounds-parameters-1 : goal.bounds-parameters-1
bounds-parameters-1 c = omega arith

pub returns-in-None : goal.returns-in-None
returns-in-None c = grind (arith, common_steps)

pub returns-in-Some : goal.returns-in-Some
returns-in-Some c = grind (arith, common_steps)
