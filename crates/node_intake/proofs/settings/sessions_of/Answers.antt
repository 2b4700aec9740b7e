use Rattle.std.proofs.Common.{arith}
use Rattle.std.proofs.lemmas.Grind.{common_steps}
use Rattle.node_intake.proofs.settings.sessions_of.Goals as goal

pub loop-network-preserved : goal.loop-network-preserved
loop-network-preserved c = grind (arith, common_steps)

pub returns : goal.returns
returns c = grind (arith, common_steps)
