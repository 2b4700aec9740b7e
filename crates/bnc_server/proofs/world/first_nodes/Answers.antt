use Rattle.std.proofs.Common.{arith}
use Rattle.std.proofs.lemmas.Grind.{common_steps}
use Rattle.bnc_server.proofs.world.first_nodes.Goals as goal

pub loop-life-preserved : goal.loop-life-preserved
loop-life-preserved c = grind (arith, common_steps)

pub returns : goal.returns
returns c = grind (arith, common_steps)
