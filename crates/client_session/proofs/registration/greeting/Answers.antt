use Rattle.std.proofs.Common.{arith}
use Rattle.std.proofs.lemmas.Grind.{common_steps}
use Rattle.client_session.proofs.registration.greeting.Goals as goal

pub loop-channel-preserved : goal.loop-channel-preserved
loop-channel-preserved c = grind (arith, common_steps)
