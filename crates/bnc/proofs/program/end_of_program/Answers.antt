use Rattle.std.proofs.Common.{subst}
use Rattle.bnc.specs.Replaying.{AsksForScript}
use Rattle.bnc.proofs.program.end_of_program.Goals as goal

pub returns-in-Some-Replay-clause-untouched : goal.returns-in-Some-Replay-clause-untouched
returns-in-Some-Replay-clause-untouched g c =
    let asked = rw c.in-Some-Replay.field-0-is at c.in-Some-Replay.ensures in
    λ no_script. c.replay_script.ensures.untouched (λ lawful. no_script (subst AsksForScript asked lawful))
