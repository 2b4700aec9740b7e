use Rattle.std.proofs.Common.{arith}
use Rattle.std.proofs.lemmas.Grind.{common_steps}
use Rattle.chat_state.proofs.since.changes_of.Goals as goal

pub offset_bounds-turn-piece-index : goal.offset_bounds-turn-piece-index
offset_bounds-turn-piece-index c = omega arith

pub bounds-turn-piece-index : goal.bounds-turn-piece-index
bounds-turn-piece-index c = omega arith

pub loop-piece-preserved : goal.loop-piece-preserved
loop-piece-preserved c = grind (arith, common_steps)

pub returns : goal.returns
returns c = grind (arith, common_steps)
