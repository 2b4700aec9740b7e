use Rattle.chat_change.specs.declared.change.Change.TheVariants.{Floor}
use Rattle.change_lines.proofs.reading.read_floor.Goals as goal

pub returns-in-Ok : goal.returns-in-Ok
returns-in-Ok c = c.in-Ok.ensures Floor

pub returns-in-Err : goal.returns-in-Err
returns-in-Err c = c.in-Err.ensures Floor
