use Rattle.bnc_server.proofs.ScheduleLinesLemmas.{script_is_schedule}
use Rattle.bnc_server.proofs.laws.scripts_are_schedules.Goals as goal

pub returns : goal.returns
returns c = script_is_schedule
