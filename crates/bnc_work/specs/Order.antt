-- The orders of timers, and of timers at moments.
use Rattle.std.specs.declared.cmp.Ordering.{Ordering}
use Rattle.bnc_work.specs.declared.timer.Timer.{Timer}
use Rattle.bnc_work.specs.declared.due.Due.{Due}
use Rattle.bnc_work.specs.contracts.timer.TimerOrd.TheImpl as timer_ord
use Rattle.bnc_work.specs.contracts.due.DueOrd.TheImpl as due_ord

-- by kind, and then by number
abbrev pub timer_cmp : Timer → Timer → Ordering
timer_cmp = (timer_ord.ghosts).cmp

-- by moment, and then by timer
abbrev pub due_cmp : Due → Due → Ordering
due_cmp = (due_ord.ghosts).cmp
