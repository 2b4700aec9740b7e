use Rattle.std.proofs.Common.{◌≤◌}
use Rattle.bnc_work.proofs.worker.Worker.new.Given as goal

abbrev pub invariant-loop-place : goal.invariant-loop-place
invariant-loop-place g l = g.N.NodePass.given l.worker.pass ≤ l.place
