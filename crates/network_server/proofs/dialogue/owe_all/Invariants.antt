use Rattle.std.proofs.Common.{◌≡◌, ◌++◌, drop}
use Rattle.network_log.specs.Host.{sends_of}
use Rattle.network_server.proofs.dialogue.owe_all.Given as goal

abbrev pub invariant-loop-effect : goal.invariant-loop-effect
invariant-loop-effect l = l.output ++ sends_of (drop l.effect-index l.effects) ≡ l.fn.output ++ sends_of l.effects
