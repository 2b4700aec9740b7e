use Rattle.std.proofs.Common.{◌≡◌, length}
use Rattle.network_log.specs.Guest.{fallen}
use Rattle.network_client.specs.Steps.{all_said}
use Rattle.network_client.proofs.client.Client.say_all.Given as goal

abbrev pub invariant-loop-self : goal.invariant-loop-self
invariant-loop-self g l = record {
  said : all_said l.self ≡ all_said l.fn.self;
  falls : fallen l.self ≡ fallen l.fn.self;
}

abbrev pub decreases-loop-self : goal.decreases-loop-self
decreases-loop-self g l = length l.self.todo
