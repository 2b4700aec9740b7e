use Rattle.std.proofs.Common.{rules}
use Rattle.std.proofs.Math.Logic.{∥∥₁_map}
use Rattle.network_client.proofs.NewcomerLemmas.{begins}
use Rattle.network_client.proofs.newcomer.Newcomer.new.Goals as goal

pub invariant_of-result : goal.invariant_of-result
invariant_of-result g c = ∥∥₁_map c.args.fresh.it_came (λ came. begins c.requires.origin came (search rules))
