use Rattle.std.proofs.Common.{◌≡◌, subst}
use Rattle.std.specs.Prelude.{◌⊎◌}
use Rattle.network_log.specs.Guest.{Guest, fallen}
use Rattle.network_client.specs.Steps.{IsQuiet}
use Rattle.network_client.proofs.NewcomerLemmas.{stays_or_falls}
use Rattle.network_client.proofs.newcomer.Newcomer.has_line.Goals as goal

pub invariant_of-self : goal.invariant_of-self
invariant_of-self g c = stays_or_falls c.has_line.result c.has_line.ensures.none c.has_line.ensures.same c.self.invariant

pub returns-clause-none : goal.returns-clause-none
returns-clause-none g c = λ is.
    let next = c.has_line.new.self in
    subst (λ (x : Guest). ∥ ((next ≡ x) × IsQuiet x) ⊎ (next ≡ fallen x) ∥₁) c.self.view_is (c.has_line.ensures.none is)
