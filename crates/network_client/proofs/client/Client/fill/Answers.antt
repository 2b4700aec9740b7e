use Rattle.std.proofs.Common.{rules, ◌∙◌}
use Rattle.std.proofs.Math.Logic.{∥∥₁_map}
use Rattle.network_client.proofs.StepLemmas.{filled_so, lost_so}
use Rattle.network_client.proofs.client.Client.fill.Goals as goal

pub invariant_of-self : goal.invariant_of-self
invariant_of-self g c = (
  c.fill-filled.ensures.origin ∙ c.self.invariant.0,
  λ there. ∥∥₁_map (c.self.invariant.1 there) (c.fill-filled.ensures.left c.self.inside.heard c.in_default.not-NoMemory),
)

pub returns-in_default : goal.returns-in_default
returns-in_default g c =
    ∥∥₁_map c.fill-filled.ensures.received (λ r. filled_so c.self.view_is c.self.invariant.0 c.if-self.false (search rules) r)

pub returns : goal.returns
returns g c =
    ∥∥₁_map c.fill-filled.ensures.received (λ r. lost_so c.self.view_is c.self.invariant.0 c.if-self.false (search rules) r)
