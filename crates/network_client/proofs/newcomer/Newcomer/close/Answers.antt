use Rattle.std.proofs.Common.{◌≡◌, false, ap, ◌∙◌}
use Rattle.std.proofs.Math.Logic.{∥∥₁_map}
use Rattle.network_log.specs.Guest.{Guest}
use Rattle.network_client.proofs.NewcomerLemmas.{closes}
use Rattle.network_client.proofs.newcomer.Newcomer.close.Goals as goal

pub invariant_of-self : goal.invariant_of-self
invariant_of-self g c =
    let there : c.self.inside.client.is_gone ≡ false = ap (λ (x : Guest). x.is_gone) c.self.view_is ∙ c.requires in
    ∥∥₁_map c.self.invariant (closes there c.close.ensures.closes)
