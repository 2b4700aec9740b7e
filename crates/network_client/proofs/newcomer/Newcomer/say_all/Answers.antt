use Rattle.std.proofs.Common.{◌≡◌, false, ap, ◌∙◌}
use Rattle.std.proofs.Math.Logic.{∥∥₁_map}
use Rattle.network_log.specs.Guest.{Guest}
use Rattle.network_client.proofs.NewcomerLemmas.{says_or_falls}
use Rattle.network_client.proofs.newcomer.Newcomer.say_all.Goals as goal

pub invariant_of-self : goal.invariant_of-self
invariant_of-self g c =
    let there : c.self.inside.client.is_gone ≡ false = ap (λ (x : Guest). x.is_gone) c.self.view_is ∙ c.requires in
    ∥∥₁_map c.self.invariant (says_or_falls c.say_all.result there c.say_all.ensures.said c.say_all.ensures.fell)
