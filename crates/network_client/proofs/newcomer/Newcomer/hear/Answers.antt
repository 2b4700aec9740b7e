use Rattle.std.proofs.Common.{◌≡◌, false, [], None, ap, ◌∙◌, rules}
use Rattle.std.proofs.Math.Logic.{∥∥₁_map₂}
use Rattle.client_session.specs.Session.{facts_in}
use Rattle.network_log.specs.Guest.{Guest}
use Rattle.network_client.proofs.NewcomerLemmas.{hears}
use Rattle.network_client.proofs.newcomer.Newcomer.hear.Goals as goal

pub invariant_of-result : goal.invariant_of-result
invariant_of-result g c =
    let there : c.self.inside.client.is_gone ≡ false = ap (λ (x : Guest). x.is_gone) c.self.view_is ∙ c.requires.there in
    let done : c.self.inside.client.todo ≡ [] = ap (λ (x : Guest). x.todo) c.self.view_is ∙ c.requires.done in
    let outside : facts_in c.step.new.self.session ≡ None = search rules in
    ∥∥₁_map₂ c.requires.directory c.self.invariant (λ is k. hears false is there done outside c.in-Ok.ensures.heard k)
