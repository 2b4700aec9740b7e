use Rattle.std.proofs.Common.{◌≡◌, false, Option, ap, subst, sym, ◌∙◌}
use Rattle.std.proofs.Math.Logic.{∥∥₁_map}
use Rattle.irc_line.specs.Stream.{Item}
use Rattle.network_log.specs.Guest.{Guest, next_item}
use Rattle.network_log.specs.Truth.{IsSought}
use Rattle.network_client.proofs.StepLemmas.{left_looked, next_there}
use Rattle.network_client.proofs.client.Client.is_shown.Goals as goal

pub invariant_of-self-in-Ok-shown_ahead : goal.invariant_of-self-in-Ok-shown_ahead
invariant_of-self-in-Ok-shown_ahead g c = left_looked _ c.self.inside.heard c.self.inside.input c.look.new.self c.in-Ok.ensures.left c.self.invariant

pub invariant_of-self-in-Err : goal.invariant_of-self-in-Err
invariant_of-self-in-Err g c = left_looked _ c.self.inside.heard c.self.inside.input c.look.new.self c.in-Ok.ensures.left c.self.invariant

pub returns-in-Ok-shown_ahead-clause-shown : goal.returns-in-Ok-shown_ahead-clause-shown
returns-in-Ok-shown_ahead-clause-shown g c =
    let held = g.N.View.NetworkView.held c.shown_ahead.new.view in
    let shown = c.in-Ok-shown_ahead.shown in
    let there : c.self.inside.is_gone ≡ false = ap (λ (x : Guest). x.is_gone) c.self.view_is ∙ c.requires in
    let next = next_there _ c.self.inside.heard c.self.inside.input c.look.new.self c.in-Ok.ensures.left c.in-Ok.ensures.looked (c.self.invariant.1 there) in
    ∥∥₁_map c.in-Ok-shown_ahead.ensures.shown (λ s.
    subst (λ (x : Guest). IsSought held shown x.session (next_item x.received x.heard)) c.self.view_is
    (subst (λ (o : Option Item). IsSought held shown c.self.inside.session o) (sym next) s))
