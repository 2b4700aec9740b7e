use Rattle.std.proofs.Common.{◌≡◌, false, Option, ap, sym, ◌∙◌}
use Rattle.irc_line.specs.Stream.{Item}
use Rattle.network_log.specs.Guest.{Guest, next_item}
use Rattle.network_client.specs.Naming.{is_for_item}
use Rattle.network_client.proofs.StepLemmas.{left_looked, next_there}
use Rattle.network_client.proofs.client.Client.is_for.Goals as goal

pub invariant_of-self-2 : goal.invariant_of-self-2
invariant_of-self-2 g c = left_looked _ c.self.inside.heard c.self.inside.input c.look.new.self c.in-Ok.ensures.left c.self.invariant

pub returns-clause-named : goal.returns-clause-named
returns-clause-named g c =
    let there : c.self.inside.is_gone ≡ false = ap (λ (x : Guest). x.is_gone) c.self.view_is ∙ c.requires in
    let next = next_there _ c.self.inside.heard c.self.inside.input c.look.new.self c.in-Ok.ensures.left c.in-Ok.ensures.looked (c.self.invariant.1 there) in
    c.is_for_ahead.ensures ∙ ap (λ (o : Option Item). is_for_item c.args.config.now c.self.inside.session o) (sym next)
    ∙ ap (λ (x : Guest). is_for_item c.args.config.now x.session (next_item x.received x.heard)) c.self.view_is
