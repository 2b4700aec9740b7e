use Rattle.std.proofs.Common.{◌≡◌, Option, None, inl, ap, subst, sym, ◌∙◌}
use Rattle.std.specs.Prelude.{is_some, IsSome}
use Rattle.irc_line.specs.Stream.{Item}
use Rattle.network_log.specs.Guest.{Guest, next_item}
use Rattle.network_client.specs.Steps.{NoLine}
use Rattle.network_client.proofs.StepLemmas.{left_looked, next_there, some_is, none_is}
use Rattle.network_client.proofs.client.Client.has_line.Goals as goal

pub invariant_of-self : goal.invariant_of-self
invariant_of-self g c = left_looked _ c.self.inside.heard c.self.inside.input c.look.new.self c.in-Ok.ensures.left c.self.invariant

pub returns-in-Ok-clause-next : goal.returns-in-Ok-clause-next
returns-in-Ok-clause-next g c = λ is.
    let next = next_there _ c.self.inside.heard c.self.inside.input c.look.new.self c.in-Ok.ensures.left c.in-Ok.ensures.looked (c.self.invariant.1 c.if-self.false) in
    subst (λ (x : Guest). IsSome (next_item x.received x.heard)) c.self.view_is (some_is _ (ap (λ (o : Option Item). is_some o) next ∙ sym c.in-Ok.ensures.there ∙ is))

pub returns-in-Ok-clause-none : goal.returns-in-Ok-clause-none
returns-in-Ok-clause-none g c = λ is.
    let next = next_there _ c.self.inside.heard c.self.inside.input c.look.new.self c.in-Ok.ensures.left c.in-Ok.ensures.looked (c.self.invariant.1 c.if-self.false) in
    let none = none_is _ (ap (λ (o : Option Item). is_some o) next ∙ sym c.in-Ok.ensures.there ∙ is) in
    ∣ inl (c.self.view_is, NoLine (subst (λ (x : Guest). next_item x.received x.heard ≡ None) c.self.view_is none)) ∣₁
