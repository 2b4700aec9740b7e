use Rattle.std.proofs.Common.{◌≡◌, false, [], None, ap, subst, sym, ◌∙◌, rules}
use Rattle.std.proofs.Math.Logic.{∥∥₁_map, ∥∥₁_map₂, ∥∥₁_elim}
use Rattle.std.proofs.Props.{props}
use Rattle.client_session.specs.Session.{facts_in}
use Rattle.network_log.specs.Guest.{Guest}
use Rattle.network_client.specs.Steps.{IsAlikeAt, IsByAccounts}
use Rattle.network_client.proofs.EnterLemmas.{stays, arrives, heard_free, at_is}
use Rattle.network_client.proofs.newcomer.Newcomer.enter.Goals as goal

pub invariant_of-result : goal.invariant_of-result
invariant_of-result g c =
    let there : c.self.inside.client.is_gone ≡ false = ap (λ (x : Guest). x.is_gone) c.self.view_is ∙ c.requires.there in
    let done : c.self.inside.client.todo ≡ [] = ap (λ (x : Guest). x.todo) c.self.view_is ∙ c.requires.done in
    let outside : facts_in c.step.new.self.session ≡ None = search rules in
    let by = subst (λ (x : Guest). ∥ IsByAccounts g.C.Connection.facts c.args.directory.now x ∥₁) (sym c.self.view_is) c.requires.directory in
    ∥∥₁_map₂ by c.self.invariant (λ b k. stays false there done outside c.in-Ok.ensures.heard b k)

pub returns-then-is_at-clause-arrived : goal.returns-then-is_at-clause-arrived
returns-then-is_at-clause-arrived g c = λ entry at.
    let there : c.self.inside.client.is_gone ≡ false = ap (λ (x : Guest). x.is_gone) c.self.view_is ∙ c.requires.there in
    let done : c.self.inside.client.todo ≡ [] = ap (λ (x : Guest). x.todo) c.self.view_is ∙ c.requires.done in
    let both = at_is c.args.config.now c.in-Some.facts.now (sym c.is_at.ensures ∙ c.if-is_at.true) in
    let alike = subst (λ (x : Guest). IsAlikeAt g.C.Connection.facts c.args.config.now entry c.args.directory.now x) (sym c.self.view_is) at in
    ∥∥₁_map c.self.invariant (λ k. arrives c.args.directory.now false there done (sym c.in-Some.ensures) both.0 both.1 c.in-Ok.ensures.heard alike k)

pub returns-then-is_at-clause-free : goal.returns-then-is_at-clause-free
returns-then-is_at-clause-free g c = ∥∥₁_elim c.self.invariant (Prim.hlevel props) (λ k. heard_free c.args.directory.now false c.in-Ok.ensures.heard k)
