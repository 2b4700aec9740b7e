use Rattle.std.proofs.Common.{◌≡◌, true, false, Option, refl, ap, subst, sym, ◌∙◌, rules}
use Rattle.std.specs.Prelude.{is_some}
use Rattle.std.proofs.Math.Logic.{∥∥₁_map}
use Rattle.irc_line.specs.Stream.{Item}
use Rattle.network_log.specs.Guest.{Guest, next_item}
use Rattle.node_ports.proofs.CallerLemmas.{next_ahead}
use Rattle.network_client.proofs.StepLemmas.{kept, left_looked, left_heard, next_there, step_is, heard_so, none_so}
use Rattle.network_client.proofs.client.Client.step.Goals as goal

pub invariant_of-self-in-Ok-None : goal.invariant_of-self-in-Ok-None
invariant_of-self-in-Ok-None g c =
    let looked = left_looked _ c.self.inside.heard c.self.inside.input c.look.new.self c.in-Ok.ensures.left c.self.invariant in
    (c.self.invariant.0, kept _ c.look.new.self refl (c.in-Ok-None.ensures.same c.in-Ok-None.field-0-is) looked.1)

pub invariant_of-self-in-Ok-Some : goal.invariant_of-self-in-Ok-Some
invariant_of-self-in-Ok-Some g c =
    let next = rw c.in-Ok-Some.field-0-is at c.in-Ok-Some.ensures.next in
    let looked = left_looked _ c.self.inside.heard c.self.inside.input c.look.new.self c.in-Ok.ensures.left c.self.invariant in (
      c.self.invariant.0,
      λ there. ∥∥₁_map (looked.1 there)
          (left_heard c.args.directory.now c.args.shown c.self.inside.session _ c.self.inside.heard c.look.new.self (search rules) (c.in-Ok-Some.ensures.input (search rules)) next),
    )

pub returns-in-Ok-None-clause-heard : goal.returns-in-Ok-None-clause-heard
returns-in-Ok-None-clause-heard g c =
    let none = rw c.in-Ok-None.field-0-is at c.in-Ok-None.ensures.next in
    let same = c.self.view_is ∙ c.recycle.ensures in
    let there : c.self.inside.is_gone ≡ false = ap (λ (x : Guest). x.is_gone) same ∙ c.requires.there in
    let next = next_there _ c.self.inside.heard c.self.inside.input c.look.new.self c.in-Ok.ensures.left c.in-Ok.ensures.looked (c.self.invariant.1 there) in
    none_so c.args.directory.now c.args.shown c.next_effects.new.session same none.1 (next ∙ sym (next_ahead c.look.new.self c.in-Ok.ensures.looked) ∙ none.0)

pub returns-in-Ok-None-clause-next : goal.returns-in-Ok-None-clause-next
returns-in-Ok-None-clause-next g c =
    let none = rw c.in-Ok-None.field-0-is at c.in-Ok-None.ensures.next in
    let same = c.self.view_is ∙ c.recycle.ensures in
    let there : c.self.inside.is_gone ≡ false = ap (λ (x : Guest). x.is_gone) same ∙ c.requires.there in
    let next = next_there _ c.self.inside.heard c.self.inside.input c.look.new.self c.in-Ok.ensures.left c.in-Ok.ensures.looked (c.self.invariant.1 there) in
    sym (subst (λ (x : Guest). is_some (next_item x.received x.heard) ≡ false) same
    (ap (λ (o : Option Item). is_some o) (next ∙ sym (next_ahead c.look.new.self c.in-Ok.ensures.looked) ∙ none.0)))

pub returns-in_ok-know_nick-in-Ok-Some-clause-heard : goal.returns-in_ok-know_nick-in-Ok-Some-clause-heard
returns-in_ok-know_nick-in-Ok-Some-clause-heard g c =
    let some = rw c.in-Ok-Some.field-0-is at c.in-Ok-Some.ensures.next in
    let same = c.self.view_is ∙ c.recycle.ensures in
    let there : c.self.inside.is_gone ≡ false = ap (λ (x : Guest). x.is_gone) same ∙ c.requires.there in
    let next = next_there _ c.self.inside.heard c.self.inside.input c.look.new.self c.in-Ok.ensures.left c.in-Ok.ensures.looked (c.self.invariant.1 there) in
    heard_so {was_outside = c.is_none-was_outside.result} c.args.directory.now c.args.shown same (search rules) (search rules) c.in_ok-know_nick-in-Ok-Some.ensures.known some
    (next ∙ sym (next_ahead c.look.new.self c.in-Ok.ensures.looked))

pub returns-in_ok-know_nick-in-Ok-Some-clause-next : goal.returns-in_ok-know_nick-in-Ok-Some-clause-next
returns-in_ok-know_nick-in-Ok-Some-clause-next g c =
    let some = rw c.in-Ok-Some.field-0-is at c.in-Ok-Some.ensures.next in
    let same = c.self.view_is ∙ c.recycle.ensures in
    let there : c.self.inside.is_gone ≡ false = ap (λ (x : Guest). x.is_gone) same ∙ c.requires.there in
    let next = next_there _ c.self.inside.heard c.self.inside.input c.look.new.self c.in-Ok.ensures.left c.in-Ok.ensures.looked (c.self.invariant.1 there) in
    let found = step_is c.args.directory.now c.args.shown c.self.inside.session _ some in
    sym (subst (λ (x : Guest). is_some (next_item x.received x.heard) ≡ true) same
    (ap (λ (o : Option Item). is_some o) (next ∙ sym (next_ahead c.look.new.self c.in-Ok.ensures.looked) ∙ found.1)))
