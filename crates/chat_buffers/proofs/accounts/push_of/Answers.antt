use Rattle.std.proofs.Common.{◌∙◌, ◌∷◌, ◌++◌, [], sym, refl, ap, subst, Option, Bor, true, false}
use Rattle.chat_change.specs.Buffer.{Buffer}
use Rattle.chat_buffers.specs.Entering.{IsAddedOf}
use Rattle.chat_buffers.specs.declared.held.Held.{Held}
use Rattle.chat_buffers.proofs.AddedLemmas.{buffer_in, added_one, added_other}
use Rattle.chat_buffers.proofs.accounts.push_of.Goals as goal

pub returns-in_ok-push-in-Some : goal.returns-in_ok-push-in-Some
returns-in_ok-push-in-Some c =
    let a = c.args.account.now in
    let old = c.args.buffers.now.items in
    subst (λ (e : Option (Bor Buffer × Bor Held)). IsAddedOf a (buffer_in e) old c.push.new.self.items true) (sym c.in-Some.is)
    (added_one a c.in-Some.buffer.now old c.push.new.self.items (sym c.owner.ensures ∙ c.if-is_same.ensures.0 refl)
    (c.in_ok-push-in-Some.ensures.items ∙ ap (λ (b : Buffer). old ++ b ∷ []) c.in_ok-try_clone-in-Some.ensures))

pub returns-in_default : goal.returns-in_default
returns-in_default c =
    let a = c.args.account.now in
    let old = c.args.buffers.now.items in
    subst (λ (e : Option (Bor Buffer × Bor Held)). IsAddedOf a (buffer_in e) old old false) (sym c.in-Some.is)
    (added_other a c.in-Some.buffer.now old (λ is. c.if-is_same.ensures.1 (c.owner.ensures ∙ is)))
