use Rattle.std.proofs.Common.{refl, subst, Some, None}
use Rattle.chat_buffers.specs.Messages.{Messages}
use Rattle.chat_buffers.specs.Kept.{IsFirstKept}
use Rattle.chat_buffers.proofs.KeptRecordLemmas.{first_is, none_first}
use Rattle.chat_buffers.proofs.messages.Messages.first.Goals as goal

pub returns-in-Some : goal.returns-in-Some
returns-in-Some c =
    subst (λ (ms : Messages). IsFirstKept ms (Some c.in-Some.post.now)) c.self.view_is
    (first_is c.self.inside.by_spot c.self.inside.by_id c.self.invariant (c.in-Some.field-0-0.now, c.in-Some.post.now) c.in-Some.ensures.greatest)

pub returns-in-None : goal.returns-in-None
returns-in-None c =
    subst (λ (ms : Messages). IsFirstKept ms None) c.self.view_is
    (none_first c.self.inside.by_spot c.self.inside.by_id c.self.invariant (c.in-None.ensures.none refl))
