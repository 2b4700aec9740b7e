use Rattle.std.proofs.Common.{◌≡◌, true, Option, None, Some, is_none, refl, sym, subst}
use Rattle.std.proofs.lemmas.Bool.{and_parts}
use Rattle.chat_change.specs.declared.faults.ChangeFault.{ChangeFault}
use Rattle.chat_change.specs.Faults.{is_message, record_fault}
use Rattle.chat_change.specs.Message.{Message, value_of}
use Rattle.upstream_session.specs.Messages.{conversation, has_buffer}
use Rattle.upstream_session.proofs.connection.ServerSession.post.Goals as goal

-- a message that can be kept is of a conversation that has a buffer
pub buffer_for-requires : goal.buffer_for-requires
buffer_for-requires c =
    let m : Message = value_of c.args.tagged.now.message in
    subst (λ talk. has_buffer c.args.self.now.home talk ≡ true) (sym c.conversation-talk.ensures)
    (and_parts (has_buffer c.args.self.now.home (conversation c.args.self.now m.source m.target)) (is_message m) c.requires).0

no_fault : (fault : Option ChangeFault) → is_none fault ≡ true → fault ≡ None
no_fault None h = refl
no_fault (Some fault) h = absurd (cc)

-- and has no fault
pub lawful_record-requires-clause-message : goal.lawful_record-requires-clause-message
lawful_record-requires-clause-message c =
    let m : Message = value_of c.args.tagged.now.message in
    no_fault (record_fault m)
    (and_parts (has_buffer c.args.self.now.home (conversation c.args.self.now m.source m.target)) (is_message m) c.requires).1
