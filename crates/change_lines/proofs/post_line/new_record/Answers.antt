use Rattle.std.proofs.Common.{◌≡◌, true, ◌&&◌, Option, Some, None, refl}
use Rattle.std.specs.Prelude.{is_none}
use Rattle.std.proofs.lemmas.Bool.{false≢true}
use Rattle.chat_change.specs.Words.{is_id}
use Rattle.chat_change.specs.Faults.{is_message, record_fault}
use Rattle.chat_change.specs.Message as message
use Rattle.chat_change.specs.declared.faults.ChangeFault.{ChangeFault}
use Rattle.change_lines.specs.PostLine.{may_be_tags}
use Rattle.change_lines.proofs.TestLemmas.{left, right, tags_that_pass}
use Rattle.change_lines.proofs.post_line.new_record.Goals as goal

no_fault : (o : Option ChangeFault) → is_none o ≡ true → o ≡ None
no_fault None h = refl
no_fault (Some fault) h = absurd (false≢true h)

pub lawful_record-requires-clause-message : goal.lawful_record-requires-clause-message
lawful_record-requires-clause-message c =
    let p = c.args.post.now in
    let m = message.value_of p.message in
    no_fault (record_fault m) (right (is_id p.id.now && may_be_tags p.tags.now) (is_message m) c.requires)

pub lawful_record-requires-clause-tags : goal.lawful_record-requires-clause-tags
lawful_record-requires-clause-tags c =
    let p = c.args.post.now in
    let first = left (is_id p.id.now && may_be_tags p.tags.now) (is_message (message.value_of p.message)) c.requires in
    tags_that_pass p.tags.now (right (is_id p.id.now) (may_be_tags p.tags.now) first)
