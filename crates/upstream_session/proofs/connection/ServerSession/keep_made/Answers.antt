use Rattle.std.proofs.Common.{◌∷◌, [], ap, ◌∙◌, arith}
use Rattle.std.proofs.lemmas.Grind.{common_steps}
use Rattle.chat_change.specs.Message.{value_of}
use Rattle.upstream_session.specs.Messages.{kept_read, post}
use Rattle.upstream_session.proofs.KeptLemmas.{kept_tags_read}
use Rattle.upstream_session.proofs.connection.ServerSession.keep_made.Goals as goal

-- src/rows.rt: with what is kept of the tags that were read of the line
pub returns-in_ok-list-in-Some : goal.returns-in_ok-list-in-Some
returns-in_ok-list-in-Some c =
    let tagged = c.args.tagged.now in
    let kept = ap kept_read c.requires.tags ∙ kept_tags_read c.args.heard.now.line.now.tags in
    let posted = c.in_ok-list-in-Some.ensures ∙ ap (λ tags. post c.args.self.now c.in-Some.id tagged.at tags (value_of tagged.message) ∷ []) kept in
    grind (arith, common_steps, posted)
