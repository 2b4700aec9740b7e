use Rattle.std.proofs.Common.{ap, ◌∙◌, arith}
use Rattle.std.specs.Option.{option_map}
use Rattle.std.proofs.lemmas.Grind.{common_steps}
use Rattle.irc_tags.specs.TagList.{tag_list}
use Rattle.chat_change.specs.Message.{value_of}
use Rattle.upstream_session.specs.Messages.{made_id}
use Rattle.upstream_session.specs.Sayings.{say_of_tags, sent_tags}
use Rattle.upstream_session.proofs.KeptLemmas.{say_read}
use Rattle.upstream_session.proofs.connection.ServerSession.say_kept.Goals as goal

pub returns-then-self : goal.returns-then-self
returns-then-self c = grind (arith, common_steps)

pub returns : goal.returns
returns c =
    let u = c.args.self.now in
    let heard = c.args.heard.now in
    let m = value_of c.args.message in
    let id = made_id u.home u.serial in
    let said =
    c.in_ok-said.ensures
    ∙ ap (λ tags. say_of_tags u heard.at heard.bytes.now tags m id) c.in_ok-read.ensures
    ∙ ap (λ tags. say_of_tags u heard.at heard.bytes.now (option_map tag_list tags) m id) c.sent_tags.ensures
    ∙ ap (λ tags. say_of_tags u heard.at heard.bytes.now (option_map tag_list (sent_tags u tags)) m id) c.tags.ensures
    ∙ say_read u heard.at heard.bytes.now (sent_tags u heard.line.now.tags) m id in
    grind (arith, common_steps, said)
