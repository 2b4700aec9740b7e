use Rattle.std.proofs.Common.{rules, ◌≤◌, ◌∙◌, length}
use Rattle.chat_change.specs.ShortText.{AreBytes}
use Rattle.chat_change.proofs.ShortTextLemmas.{from_word, first_are}
use Rattle.chat_change.proofs.short_text.number_of.Goals as goal

pub returns : goal.returns
returns c =
    let long : 16 ≤ length c.args.bytes = search rules in
    let small : AreBytes c.args.bytes = search rules in
    (c.from_be_bytes.ensures ∙ from_word c.args.bytes long, first_are 16 c.args.bytes small)
