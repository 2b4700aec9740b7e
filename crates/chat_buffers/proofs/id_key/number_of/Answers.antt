use Rattle.std.proofs.Common.{rules, ◌≤◌, ◌∙◌, length}
use Rattle.chat_change.specs.ShortText.{AreBytes}
use Rattle.chat_buffers.proofs.KeyLemmas.{of_word}
use Rattle.chat_buffers.proofs.id_key.number_of.Goals as goal

pub returns : goal.returns
returns c =
    let long : 8 ≤ length c.args.bytes = search rules in
    let small : AreBytes c.args.bytes = search rules in
    c.from_be_bytes.ensures ∙ of_word c.args.bytes long small
