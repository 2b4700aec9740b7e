use Rattle.std.proofs.Common.{rules, ◌≡◌, ◌∙◌, ap, take}
use Rattle.chat_buffers.specs.IdKey.{leading}
use Rattle.chat_buffers.proofs.KeyLemmas.{whole}
use Rattle.chat_buffers.proofs.id_key.leading.Goals as goal

pub returns-in-Some : goal.returns-in-Some
returns-in-Some c =
    let first : c.in-Some.first.now ≡ take 8 c.args.id.now = search rules in
    c.number_of.ensures ∙ ap (leading 8) first ∙ whole 8 c.args.id.now
