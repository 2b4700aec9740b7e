use Rattle.std.proofs.Common.{◌∙◌, ap, length, drop, ◌++◌, replicate}
use Rattle.chat_buffers.specs.IdKey.{leading}
use Rattle.chat_buffers.proofs.KeyLemmas.{padded}
use Rattle.chat_buffers.proofs.id_key.padded.Goals as goal

pub returns : goal.returns
returns c = c.number_of.ensures ∙ ap (λ t. leading 8 (t ++ drop (length c.args.bytes.now) (replicate 8 0))) c.copy_from_slice.ensures.after ∙ padded 8 (length c.args.bytes.now) 8 c.args.bytes.now
