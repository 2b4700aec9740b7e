use Rattle.std.proofs.Common.{◌∙◌, ◌&&◌}
use Rattle.byte_text.proofs.LookLemmas.{both_ends}
use Rattle.byte_text.specs.Words.{ends_word}
use Rattle.byte_text.proofs.words.is_within_word.Goals as goal

pub returns : goal.returns
returns c =
    (λ i. c.begins_within_word.ensures i && c.begins_within_word-2.ensures i)
    ∙ both_ends ends_word c.args.text.now 16 c.requires.long c.requires.short
