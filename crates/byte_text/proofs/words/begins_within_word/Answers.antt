use Rattle.std.proofs.Common.{◌∙◌, ◌&&◌, take}
use Rattle.byte_text.proofs.WordLemmas.{no_word_end}
use Rattle.byte_text.proofs.words.begins_within_word.Goals as goal

pub returns : goal.returns
returns c =
    (λ i. ((c.begins_without.ensures i && c.begins_without-2.ensures i) && c.begins_without-3.ensures i) && c.begins_without-4.ensures i)
    ∙ no_word_end (take 16 c.args.text.now)
