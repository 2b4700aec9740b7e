use Rattle.std.proofs.Common.{length, sym, ◌∙◌}
use Rattle.irc_line.proofs.LineLemmas.{splits_same, splits_at, splits_nowhere}
use Rattle.irc_line.proofs.line.split_word.Goals as goal

pub returns-in-Some : goal.returns-in-Some
returns-in-Some c =
    let bytes = c.args.bytes.now in
    splits_same bytes c.in-Some.at _ _ c.split_at.ensures.front c.split_at.ensures.back (splits_at bytes c.in-Some.at (sym c.find_byte.ensures.place ∙ c.in-Some.is))

pub returns-in-None : goal.returns-in-None
returns-in-None c =
    let bytes = c.args.bytes.now in
    let split = c.split_at-in-None in
    splits_same bytes (length bytes) _ _ split.ensures.front split.ensures.back (splits_nowhere bytes (sym c.find_byte.ensures.place ∙ c.in-None.is))
