use Rattle.std.proofs.Common.{rules, ◌∙◌, ap, length, drop, ◌++◌, replicate}
use Rattle.std.specs.Prelude.{get_or}
use Rattle.chat_change.proofs.ShortTextLemmas.{copied}
use Rattle.chat_change.proofs.short_text.ShortText.new.Goals as goal

pub invariant_of-result : goal.invariant_of-result
invariant_of-result g c = (c.requires.room, search rules, λ i l. ap (λ t. get_or (t ++ drop (length c.args.text.now) (replicate g.row.N 0)) i 0) c.copy_from_slice.ensures.after ∙ copied c.args.text.now g.row.N (length c.args.text.now) i l)
