use Rattle.std.proofs.Common.{◌∙◌}
use Rattle.irc_caps.specs.Words.{is_word}
use Rattle.irc_caps.proofs.Lists.{filtered_more}
use Rattle.irc_caps.proofs.words.without_empty.Goals as goal

pub loop-i-preserved : goal.loop-i-preserved
loop-i-preserved c =
    c.in_ok-push_word.ensures
    ∙ rw c.loop-i.invariant (filtered_more (λ w. w.now) is_word c.args.parts.now c.loop-i.i _ c.loop-i-test.true)
