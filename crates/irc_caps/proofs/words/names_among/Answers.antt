use Rattle.std.proofs.Common.{◌∙◌}
use Rattle.irc_caps.specs.Capability.{name_of}
use Rattle.irc_caps.specs.CapSet.{holds}
use Rattle.irc_caps.proofs.Lists.{texts_more}
use Rattle.irc_caps.proofs.words.names_among.Goals as goal

pub loop-i-preserved : goal.loop-i-preserved
loop-i-preserved c =
    c.in_ok-push_name.ensures
    ∙ rw c.loop-i.invariant (texts_more name_of (λ p. holds c.args.caps p) c.args.list.now c.loop-i.i _ c.loop-i-test.true)
