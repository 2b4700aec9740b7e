use Rattle.std.proofs.Common.{take}
use Rattle.std.specs.Option.{option_copied}
use Rattle.hosted_network.specs.Entering.{OnlyEntered}
use Rattle.hosted_network.proofs.batch_parts.entered_channel.Given as goal

abbrev pub invariant-loop-part : goal.invariant-loop-part
invariant-loop-part l = OnlyEntered (option_copied l.found) (take l.part-index l.parts)
