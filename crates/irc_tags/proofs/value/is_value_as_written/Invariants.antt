use Rattle.std.proofs.Common.{◌≡◌, length}
use Rattle.irc_tags.proofs.RewriteLemmas.{stands}
use Rattle.irc_tags.proofs.value.is_value_as_written.Given as goal

abbrev pub invariant-loop-rest : goal.invariant-loop-rest
invariant-loop-rest l = stands l.rest ≡ stands l.bytes

abbrev pub decreases-loop-rest : goal.decreases-loop-rest
decreases-loop-rest l = length l.rest
