use Rattle.std.proofs.Common.{◌≡◌, ◌++◌, drop}
use Rattle.upstream_session.specs.Rows.{joins}
use Rattle.upstream_session.proofs.rows.joins.Given as goal

abbrev pub invariant-loop-channel : goal.invariant-loop-channel
invariant-loop-channel l = l.list.items ++ joins (drop l.channel-index l.channels) ≡ joins l.channels
