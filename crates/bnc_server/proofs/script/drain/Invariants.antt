use Rattle.std.proofs.Common.{◌≡◌, length, []}
use Rattle.irc_line.specs.Stream.{items_from}
use Rattle.bnc_server.specs.World.{World}
use Rattle.bnc_server.specs.HeldNode.{held_world}
use Rattle.bnc_server.specs.Progress.{items_with, Goes}
use Rattle.bnc_server.proofs.script.drain.Given as goal

abbrev pub invariant-lines : goal.invariant-lines
invariant-lines g l =
    (world : World) → l.fn.world ≡ held_world world
    → Goes (g.W.Write.contents l.fn.writer) (g.W.Write.contents l.writer) world (items_with l.fn.feeder []) l.world l.feeder []

abbrev pub decreases-lines : goal.decreases-lines
decreases-lines g l = length (items_from l.feeder [])
