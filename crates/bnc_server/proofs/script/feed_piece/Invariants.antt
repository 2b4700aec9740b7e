use Rattle.std.proofs.Common.{◌≡◌, length}
use Rattle.bnc_server.specs.World.{World}
use Rattle.bnc_server.specs.HeldNode.{held_world}
use Rattle.bnc_server.specs.Progress.{items_with, IsDrained, Goes}
use Rattle.bnc_server.proofs.script.feed_piece.Given as goal

abbrev pub invariant-feeds : goal.invariant-feeds
invariant-feeds g l = record {
  drained : IsDrained l.feeder;
  goes : (world : World) → l.fn.world ≡ held_world world
      → Goes (g.W.Write.contents l.fn.writer) (g.W.Write.contents l.writer) world (items_with l.fn.feeder l.fn.piece) l.world l.feeder l.rest;
}

abbrev pub decreases-feeds : goal.decreases-feeds
decreases-feeds g l = length l.rest
