use Rattle.std.proofs.Common.{◌≡◌}
use Rattle.bnc_server.specs.Ending.{IsReadBy}
use Rattle.bnc_server.specs.World.{World}
use Rattle.bnc_server.specs.HeldNode.{held_world}
use Rattle.bnc_server.specs.Progress.{IsDrained}
use Rattle.bnc_server.proofs.ProgressLemmas.{HasRead}
use Rattle.bnc_server.proofs.script.replay_from.Given as goal

abbrev pub invariant-reads : goal.invariant-reads
invariant-reads g l = record {
  drained : IsDrained l.feeder;
  has_read : (world : World) → l.fn.world ≡ held_world world
      → HasRead (g.In.Read.remaining l.fn.reader) (g.In.Read.remaining l.reader)
      (g.Out.Write.contents l.fn.writer) (g.Out.Write.contents l.writer) world l.world l.feeder;
  reads : IsReadBy l.counter (g.In.Read.remaining l.fn.reader) (g.In.Read.remaining l.reader);
}
