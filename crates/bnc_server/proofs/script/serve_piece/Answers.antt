use Rattle.std.proofs.Common.{refl, inl, inr}
use Rattle.bnc_server.proofs.ProgressLemmas.{err_is, goes-flushed}
use Rattle.bnc_server.proofs.script.serve_piece.Goals as goal

pub returns-in_err-feed_piece-clause-serves : goal.returns-in_err-feed_piece-clause-serves
returns-in_err-feed_piece-clause-serves g c world is = err_is _ _ _ c.from_residual.result c.from_residual.ensures.1 (inl (c.in_err-feed_piece.ensures.serves world is))

pub returns-in-Ok-clause-serves : goal.returns-in-Ok-clause-serves
returns-in-Ok-clause-serves g c world is = goes-flushed _ _ _ world _ _ _ (c.in_ok-feed_piece.ensures.serves world is) c.in-Ok.ensures.bytes

pub returns-in-Err-clause-serves : goal.returns-in-Err-clause-serves
returns-in-Err-clause-serves g c world is = inr (record {
  fault_is = refl;
  drained = c.in_ok-feed_piece.ensures.drained;
  goes = goes-flushed _ _ _ world _ _ _ (c.in_ok-feed_piece.ensures.serves world is) c.in-Err.ensures.bytes;
})
