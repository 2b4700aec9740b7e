-- What the crates above may name of these proofs.
pub use Rattle.irc_time.proofs.MomentLemmas.{moment_text, IsTimeShape, time_shape}
-- a text is read as no moment beyond the greatest
pub use Rattle.irc_time.proofs.GreatestLemmas.{time_within}
