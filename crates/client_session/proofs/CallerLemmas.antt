-- What the crates above may name of these proofs.
pub use Rattle.client_session.proofs.SightLemmas.{step_unseen}
pub use Rattle.client_session.proofs.LinesLemmas.{IsSoundFacts, IsTimedMark, EffectStands, EffectsStand, IsSoundStage, StepStands, NickStands, step_stands, too_long_stands}
pub use Rattle.client_session.proofs.DirectoryLemmas.{LetsInAlike, LetsInIf, step_registered, too_long_registered, step_waiting}
