mod NameLemmas
mod ComesLemmas
mod PacketLemmas
mod SoundLemmas
mod EventLemmas
mod NoLossLemmas
mod StepLemmas
mod HandshakeLemmas
mod CourseLemmas
mod LineLemmas
pub mod CallerLemmas
