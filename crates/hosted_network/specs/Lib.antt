-- ---- what a reader has to believe: what contracts see of a network, and what a turn of its server comes to
pub mod Parts
pub mod Turns
-- ---- what only the proofs use of the code: what comes of a put, what a part of a batch comes to where the marker of a channel was
-- read, texts that several clients are told, how one is told, and markers that rose
pub mod Putting
pub mod Entering
pub mod Sharing
pub mod Written
pub mod Shares
pub mod Telling
pub mod Informing
pub mod Speaking
pub mod Standing
pub mod Marking
