-- ---- what a reader has to believe: the places of networks
pub mod Places
-- ---- what only the proofs use of the code: what of a stream isn't heard yet
pub mod Unread
