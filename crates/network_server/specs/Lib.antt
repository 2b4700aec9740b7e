-- ---- what a reader has to believe: how a server stands, which event of a network's log it is that changes it, and when one is dialed
pub mod ServerState
pub mod ServerEvents
pub mod Waiting
-- ---- what only the proofs use of the code: what is unread, how a session stood, what is among effects, and a batch as its parts
pub mod Unread
pub mod Standing
pub mod Effects
pub mod Entries
