-- ---- what a reader has to believe: what came over which connection and was heard, who is let in, what is of an account and its network,
-- what was done of what clients' sessions had to do, what came over connections to servers and what they are told, what is put, what
-- clients are told, what the node held of an account, that nothing is there twice, and who is at the other end of a connection with another
-- node
pub mod Heard
pub mod LetIn
pub mod Own
pub mod Acts
pub mod Streams
pub mod Puts
pub mod Told
pub mod Past
pub mod Once
pub mod Stranger
