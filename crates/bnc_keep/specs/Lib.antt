-- What a reader must believe: what the program's words ask for, how it ends and with which status; when a packet is acknowledged;
-- and when a peer is dialed again, when the file is written anew, and what is told of one that is damaged.
pub mod Words
pub mod Status
pub mod Program
pub mod Kept
pub mod Dialing
pub mod Upkeep
pub mod Damage
