-- What a reader must believe: secrets and how far a guess is from one, entries, accounts and networks, and who is let in;
-- names of nodes and words, lives and versions, and what a node brings to each connection with a peer.
pub mod Secret
pub mod Entry
pub mod Directory
pub mod Names
pub mod Life
pub mod Version
pub mod Terms
