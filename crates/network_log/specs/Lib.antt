-- ---- what a reader has to believe: the accounts of a node, what is so of it, a client of a network and what may happen to it, the
-- network's server and what its lines come to, what clients are told of that, a network, its log, what a log may say, the course of a
-- connection with a peer, what may be told over a connection, and what may be put into the node
pub mod Accounts
pub mod Facts
pub mod Guest
pub mod Host
pub mod Share
pub mod NetworkState
pub mod Log
pub mod Truth
pub mod Peer
pub mod Telling
pub mod Putting
-- ---- what only the proofs use of the code: how clients go on
pub mod Following
