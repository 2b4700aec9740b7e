-- What a reader must believe: how a new connection is taken up; what a node knows of a peer; the cluster, and what it promises;
-- and on one connection what comes of a line and of a message that arrived, when packets are made, and what happens in turn.
pub mod Handshake
pub mod Peer
pub mod Link
pub mod Cluster
pub mod Promises
pub mod Session
pub mod Lines
pub mod Arrival
pub mod Packets
pub mod Pace
pub mod Course
