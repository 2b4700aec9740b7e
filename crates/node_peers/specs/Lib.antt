-- ---- what a reader has to believe: why a connection is closed, the link with a peer, what a session with one came to and what it
-- says, a connection as it stands, and what changes it; a connection of the table, when a peer is dialed, and the table
pub mod Losses
pub mod PeerTie
pub mod Talk
pub mod PeerState
pub mod PeerEvents
pub mod Seat
pub mod Dialing
pub mod PeersState
-- ---- what only the proofs use of the code: that all is by right
pub mod Served
