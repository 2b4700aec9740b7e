-- what a reader must believe: the lines of the cluster, which words may stand in them and which are repeated, and the
-- other lines to a client and to a server
pub mod Reply
pub mod Standing
pub mod Echo
pub mod Tagged
pub mod ToClient
pub mod ToServer
