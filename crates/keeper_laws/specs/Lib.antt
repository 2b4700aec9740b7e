-- What a reader must believe: how a keeper starts again in its cluster, and with what.
pub mod Restart
pub mod Recovered
