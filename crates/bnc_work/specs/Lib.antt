-- ---- what a reader has to believe: which settings are those of a node, which node it is, and timers with their moments and which of them is due

pub mod Settings
pub mod Site
pub mod Timers
-- ---- what only the proofs use of the code: the orders, and how the two collections of timers agree

pub mod Order
pub mod Agreement
