-- What a reader must believe: what lines ask for, what a node does with them, what a script prints, that it is lines, where
-- it ends with which fault, and what the nodes are in a cluster.
pub mod Command
pub mod Request
pub mod Node
pub mod Links
pub mod World
pub mod Script
pub mod ChangeLines
pub mod Printed
pub mod Faults
pub mod Ending
pub mod Schedule
-- What only the proofs use: what the code's values stand for, and how far a script has come.
pub mod HeldNode
pub mod Progress
