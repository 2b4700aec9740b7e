-- what a reader must believe: the commands of a server, what a session keeps, what it makes of a
-- message, what each line and each saying does, by which words a server refuses, lists of these, and
-- under which conditions each text that is written is one line
pub mod Command
pub mod Step
pub mod Messages
pub mod Rows
pub mod Sayings
pub mod Session
pub mod Refusal
pub mod Passing
pub mod Events
pub mod Standing
-- what only the proofs use of the code: how a session goes on
pub mod MessageOutcome
