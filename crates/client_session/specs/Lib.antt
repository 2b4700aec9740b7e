-- what a reader must believe: the commands, what each does before registration and after it, one step, lists of
-- steps, who hears of what comes from a server, and under which conditions what is sent reads back
pub mod Command
pub mod Step
pub mod Registration
pub mod Naming
pub mod Registered
pub mod Session
pub mod Lookup
pub mod Events
pub mod Hearers
pub mod Standing
-- what only the proofs use of the code: how a registered session goes on
pub mod Continuation
