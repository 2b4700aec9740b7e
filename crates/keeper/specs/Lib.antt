-- What a reader must believe: what a keeper has taken and its file says, what is found in a file, and lives, one after another.
pub mod Keeper
pub mod Found
pub mod Lives
-- What only the proofs use of the code: the changes and the packets that were looked at so far.
pub mod Fresh
pub mod Living
