-- what a reader must believe: who asks, what a line asks for, the numbers of a session's batches, the page that answers a
-- query and what it may have, the tags, lines and batches that are written, what is answered, and what may be handed in
pub mod Scope
pub mod Limit
pub mod Parameters
pub mod Buffers
pub mod Reference
pub mod Page
pub mod Listing
pub mod Walk
pub mod Posted
pub mod OwnPast
pub mod Tags
pub mod Message
pub mod Batch
pub mod Told
pub mod Answers
pub mod Standing
-- what only the proofs use of the code: the order of the buffers of a list
pub mod ListedBuffer
