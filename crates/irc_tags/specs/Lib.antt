-- What a reader must believe: tags, what tag data says and how it is written, which tags may stand in it, and the
-- client-only ones as they are written.
pub mod Value
pub mod TagList
pub mod Text
pub mod Standing
pub mod ClientOnly
-- What the proofs use of the code: a list of tags that is made tag by tag, with the entries that hold it, and client-only tags
-- one by one.
pub mod Entries
pub mod Kept
