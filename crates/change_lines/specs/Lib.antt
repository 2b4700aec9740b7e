-- what a reader must believe: lines that spell changes
pub mod Words
pub mod Moment
pub mod PostLine
pub mod ChangeLine
pub mod ChangeText
-- what only the proofs use of the code: what its values stand for
pub mod BufferFields
pub mod NamedBuffer
pub mod Reading
