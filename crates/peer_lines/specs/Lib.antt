-- What a reader must believe: what nodes send each other; how each line is spelled; and what lines that come in turn make of
-- a packet.
pub mod Packet
pub mod Spelling
pub mod Gather
-- What only the proofs use of the code: how a line is read, word by word, and what the code's values stand for.
pub mod Reading
pub mod LineReading
pub mod Fields
pub mod WrittenParts
