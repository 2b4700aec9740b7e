-- ---- what a reader has to believe

-- what a store holds, and what is placed in it
pub mod Store
-- what it answers of a message
pub mod MessageRef
-- how a piece enters it, and a floor takes records away
pub mod Entering
-- which buffers are sought, and a walk over these
pub mod Sought
pub mod BufferWalk
-- what is held of the messages of a buffer, and which records are kept of them
pub mod Messages
pub mod Kept
-- ---- what only the proofs use of the code

-- what is held of one buffer, and of many and their accounts
pub mod Stamps
pub mod Held
-- what a walk over the buffers has ahead of it
pub mod Ahead
-- the latest of the records of a buffer, and how the two maps of its messages agree
pub mod RecordMap
pub mod Agreement
-- the ends of ranges, and what a cursor over messages has left
pub mod Ends
pub mod MessageWalk
-- how ids and spots are kept as keys of maps
pub mod IdKey
pub mod SpotKey
pub mod Prefixes
-- how a moment that may not be known is kept
pub mod MomentIfKnown
