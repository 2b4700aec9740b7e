-- ---- what a reader must believe: texts and their limits, buffers, messages, records, keys, orders, refusals, lawful
-- changes and lent ones
pub mod Words
pub mod Tags
pub mod Buffer
pub mod Buffers
pub mod Message
pub mod Record
pub mod Order
pub mod Extent
pub mod Key
pub mod Faults
pub mod Lawful
pub mod ChangeRef
-- ---- what only the proofs use of the code: how texts lie in memory
pub mod MessageTexts
pub mod CompactText
pub mod ShortText
