-- ---- what a reader has to believe

-- the history that a set of changes makes, and what is read off it
pub mod Choice
pub mod History
pub mod Members
pub mod Visible
pub mod Lookups
pub mod Cut
pub mod Buffers
pub mod Latest
pub mod Retention
-- what a state holds that took changes, and under which numbers
pub mod Numbering
pub mod StateValue
pub mod Deltas
pub mod Merging
pub mod Newer
-- who is up to date with whom, and what sources and takers of deltas hold
pub mod UpTo
pub mod Growth
-- ---- what only the proofs use of the code

pub mod Same
pub mod Codes
pub mod Form
