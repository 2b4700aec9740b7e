-- ---- what a reader must believe

-- lists of entries, and the state that they make
pub mod Lists
-- the published list, and what waits behind it
pub mod Log
-- which node it is
pub mod Names
-- passes, and what a read leaves
pub mod Passes
-- what a put leaves
pub mod Puts
-- ---- what only the proofs use of the code

pub mod Owned
pub mod Versions
