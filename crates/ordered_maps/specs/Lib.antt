-- ---- what a reader has to believe: ordered maps after a change at one key, their ends, and their clones

pub mod MapView
pub mod Ends
pub mod Clones
-- ---- what only the proofs use of the code: the pages of a map, places among them, and their parts

pub mod Pages
pub mod Places
pub mod Parts
