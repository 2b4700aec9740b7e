-- ---- what a reader has to believe

-- where a run through deltas stops that is refused
pub mod Run
-- a piece that is lent
pub mod Piece
-- the buffers that had a message since a moment
pub mod LatestSince
-- ---- what only the proofs use of the code

pub mod State
pub mod Latest
-- the store below a state: the form in which a change counts, and the pieces by rising number
pub mod Form
pub mod Walk
-- numbers as keys of the index, the greatest first
pub mod Number
-- what each piece is known by, under its number
pub mod PieceName
pub mod Index
-- how what lies below a floor goes, piece by piece
pub mod Sweeping
-- the pieces of a delta, one after another
pub mod Turn
