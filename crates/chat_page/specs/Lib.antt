-- what a reader must believe: when a page, or a refusal, is the answer
pub mod Answer
-- what only the proofs use of the code: records between two cuts, and the point of a selector
pub mod Cuts
pub mod Point
