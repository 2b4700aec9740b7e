-- What a reader must believe: what a file of changes stands for, and what is read of one.
pub mod Changes
pub mod Lives
pub mod Reading
-- What only the proofs use of the code: how lines are cut.
pub mod Cut
