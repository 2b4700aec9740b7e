-- What a reader must believe: the items of a stream, the parts of a line and its faults, the text of a line that is
-- written, which parts may stand in it, texts that are lines, and calls of a feeder.
pub mod Stream
pub mod Line
pub mod Text
pub mod CanStand
pub mod Lines
pub mod Calls
-- What the proofs use of the code: the reading of a line as a function, the tests that find a fault, and the values
-- behind the code's types.
pub mod Read
pub mod Faults
pub mod Head
pub mod Next
pub mod OutLine
