-- What a reader must believe: what a device does, what a file of blocks stands for, and what is read of one.
pub mod Device
pub mod Blocks
pub mod Ending
pub mod Found
-- What only the proofs use of the code: how digits are read, and the devices in memory.
pub mod Decode
pub mod Memory
pub mod Past
