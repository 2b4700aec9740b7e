-- What a reader must believe: what the program's words ask for, how each command ends, and the statuses of the program.
pub mod Words
pub mod Status
pub mod Replaying
pub mod Serving
pub mod Program
