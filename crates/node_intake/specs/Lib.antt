-- What a reader must believe: the fault that the operator is told where a node can't be shared among its workers, what never
-- changes of a node, and the floors that are put before its workers begin.
pub mod Fault
pub mod Settings
pub mod Floors
