-- What a reader must believe: when the wall clock leapt, and the fault that the operator is told where a part of a node can't begin.
pub mod ClockWatch
pub mod Faults
