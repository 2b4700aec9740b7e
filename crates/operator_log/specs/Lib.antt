-- ---- what a reader has to believe: what becomes of lines that are handed in for the operator

pub mod LogQueue
