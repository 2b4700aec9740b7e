-- ---- what a reader has to believe: the network that a line names, what a client comes to as bytes come or a line is heard, and what
-- is said of its lines
pub mod Naming
pub mod Steps
