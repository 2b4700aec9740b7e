-- what a reader must believe
pub mod Capability
pub mod CapSet
pub mod Words
pub mod Negotiation
pub mod Offers
pub mod Runs
-- what only the proofs use of the code
pub mod Gaps
