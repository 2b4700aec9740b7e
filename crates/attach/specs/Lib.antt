-- What a reader must believe: clients, their places, the steps that seats make, the laws, clients that count or record, and halls.
pub mod Attachment
pub mod Places
pub mod Hold
pub mod Steps
pub mod Laws
pub mod CountingClient
pub mod Recorder
pub mod Hall
-- What only the proofs use of the code: how values are kept as ghosts.
pub mod Codes
