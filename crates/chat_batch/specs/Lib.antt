-- what a reader must believe stands in `chat_query`
-- what only the proofs use of the code: what a call that writes an answer leaves
pub mod WritesAnswer
