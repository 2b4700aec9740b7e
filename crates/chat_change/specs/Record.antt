-- A record: one message that was posted.
use Rattle.std.specs.Prelude.{ℕ, List}
use Rattle.chat_change.specs.Buffer.{Buffer}
use Rattle.chat_change.specs.Message.{Message}

pub record Record : Type 0 where
  pub buffer : Buffer
  pub id : List ℕ
  pub at : ℕ  -- milliseconds after 1970 began
  pub tags : List ℕ  -- client-only tags as they are written, or nothing
  pub message : Message
