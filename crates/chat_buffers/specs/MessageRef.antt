-- What a store answers of a message.
use Rattle.std.specs.Prelude.{ℕ, ◌≡◌, ⊤, List}
use Rattle.chat_change.specs.Buffer.{Buffer}
use Rattle.chat_change.specs.declared.change.Change.{Change}
use Rattle.chat_change.specs.declared.change.Change.TheVariants.{Post, Redact}
use Rattle.chat_buffers.specs.declared.buffers.MessageRef.{MessageRef}
use Rattle.chat_buffers.specs.declared.buffers.MessageRef.TheVariants.{Kept, Gone}

-- the piece of a message
abbrev pub message_change : Buffer → List ℕ → MessageRef → Change
message_change b m (Kept r) = Post r.now
message_change b m (Gone t) = Redact b m t

-- the record is of that message
abbrev pub IsMessageOf : Buffer → List ℕ → MessageRef → Type 0
IsMessageOf b m (Kept r) = (r.now.buffer ≡ b) × (r.now.id ≡ m)
IsMessageOf b m (Gone t) = ⊤
