-- What the members of a set of changes say of a message.
use Rattle.std.specs.Prelude.{ℕ, ◌≡◌, ◌≤◌, ◌⊎◌, Contains, Some, List}
use Rattle.chat_change.specs.Buffer.{Buffer}
use Rattle.chat_change.specs.Record.{Record}
use Rattle.chat_change.specs.declared.change.Change.{Change}
use Rattle.chat_change.specs.declared.change.Change.TheVariants.{Post, Redact}
use Rattle.chat_history.specs.History.{floor}

-- a record was posted as that message
abbrev pub IsPosted : List Change → Buffer → List ℕ → Record → Type 0
IsPosted changes b m r = Contains changes (Post r) × (r.buffer ≡ b) × (r.id ≡ m)

-- a record was posted as that message, at or above the floor of the buffer
abbrev pub IsStandingPost : List Change → Buffer → List ℕ → Record → Type 0
IsStandingPost changes b m r = IsPosted changes b m r × (floor changes b ≤ r.at)

-- a moment at or above the floor that a post of the message has or a redaction of it names
abbrev pub IsMomentOf : List Change → Buffer → List ℕ → ℕ → Type 0
IsMomentOf changes b m t =
    (((r : Record) × (IsPosted changes b m r × (r.at ≡ t))) ⊎
    Contains changes (Redact b m (Some t))) × (floor changes b ≤ t)
