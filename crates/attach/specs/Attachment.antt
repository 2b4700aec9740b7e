-- What a contract sees of an attachment.
use Rattle.std.specs.Prelude.{ℕ, ◌+◌, ◌<◌, List, [], ◌++◌, length, drop}

-- the client's place, how many bytes may be owed to it, and the bytes that are
pub record AttachmentState : Type 0 where
  pub place : ℕ
  pub bound : ℕ
  pub owed : List ℕ

-- a client at this place to which nothing is owed, and so many bytes may be
abbrev pub new_client : ℕ → ℕ → AttachmentState
new_client place bound = record { place = place; bound = bound; owed = [] }

-- what is owed and the line together exceed the bound
abbrev pub Exceeds : AttachmentState → List ℕ → Type 0
Exceeds a line = a.bound < length a.owed + length line

-- the line is owed too, after the rest
abbrev pub with_line : AttachmentState → List ℕ → AttachmentState
with_line a line = record { place = a.place; bound = a.bound; owed = a.owed ++ line }

-- so many of the first bytes are owed no more
abbrev pub without_first : AttachmentState → ℕ → AttachmentState
without_first a n = record { place = a.place; bound = a.bound; owed = drop n a.owed }
