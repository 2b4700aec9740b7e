-- What a floor is set for: a whole account, or one of its buffers.
use Rattle.std.specs.Prelude.{ℕ, List, [], ◌∷◌}
use Rattle.chat_change.specs.Buffer.{Buffer, buffer_texts}
use Rattle.chat_change.specs.declared.extent.Extent as code
use Rattle.chat_change.specs.declared.extent.Extent.TheVariants as code_extent

pub data Extent : Type 0 where
  OfAccount : (account : List ℕ) → Extent
  OfBuffer : (buffer : Buffer) → Extent

-- the extent that a value of the code's type stands for
abbrev pub value_of : code.Extent → Extent
value_of (code_extent.Account account) = OfAccount account.now
value_of (code_extent.Buffer buffer) = OfBuffer buffer.now

-- the account, or that of the buffer
abbrev pub account_of : Extent → List ℕ
account_of (OfAccount a) = a
account_of (OfBuffer b) = b.account

-- the texts by which extents differ
abbrev pub extent_texts : Extent → List (List ℕ)
extent_texts (OfAccount a) = a ∷ []
extent_texts (OfBuffer b) = buffer_texts b
