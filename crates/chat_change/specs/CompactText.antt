-- Where the bytes of an id or of a target lie.
use Rattle.std.specs.Prelude.{ℕ, List}
use Rattle.chat_change.specs.declared.compact_text.CompactText.{CompactText}
use Rattle.chat_change.specs.declared.compact_text.CompactText.TheVariants.{Short, Long}

-- the bytes, wherever they lie
abbrev pub bytes_of : CompactText → List ℕ
bytes_of (Short text) = text
bytes_of (Long bytes) = bytes.items
