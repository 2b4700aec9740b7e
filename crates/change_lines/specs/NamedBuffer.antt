-- The buffer that a line names.
use Rattle.std.specs.Prelude.{◌≡◌, true, ⊤, Option, None, Some}
use Rattle.chat_change.specs.Buffer.{Buffer}
use Rattle.change_lines.specs.ChangeLine.{BufferFields, is_buffer, buffer_named}

-- a known buffer is the one of these names, which are lawful
abbrev pub IsNamed : Option Buffer → BufferFields → Type 0
IsNamed None b = ⊤
IsNamed (Some buffer) b = (buffer ≡ buffer_named b) × (is_buffer b ≡ true)
