-- Which targets have a buffer.
use Rattle.std.specs.Prelude.{ℕ, Bool, ◌&&◌, List}
use Rattle.chat_change.specs.Words.{is_name, is_target}

-- an account and a network have buffers where both are names
abbrev pub has_buffers : List ℕ → List ℕ → Bool
has_buffers account network = is_name account && is_name network

-- a target has a buffer there
abbrev pub has_buffer : List ℕ → List ℕ → List ℕ → Bool
has_buffer account network target = has_buffers account network && is_target target
