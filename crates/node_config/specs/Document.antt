-- Which bytes are a TOML text, and what a refusal says of that.
use Rattle.std.specs.Prelude.{⊤, List, ℕ, IsSome}
use Rattle.std.specs.Str.{IsUtf8}
use Rattle.toml.specs.Parse.{parse_document}
use Rattle.node_config.specs.declared.fault.ConfigFault.{ConfigFault}
use Rattle.node_config.specs.declared.fault.ConfigFault.TheVariants.{BadText, BadKey, BadValue, NoMemory}

-- the bytes are UTF-8, and TOML
abbrev pub IsDocument : List ℕ → Type 0
IsDocument bytes = IsUtf8 bytes × IsSome (parse_document bytes)

-- a text is bad exactly where it isn't UTF-8 or isn't TOML. Whether it is isn't told for want of
-- memory
abbrev pub IsRefused : List ℕ → ConfigFault → Type 0
IsRefused bytes (BadText line) = ¬ (IsDocument bytes)
IsRefused bytes (BadKey wrong) = IsDocument bytes
IsRefused bytes (BadValue wrong) = IsDocument bytes
IsRefused bytes NoMemory = ⊤
