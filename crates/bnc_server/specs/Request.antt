-- What an item of a script asks for.
use Rattle.std.specs.Prelude.{ℕ, Bool, List, codes, take, drop, Result, if◌then◌else◌}
use Rattle.byte_text.specs.Bytes.{begins_with}
use Rattle.irc_line.specs.Stream.{Item, line, too_long}
use Rattle.chat_change.specs.declared.change.Change.{Change}
use Rattle.change_lines.specs.Words.{is_text}
use Rattle.change_lines.specs.ChangeLine.{read_change}
use Rattle.change_lines.specs.declared.fault.ChangeLineFault.{ChangeLineFault}
use Rattle.bnc_server.specs.Command.{NodeCommand, command_of}

pub data Request : Type 0 where
  of_change : Result Change ChangeLineFault → Request
  of_command : NodeCommand → Request
  of_client : (bytes : List ℕ) → Request  -- a line of the client
  over_long : Request  -- a line that was too long

-- a line of a change begins with `C` and a space
abbrev pub is_change_line : List ℕ → Bool
is_change_line bytes = is_text (take 2 bytes) (codes "C ")

-- a line about nodes begins with `%`
unfoldable pub request_in : List ℕ → Request
request_in bytes =
    if is_change_line bytes then of_change (read_change bytes)
    else if begins_with 37 bytes then of_command (command_of (drop 1 bytes))
    else of_client bytes

abbrev pub request_of : Item → Request
request_of (line bytes) = request_in bytes
request_of too_long = over_long
