-- The user that a line names: the first parameter of USER is `account/network` (RFC 2812, section 3.1.3).
use Rattle.std.specs.Prelude.{ℕ, List, Option, None, Some, Result, Ok, Err}
use Rattle.irc_line.specs.declared.line.LineFault.{LineFault}
use Rattle.irc_line.specs.declared.line.TagLimit.TheVariants.{Client}
use Rattle.irc_line.specs.Line.{Reading}
use Rattle.irc_line.specs.Read.{read}
use Rattle.client_session.specs.Command.{command_of}
use Rattle.client_session.specs.declared.command.ClientCommand.{ClientCommand}
use Rattle.client_session.specs.declared.command.ClientCommand.TheVariants.{User}
use Rattle.client_session.specs.declared.stage.Stage.{Stage}
use Rattle.client_session.specs.declared.stage.Stage.TheVariants.{Waiting, Registered, Closed}
use Rattle.client_session.specs.Registration.{user_name}

abbrev pub user_of : ClientCommand → List (List ℕ) → Option (List ℕ)
user_of User parameters = user_name parameters
user_of _ parameters = None

abbrev pub user_in_reading : Result Reading LineFault → Option (List ℕ)
user_in_reading (Err fault) = None
user_in_reading (Ok line) = user_of (command_of line.command) line.parameters

-- the user that a line names
abbrev pub user_in : List ℕ → Option (List ℕ)
user_in bytes = user_in_reading (read Client bytes)

-- the last that was named
abbrev pub last_user : Option (List ℕ) → Option (List ℕ) → Option (List ℕ)
last_user before None = before
last_user before (Some user) = Some user

-- the user that a session is to be registered as once it has heard a line
abbrev pub user_after : Stage → List ℕ → Option (List ℕ)
user_after (Waiting w) bytes = last_user w.user (user_in bytes)
user_after (Registered f) bytes = None
user_after Closed bytes = None
