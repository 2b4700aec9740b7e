-- The message that a step looks for: the one that a REDACT names.
use Rattle.std.specs.Prelude.{ℕ, ◌&&◌, List, ◌∷◌, Option, None, Some, Result, Ok, Err, if◌then◌else◌}
use Rattle.irc_line.specs.declared.line.LineFault.{LineFault}
use Rattle.irc_line.specs.declared.line.TagLimit.TheVariants.{Client}
use Rattle.irc_line.specs.Line.{Reading}
use Rattle.irc_line.specs.Read.{read}
use Rattle.chat_change.specs.Buffer.{Buffer, buffer_of}
use Rattle.chat_change.specs.Words.{is_id}
use Rattle.chat_query.specs.Buffers.{has_buffer}
use Rattle.chat_query.specs.declared.facts.Facts.{Facts}
use Rattle.client_session.specs.Command.{command_of}
use Rattle.client_session.specs.declared.command.ClientCommand.{ClientCommand}
use Rattle.client_session.specs.declared.command.ClientCommand.TheVariants.{Redact}
use Rattle.client_session.specs.declared.stage.Stage.{Stage}
use Rattle.client_session.specs.declared.stage.Stage.TheVariants.{Waiting, Registered, Closed}

-- a buffer, and the id of a message there
pub record MessageName : Type 0 where
  pub buffer : Buffer
  pub id : List ℕ

-- a session without `draft/message-redaction`, a bad target or a bad id is refused without a look
abbrev pub name_of : Facts → List ℕ → List ℕ → Option MessageName
name_of f target id =
    if f.caps.message_redaction && (has_buffer f target && is_id id)
    then Some (record { buffer = buffer_of f.account f.network target; id = id })
    else None

abbrev pub name_by_command : Facts → ClientCommand → List (List ℕ) → Option MessageName
name_by_command f Redact (target ∷ id ∷ more) = name_of f target id
name_by_command f _ _ = None

abbrev pub name_in : Facts → Result Reading LineFault → Option MessageName
name_in f (Err fault) = None
name_in f (Ok line) = name_by_command f (command_of line.command) line.parameters

-- the two parts of such a name
abbrev pub parts_of : Option MessageName → Option (Buffer × List ℕ)
parts_of None = None
parts_of (Some m) = Some (m.buffer, m.id)

-- where a step looks, if it does
abbrev pub name_sought : Stage → List ℕ → Option MessageName
name_sought (Waiting w) bytes = None
name_sought (Registered f) bytes = name_in f (read Client bytes)
name_sought Closed bytes = None
