-- Lines of a server that are passed on, and do nothing else.
use Rattle.std.specs.Prelude.{ℕ, Bool, true, false, not, ◌&&◌, List, [], ◌∷◌, Result, Ok, Err}
use Rattle.irc_line.specs.declared.line.LineFault.{LineFault}
use Rattle.irc_line.specs.declared.line.TagLimit.TheVariants.{Server}
use Rattle.irc_line.specs.Line.{Reading}
use Rattle.irc_line.specs.Read.{read}
use Rattle.upstream_session.specs.Command.{command_of}
use Rattle.upstream_session.specs.declared.command.ServerCommand.{ServerCommand}
use Rattle.upstream_session.specs.declared.command.ServerCommand.TheVariants.{Tagmsg, Other}
use Rattle.upstream_session.specs.declared.effect.UpEffect.{UpEffect}
use Rattle.upstream_session.specs.declared.effect.UpEffect.TheVariants.{Relay}
use Rattle.upstream_session.specs.Refusal.{is_refusing}

abbrev pub is_passed : ServerCommand → Bool
is_passed Tagmsg = true
is_passed Other = true
is_passed _ = false

-- the command is TAGMSG, or one that a session takes no other notice of
abbrev pub is_passed_command : List ℕ → Bool
is_passed_command word = not (is_refusing false word) && is_passed (command_of word)

abbrev pub is_passed_reading : Result Reading LineFault → Bool
is_passed_reading (Err fault) = false
is_passed_reading (Ok line) = is_passed_command line.command

-- the line is one that is only passed on
abbrev pub is_passed_on : List ℕ → Bool
is_passed_on bytes = is_passed_reading (read Server bytes)

-- nothing is done, or one line is passed on
abbrev pub IsRelayAtMost : List UpEffect → Type 0
IsRelayAtMost [] = Unit {0}
IsRelayAtMost (Relay bytes to ∷ []) = Unit {0}
IsRelayAtMost _ = ⊥
