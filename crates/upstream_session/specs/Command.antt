-- The commands of a server that a session tells apart; they are compared without regard to case.
use Rattle.std.specs.Prelude.{ℕ, Bool, ◌||◌, List, codes, if◌then◌else◌}
use Rattle.std.specs.Str.{str_eq_ignore_ascii_case}
use Rattle.upstream_session.specs.declared.command.ServerCommand.{ServerCommand}
use Rattle.upstream_session.specs.declared.command.ServerCommand.TheVariants.{Cap, Welcome, Greeting, NickInUse, Ping, Nick, Join, Part, Kick, Error, Privmsg, Notice, Redact, Tagmsg, Other}

-- RPL_YOURHOST, RPL_CREATED, RPL_MYINFO and RPL_ISUPPORT
abbrev pub is_greeting : List ℕ → Bool
is_greeting word =
    str_eq_ignore_ascii_case word (codes "002")
    || (str_eq_ignore_ascii_case word (codes "003")
    || (str_eq_ignore_ascii_case word (codes "004")
    || str_eq_ignore_ascii_case word (codes "005")))

-- a word about the connection itself: its registration, PING or ERROR; any other is of no kind of its own
unfoldable pub connection_command_of : List ℕ → ServerCommand
connection_command_of word =
    if str_eq_ignore_ascii_case word (codes "PING") then Ping
    else if str_eq_ignore_ascii_case word (codes "CAP") then Cap
    else if str_eq_ignore_ascii_case word (codes "001") then Welcome
    else if is_greeting word then Greeting
    else if str_eq_ignore_ascii_case word (codes "433") then NickInUse
    else if str_eq_ignore_ascii_case word (codes "ERROR") then Error
    else Other

-- a word by which users come, go or are renamed, or one about the connection
unfoldable pub user_command_of : List ℕ → ServerCommand
user_command_of word =
    if str_eq_ignore_ascii_case word (codes "JOIN") then Join
    else if str_eq_ignore_ascii_case word (codes "PART") then Part
    else if str_eq_ignore_ascii_case word (codes "KICK") then Kick
    else if str_eq_ignore_ascii_case word (codes "NICK") then Nick
    else connection_command_of word

abbrev pub command_of : List ℕ → ServerCommand
command_of word =
    if str_eq_ignore_ascii_case word (codes "PRIVMSG") then Privmsg
    else if str_eq_ignore_ascii_case word (codes "NOTICE") then Notice
    else if str_eq_ignore_ascii_case word (codes "TAGMSG") then Tagmsg
    else if str_eq_ignore_ascii_case word (codes "REDACT") then Redact
    else user_command_of word
