-- The calls of a session with a server.
use Rattle.std.specs.Prelude.{◌≡◌, ◌⊎◌, ℕ, List, [], ◌∷◌, Option, None, Result, Ok, Err, if◌then◌else◌}
use Rattle.irc_line.specs.declared.line.LineFault.{LineFault}
use Rattle.irc_line.specs.declared.line.TagLimit.TheVariants.{Server}
use Rattle.irc_line.specs.Line.{Reading}
use Rattle.irc_line.specs.Read.{read}
use Rattle.cluster_directory.specs.Entry.{without_channel}
use Rattle.upstream_session.specs.Command.{command_of}
use Rattle.upstream_session.specs.declared.connection.ServerSession.{ServerSession}
use Rattle.upstream_session.specs.declared.effect.UpEffect.{UpEffect}
use Rattle.upstream_session.specs.declared.effect.UpEffect.TheVariants.{Send}
use Rattle.upstream_session.specs.Step.{ServerStep, stays}
use Rattle.irc_reply.specs.ToServer.{ls_line, nick_line, user_line}
use Rattle.upstream_session.specs.Rows.{serve, joined_by}
use Rattle.upstream_session.specs.Sayings.{without_ending, say_line}

-- the lines that open a session
abbrev pub opening : ServerSession → List UpEffect
opening u =
    Send ls_line ∷ Send (nick_line u.entry.nick) ∷ Send (user_line u.home.user) ∷ []

abbrev pub start : ServerSession → List UpEffect
start u = if u.is_closed then [] else opening u

-- a line that can't be read is dropped
abbrev pub reading_step : ServerSession → ℕ → List ℕ → Result Reading LineFault → ServerStep
reading_step u now bytes (Err fault) = stays u []
reading_step u now bytes (Ok line) = serve u now bytes line (command_of line.command)

-- what a line of the server does, at that moment
unfoldable pub step : ServerSession → ℕ → List ℕ → ServerStep
step u now bytes =
    if u.is_closed then stays u [] else reading_step u now bytes (read Server bytes)

-- what a line of a client does, at that moment
unfoldable pub say : ServerSession → ℕ → List ℕ → ServerStep
say u now bytes = if u.is_closed then stays u [] else say_line u now (without_ending bytes)

-- the channel that the session itself joins by a line of the server that was read
abbrev pub joined_in : ServerSession → Result Reading LineFault → Option (List ℕ)
joined_in u (Err fault) = None
joined_in u (Ok line) = joined_by u line (command_of line.command)

-- the channel that the session itself joins by a line of the server
abbrev pub joined : ServerSession → List ℕ → Option (List ℕ)
joined u bytes = if u.is_closed then None else joined_in u (read Server bytes)

-- no channel joins these: they stay, or one is left
abbrev pub JoinsNone : List (List ℕ) → List (List ℕ) → Type 0
JoinsNone before after =
    (after ≡ before) ⊎ ((channel : List ℕ) × (after ≡ without_channel before channel))
