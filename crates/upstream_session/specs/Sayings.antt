-- What a client's line for the server does.
use Rattle.std.specs.Prelude.{ℕ, Bool, ◌+◌, ◌-◌, ◌==◌, ◌&&◌, not, List, [], ◌∷◌, length, take, drop, Option, None, Some, Result, Ok, Err, if◌then◌else◌}
use Rattle.std.specs.Str.{bytes_eq}
use Rattle.byte_text.specs.Bytes.{line_ending}
use Rattle.irc_line.specs.declared.line.LineFault.{LineFault}
use Rattle.irc_line.specs.declared.line.TagLimit.TheVariants.{Client}
use Rattle.irc_line.specs.Line.{Reading}
use Rattle.irc_line.specs.Read.{read}
use Rattle.chat_change.specs.Message.{Message}
use Rattle.chat_change.specs.declared.message.Kind.{Kind}
use Rattle.chat_change.specs.declared.message.Kind.TheVariants as kind
use Rattle.irc_reply.specs.ToServer.{line_of_tags, passed_line, tagged_line}
use Rattle.irc_tags.specs.TagList.{Tag}
use Rattle.upstream_session.specs.Command.{command_of}
use Rattle.upstream_session.specs.declared.command.ServerCommand.{ServerCommand}
use Rattle.upstream_session.specs.declared.command.ServerCommand.TheVariants.{Privmsg, Notice, Tagmsg}
use Rattle.upstream_session.specs.declared.connection.TheConstants.{LAST_SERIAL}
use Rattle.upstream_session.specs.declared.connection.ServerSession.{ServerSession}
use Rattle.upstream_session.specs.declared.effect.UpEffect.{UpEffect}
use Rattle.upstream_session.specs.declared.effect.UpEffect.TheVariants.{Send}
use Rattle.upstream_session.specs.Step.{ServerStep, stays, closes}
use Rattle.upstream_session.specs.Messages.{can_be_kept, made_id, kept_read, kept_tags, post}

-- a client's line may stand with its CR LF, or without
abbrev pub without_ending : List ℕ → List ℕ
without_ending bytes =
    let text = take (length bytes - 2) bytes in
    if bytes_eq (drop (length bytes - 2) bytes) line_ending then text else bytes

abbrev pub send_line : List ℕ → List UpEffect
send_line text = Send (passed_line text) ∷ []

-- ---- PRIVMSG, NOTICE and TAGMSG go with their client-only tags (IRCv3 message-tags, "Client-only tags")

-- the tags that a line goes with: none to a server that takes no tags
abbrev pub sent_tags : ServerSession → Option (List ℕ) → Option (List ℕ)
sent_tags u tags = if u.held.message_tags then tags else None

abbrev pub send_tagged : Option (List ℕ) → List ℕ → List UpEffect
send_tagged tags text = Send (tagged_line tags text) ∷ []

-- the same of tags that were read
abbrev pub send_of_tags : Option (List Tag) → List ℕ → List UpEffect
send_of_tags tags text = Send (line_of_tags tags text) ∷ []

-- a TAGMSG, which doesn't go to a server that takes no tags
abbrev pub say_tagmsg : ServerSession → List ℕ → Option (List ℕ) → ServerStep
say_tagmsg u text tags =
    if u.held.message_tags then stays u (send_tagged tags text) else stays u []

-- ---- PRIVMSG and NOTICE

-- The message is kept here: the network is up, and its server doesn't send the session's own messages back.
abbrev pub is_kept_here : ServerSession → Message → Bool
is_kept_here u m = u.entry.is_up && (not u.held.echo_message && can_be_kept u m)

-- Its record bears the tags that it goes with.
abbrev pub say_by_id : ServerSession → ℕ → List ℕ → Option (List ℕ) → Message → Option (List ℕ)
    → ServerStep
say_by_id u now text tags m None = stays u (send_tagged tags text)
say_by_id u now text tags m (Some id) = record {
  session = record u { serial = u.serial + 1 };
  effects = Send (tagged_line tags text) ∷ post u id now (kept_tags tags) m ∷ [];
}

-- the same of tags that were read
abbrev pub say_of_tags : ServerSession → ℕ → List ℕ → Option (List Tag) → Message → Option (List ℕ)
    → ServerStep
say_of_tags u now text tags m None = stays u (send_of_tags tags text)
say_of_tags u now text tags m (Some id) = record {
  session = record u { serial = u.serial + 1 };
  effects = Send (line_of_tags tags text) ∷ post u id now (kept_read tags) m ∷ [];
}

abbrev pub say_kept : ServerSession → ℕ → List ℕ → Option (List ℕ) → Message → ServerStep
say_kept u now text tags m =
    if u.serial == LAST_SERIAL
    then closes u
    else say_by_id u now text tags m (made_id u.home u.serial)

-- a message of the session's own
abbrev pub say_message : ServerSession → ℕ → List ℕ → Option (List ℕ) → Message → ServerStep
say_message u now text tags m =
    if is_kept_here u m then say_kept u now text tags m else stays u (send_tagged tags text)

abbrev pub say_words : ServerSession → ℕ → List ℕ → Option (List ℕ) → Kind → List (List ℕ)
    → ServerStep
say_words u now text tags kind (target ∷ body ∷ more) =
    say_message u now text tags
    (record { kind = kind; source = u.entry.nick; target = target; body = body })
say_words u now text tags kind parameters = stays u (send_tagged tags text)

-- ---- the table

abbrev pub say_command : ServerSession → ℕ → List ℕ → Reading → ServerCommand → ServerStep
say_command u now text line Privmsg =
    say_words u now text (sent_tags u line.tags) kind.Privmsg line.parameters
say_command u now text line Notice =
    say_words u now text (sent_tags u line.tags) kind.Notice line.parameters
say_command u now text line Tagmsg = say_tagmsg u text line.tags
say_command u now text line command = stays u (send_line text)

-- a line that can't be read goes without tags
abbrev pub say_reading : ServerSession → ℕ → List ℕ → Result Reading LineFault → ServerStep
say_reading u now text (Err fault) = stays u (send_line text)
say_reading u now text (Ok line) = say_command u now text line (command_of line.command)

abbrev pub say_line : ServerSession → ℕ → List ℕ → ServerStep
say_line u now text = say_reading u now text (read Client text)
