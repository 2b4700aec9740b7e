-- Lists of what happens to a session: lines of the server, and lines of clients that go to it.
use Rattle.std.specs.Prelude.{◌≡◌, ◌⊎◌, ℕ, ◌+◌, ◌==◌, List, [], ◌∷◌, ◌++◌, Option, None, Some, Result, Ok, Err, if◌then◌else◌}
use Rattle.irc_line.specs.declared.line.LineFault.{LineFault}
use Rattle.irc_line.specs.declared.line.TagLimit.TheVariants.{Server, Client}
use Rattle.irc_line.specs.Line.{Reading}
use Rattle.irc_line.specs.Read.{read}
use Rattle.irc_reply.specs.Tagged.{tag_part}
use Rattle.irc_reply.specs.ToServer.{passed_line}
use Rattle.chat_change.specs.Buffer.{Buffer}
use Rattle.chat_change.specs.declared.change.Change.{Change}
use Rattle.chat_change.specs.declared.change.Change.TheVariants.{Post, Redact}
use Rattle.upstream_session.specs.Command.{command_of}
use Rattle.upstream_session.specs.declared.command.ServerCommand.TheVariants.{Welcome}
use Rattle.upstream_session.specs.declared.connection.Home.{Home}
use Rattle.upstream_session.specs.declared.connection.ServerSession.{ServerSession}
use Rattle.upstream_session.specs.declared.effect.UpEffect.{UpEffect}
use Rattle.upstream_session.specs.declared.effect.UpEffect.TheVariants.{Send, Put, Relay, Close}
use Rattle.upstream_session.specs.Messages.{made_text, kept_tags, stamp_of}
use Rattle.upstream_session.specs.Step.{ServerStep}
use Rattle.upstream_session.specs.Sayings.{without_ending, sent_tags}
use Rattle.upstream_session.specs.Session.{step, say}

-- each with its moment
pub data ServerEvent : Type 0 where
  Line : (now : ℕ) (bytes : List ℕ) → ServerEvent
  Saying : (now : ℕ) (bytes : List ℕ) → ServerEvent

abbrev pub step_by : ServerSession → ServerEvent → ServerStep
step_by u (Line now bytes) = step u now bytes
step_by u (Saying now bytes) = say u now bytes

abbrev pub after : ServerSession → ServerEvent → ServerSession
after u event = (step_by u event).session

abbrev pub effects_of : ServerSession → ServerEvent → List UpEffect
effects_of u event = (step_by u event).effects

-- the session after a list of events
abbrev pub run : ServerSession → List ServerEvent → ServerSession
run u [] = u
run u (event ∷ events) = run (after u event) events

-- all that its caller does for it
abbrev pub all_effects : ServerSession → List ServerEvent → List UpEffect
all_effects u [] = []
all_effects u (event ∷ events) = effects_of u event ++ all_effects (after u event) events

-- ---- changes

abbrev pub IsIn : Home → Buffer → Type 0
IsIn home buffer = (buffer.account ≡ home.account) × (buffer.network ≡ home.network)

-- a post or a redaction in a buffer of the account and the network
abbrev pub IsOwnChange : Home → Change → Type 0
IsOwnChange home (Post r) = IsIn home r.buffer
IsOwnChange home (Redact buffer id at) = IsIn home buffer
IsOwnChange home _ = ⊥

abbrev pub IsOwnEffect : Home → UpEffect → Type 0
IsOwnEffect home (Put change) = IsOwnChange home change
IsOwnEffect home _ = Unit {0}

-- ---- before the network is up

-- a line to the server, or the end
abbrev pub IsUnheard : UpEffect → Type 0
IsUnheard (Send bytes) = Unit {0}
IsUnheard (Put change) = ⊥
IsUnheard (Relay bytes to) = ⊥
IsUnheard Close = Unit {0}

abbrev pub IsWelcomeRead : Result Reading LineFault → Type 0
IsWelcomeRead (Err fault) = ⊥
IsWelcomeRead (Ok line) = command_of line.command ≡ Welcome

-- the server welcomes the session
abbrev pub IsWelcome : ServerEvent → Type 0
IsWelcome (Line now bytes) = IsWelcomeRead (read Server bytes)
IsWelcome (Saying now bytes) = ⊥

-- ---- made ids

-- the id that a line of the server bears, if it can be one
abbrev pub id_read : Result Reading LineFault → Option (List ℕ)
id_read (Err fault) = None
id_read (Ok line) = (stamp_of line.tags 0).id

abbrev pub id_given : ServerEvent → Option (List ℕ)
id_given (Line now bytes) = id_read (read Server bytes)
id_given (Saying now bytes) = None

-- The post has the id that the line bears, and no serial number is used; or it has the one that is made of the serial
-- number, and the next one is greater by one.
abbrev pub HasOwnId : ServerSession → ServerSession → Option (List ℕ) → List ℕ → Type 0
HasOwnId old new given id =
    ((given ≡ Some id) × (new.serial ≡ old.serial))
    ⊎ ((id ≡ made_text old.home old.serial) × (new.serial ≡ old.serial + 1))

abbrev pub IsIdOf : ServerSession → ServerSession → Option (List ℕ) → UpEffect → Type 0
IsIdOf old new given (Put (Post r)) = HasOwnId old new given r.id
IsIdOf old new given _ = Unit {0}

-- the post of that id is among the effects
abbrev pub HasPost : List ℕ → List UpEffect → Type 0
HasPost id [] = ⊥
HasPost id (Put (Post r) ∷ effects) = (r.id ≡ id) ⊎ HasPost id effects
HasPost id (_ ∷ effects) = HasPost id effects

-- the id that an event makes, if its serial number was used
abbrev pub ids_made_by : ServerSession → ServerEvent → List (List ℕ)
ids_made_by u event =
    if (after u event).serial == u.serial then [] else made_text u.home u.serial ∷ []

-- the ids that a session makes in a list of events
abbrev pub ids_made : ServerSession → List ServerEvent → List (List ℕ)
ids_made u [] = []
ids_made u (event ∷ events) = ids_made_by u event ++ ids_made (after u event) events

-- ---- tags

abbrev pub tags_read : Result Reading LineFault → Option (List ℕ)
tags_read (Err fault) = None
tags_read (Ok line) = line.tags

-- what a record keeps of the tags of a server's line, or of those that a client's line goes to the server with
abbrev pub tags_given : ServerSession → ServerEvent → List ℕ
tags_given u (Line now bytes) = kept_tags (tags_read (read Server bytes))
tags_given u (Saying now bytes) =
    kept_tags (sent_tags u (tags_read (read Client (without_ending bytes))))

abbrev pub HasTags : List ℕ → UpEffect → Type 0
HasTags tags (Put (Post r)) = r.tags ≡ tags
HasTags tags _ = Unit {0}

-- among the effects is the client's line for the server, with those tags in front
abbrev pub HasSent : List ℕ → List ℕ → List UpEffect → Type 0
HasSent tags text [] = ⊥
HasSent tags text (Send bytes ∷ effects) =
    (bytes ≡ tag_part tags ++ passed_line text) ⊎ HasSent tags text effects
HasSent tags text (_ ∷ effects) = HasSent tags text effects

-- a post has the tags that the line is sent with
abbrev pub IsSentAsKept : List ℕ → List UpEffect → UpEffect → Type 0
IsSentAsKept text effects (Put (Post r)) = HasSent r.tags text effects
IsSentAsKept text effects _ = Unit {0}

-- ---- the end

abbrev pub HasClose : List UpEffect → Type 0
HasClose [] = ⊥
HasClose (Close ∷ effects) = Unit {0}
HasClose (_ ∷ effects) = HasClose effects

-- nothing stands behind Close
abbrev pub EndsAtClose : List UpEffect → Type 0
EndsAtClose [] = Unit {0}
EndsAtClose (Close ∷ effects) = effects ≡ []
EndsAtClose (_ ∷ effects) = EndsAtClose effects
