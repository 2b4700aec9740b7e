-- What a session makes of a message: its source, the conversation that it belongs to, its id, its moment and its tags.
use Rattle.std.specs.Prelude.{ℕ, Bool, ◌&&◌, ◌==◌, List, [], ◌++◌, codes, unwrap_or, Option, None, Some, if◌then◌else◌}
use Rattle.std.specs.List.{before_first}
use Rattle.std.specs.Str.{str_eq_ignore_ascii_case}
use Rattle.std.specs.Fmt.{decimal}
use Rattle.std.specs.Option.{option_map}
use Rattle.irc_tags.specs.ClientOnly.{client_only_of}
use Rattle.irc_tags.specs.TagList.{Tag, tag_list, value_at}
use Rattle.irc_time.specs.Reading.{time_of}
use Rattle.irc_reply.specs.Tagged.{client_tags}
use Rattle.chat_change.specs.Words.{is_id, is_tags}
use Rattle.chat_change.specs.Buffer.{buffer_of}
use Rattle.chat_change.specs.Buffers as buffers
use Rattle.chat_change.specs.Message.{Message}
use Rattle.chat_change.specs.Record.{Record}
use Rattle.chat_change.specs.Faults.{is_message}
use Rattle.chat_change.specs.declared.change.Change.TheVariants.{Post}
use Rattle.upstream_session.specs.declared.connection.Home.{Home}
use Rattle.upstream_session.specs.declared.connection.ServerSession.{ServerSession}
use Rattle.upstream_session.specs.declared.messages.MessageStamp.{MessageStamp}
use Rattle.upstream_session.specs.declared.effect.UpEffect.{UpEffect}
use Rattle.upstream_session.specs.declared.effect.UpEffect.TheVariants.{Put}

-- ---- nicks

-- the nick of a source stands before its `!`
abbrev pub nick_of : List ℕ → List ℕ
nick_of source = before_first (λ b. b == 33) source

-- nicks are compared without regard to case
abbrev pub is_same_nick : List ℕ → List ℕ → Bool
is_same_nick nick other = str_eq_ignore_ascii_case nick other

-- the message is from that nick
abbrev pub is_from : List ℕ → Record → Bool
is_from nick r = is_same_nick (nick_of r.message.source) nick

-- the source is the session itself, by its present nick
abbrev pub is_own : ServerSession → List ℕ → Bool
is_own u source = is_same_nick (nick_of source) u.entry.nick

-- a line without a source comes from the network
abbrev pub source_of : ServerSession → Option (List ℕ) → List ℕ
source_of u source = unwrap_or source u.home.network

-- a message to the present nick belongs to the conversation with whoever sent it
abbrev pub conversation : ServerSession → List ℕ → List ℕ → List ℕ
conversation u source target = if is_same_nick target u.entry.nick then nick_of source else target

-- the conversation has a buffer
abbrev pub has_buffer : Home → List ℕ → Bool
has_buffer home target = buffers.has_buffer home.account home.network target

-- the message is one that can be kept
abbrev pub can_be_kept : ServerSession → Message → Bool
can_be_kept u m = has_buffer u.home (conversation u m.source m.target) && is_message m

-- ---- ids and moments (IRCv3 message-ids and server-time)

abbrev pub id_if : Option (List ℕ) → Option (List ℕ)
id_if None = None
id_if (Some text) = if is_id text then Some text else None

abbrev pub moment_if : Option (List ℕ) → ℕ → ℕ
moment_if None now = now
moment_if (Some text) now = unwrap_or (time_of text) now

-- The tag `msgid` gives the id, where it can be one, and the tag `time` the moment, where it is one; else it is now.
abbrev pub stamp_in : List Tag → ℕ → MessageStamp
stamp_in tags now = record {
  id = id_if (value_at (codes "msgid") tags);
  at = moment_if (value_at (codes "time") tags) now;
}

-- the same of a line that may have no tags
abbrev pub stamp_read : Option (List Tag) → ℕ → MessageStamp
stamp_read None now = record { id = None; at = now }
stamp_read (Some tags) now = stamp_in tags now

abbrev pub stamp_of : Option (List ℕ) → ℕ → MessageStamp
stamp_of tags now = stamp_read (option_map tag_list tags) now

-- an id that this node makes: its name, its incarnation and a serial number that it uses once
abbrev pub made_text : Home → ℕ → List ℕ
made_text home serial =
    home.node ++ (codes "-" ++ (decimal home.incarnation ++ (codes "-" ++ decimal serial)))

-- none where the node's name can't stand in an id
abbrev pub made_id : Home → ℕ → Option (List ℕ)
made_id home serial = id_if (Some (made_text home serial))

-- ---- tags (IRCv3 message-tags, "Client-only tags")

-- what a record keeps of a line's tags: its client-only tags as they are written, or none where they can't be kept
abbrev pub kept_tags : Option (List ℕ) → List ℕ
kept_tags tags = if is_tags (client_tags tags) then client_tags tags else []

-- the same of the tags that were read of it
abbrev pub kept_read : Option (List Tag) → List ℕ
kept_read None = []
kept_read (Some tags) = if is_tags (client_only_of tags) then client_only_of tags else []

-- ---- records

abbrev pub post : ServerSession → List ℕ → ℕ → List ℕ → Message → UpEffect
post u id at tags m = Put (Post (record {
  buffer = buffer_of u.home.account u.home.network (conversation u m.source m.target);
  id = id;
  at = at;
  tags = tags;
  message = m;
}))
