-- The lines to a client (RFC 2812, section 5; IRCv3 standard-replies). All but the question of a marker end with CR LF.
use Rattle.std.specs.Prelude.{ℕ, List, [], ◌∷◌, ◌++◌, codes, take, Option, None, Some}
use Rattle.std.specs.Fmt.{decimal}
use Rattle.byte_text.specs.Bytes.{line_ending}
use Rattle.irc_line.specs.Text.{line_text, source_text}
use Rattle.irc_line.specs.Read.{text_in}
use Rattle.irc_reply.specs.Reply.{reply, fail_text, plain_line}
use Rattle.irc_reply.specs.Echo.{echoed}
use Rattle.irc_reply.specs.Tagged.{tag_part, client_tags}

-- the nick of a session before registration
abbrev pub no_nick : List ℕ
no_nick = codes "*"

-- RPL_WELCOME
abbrev pub welcome : List ℕ → List ℕ → List ℕ → List ℕ
welcome cluster nick network =
    reply cluster (codes "001") (nick ∷ []) (Some (codes "Welcome to " ++ network))

-- what the server supports (RPL_ISUPPORT)
abbrev pub tokens : ℕ → List (List ℕ)
tokens maximum =
    codes "CASEMAPPING=ascii"
    ∷ (codes "CHATHISTORY=" ++ decimal maximum)
    ∷ codes "MSGREFTYPES=msgid,timestamp" ∷ []

abbrev pub support : List ℕ → List ℕ → ℕ → List ℕ
support cluster nick maximum =
    reply cluster (codes "005") (nick ∷ tokens maximum)
    (Some (codes "are supported by this server"))

-- ERR_NOMOTD
abbrev pub no_motd : List ℕ → List ℕ → List ℕ
no_motd cluster nick = reply cluster (codes "422") (nick ∷ []) (Some (codes "MOTD File is missing"))

-- ERR_NONICKNAMEGIVEN
abbrev pub no_nick_given : List ℕ → List ℕ → List ℕ
no_nick_given cluster nick =
    reply cluster (codes "431") (nick ∷ []) (Some (codes "No nickname given"))

-- ERR_ERRONEUSNICKNAME
abbrev pub erroneous_nick : List ℕ → List ℕ → List ℕ → List ℕ
erroneous_nick cluster nick given =
    reply cluster (codes "432") (nick ∷ echoed given ∷ []) (Some (codes "Erroneous nickname"))

-- ERR_NOTREGISTERED
abbrev pub not_registered : List ℕ → List ℕ
not_registered cluster =
    reply cluster (codes "451") (no_nick ∷ []) (Some (codes "You have not registered"))

-- ERR_ALREADYREGISTRED
abbrev pub may_not_reregister : List ℕ → List ℕ → List ℕ
may_not_reregister cluster nick =
    reply cluster (codes "462") (nick ∷ []) (Some (codes "You may not reregister"))

-- ERR_PASSWDMISMATCH
abbrev pub password_incorrect : List ℕ → List ℕ
password_incorrect cluster =
    reply cluster (codes "464") (no_nick ∷ []) (Some (codes "Password incorrect"))

-- the answer to a PING, with the first 300 bytes of its word
abbrev pub pong : List ℕ → List ℕ → List ℕ
pong cluster word = reply cluster (codes "PONG") (cluster ∷ []) (Some (take 300 word))

abbrev pub not_connected : List ℕ → List ℕ → List ℕ → List ℕ
not_connected cluster nick network =
    reply cluster (codes "NOTICE") (nick ∷ []) (Some (codes "Not connected to " ++ network))

-- ---- the refusals of REDACT (IRCv3 draft/message-redaction), in their order

-- the target or the id is missing
abbrev pub redact_needs_more : List ℕ → List ℕ
redact_needs_more cluster =
    fail_text cluster (codes "REDACT") (codes "NEED_MORE_PARAMS") [] (codes "Missing parameters")

abbrev pub redact_bad_target : List ℕ → List ℕ
redact_bad_target cluster =
    fail_text cluster (codes "REDACT") (codes "INVALID_TARGET") [] (codes "Invalid target")

-- the target shows no message of that id
abbrev pub redact_unknown_id : List ℕ → List ℕ → List ℕ
redact_unknown_id cluster target =
    fail_text cluster (codes "REDACT") (codes "UNKNOWN_MSGID") (target ∷ [])
    (codes "No such message")

-- the network isn't up, or its server doesn't take REDACT
abbrev pub redact_forbidden : List ℕ → List ℕ → List ℕ
redact_forbidden cluster target =
    fail_text cluster (codes "REDACT") (codes "REDACT_FORBIDDEN") (target ∷ [])
    (codes "Not allowed here")

-- ---- lines that aren't the cluster's

-- the last line of a connection
abbrev pub closing_link : List ℕ
closing_link = plain_line (codes "ERROR") [] (Some (codes "Closing link"))

-- a channel that the session is in
abbrev pub join_line : List ℕ → List ℕ → List ℕ
join_line nick channel = line_text (record {
  tags = None;
  source = Some nick;
  command = codes "JOIN";
  middles = channel ∷ [];
  trailing = None;
})

-- asks for the marker of a channel (IRCv3 draft/read-marker); it has no ending
abbrev pub marker_question : List ℕ → List ℕ
marker_question channel = codes "MARKREAD " ++ channel

-- a server's line as it is passed on: its source, if it has one, and its text, without its tags
abbrev pub relayed_line : Option (List ℕ) → List ℕ → List ℕ
relayed_line source bytes = source_text source ++ (text_in bytes ++ line_ending)

-- the same with its client-only tags in front, of the tag data that it has
abbrev pub tagged_line : Option (List ℕ) → Option (List ℕ) → List ℕ → List ℕ
tagged_line tags source bytes = tag_part (client_tags tags) ++ relayed_line source bytes
