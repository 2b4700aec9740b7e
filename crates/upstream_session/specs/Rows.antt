-- What each line of a server does (RFC 2812, sections 3 and 5; IRCv3 capability negotiation, message-tags, server-time
-- and draft/message-redaction).
use Rattle.std.specs.Prelude.{ℕ, Bool, ◌+◌, ◌==◌, ◌&&◌, nat_lt, true, List, [], ◌∷◌, ◌++◌, codes, Option, None, Some, if◌then◌else◌}
use Rattle.std.specs.Str.{str_eq_ignore_ascii_case}
use Rattle.irc_line.specs.Line.{Reading}
use Rattle.irc_caps.specs.declared.capability.Capability.TheVariants.{MessageRedaction, MessageTags}
use Rattle.irc_caps.specs.Words.{with_words, parts_of}
use Rattle.irc_caps.specs.Negotiation.{list_in}
use Rattle.chat_change.specs.Words.{is_star, is_target, is_id}
use Rattle.chat_change.specs.Buffer.{buffer_of}
use Rattle.chat_change.specs.Message.{Message}
use Rattle.chat_change.specs.declared.message.Kind.{Kind}
use Rattle.chat_change.specs.declared.message.Kind.TheVariants as kind
use Rattle.chat_change.specs.declared.change.Change.TheVariants as change
use Rattle.cluster_directory.specs.Entry.{after_join, after_part}
use Rattle.upstream_session.specs.declared.command.ServerCommand.{ServerCommand}
use Rattle.upstream_session.specs.declared.command.ServerCommand.TheVariants.{Cap, Welcome, Greeting, NickInUse, Ping, Nick, Join, Part, Kick, Error, Privmsg, Notice, Redact, Tagmsg, Other}
use Rattle.upstream_session.specs.declared.connection.TheConstants.{LAST_SERIAL, MOST_TRIES}
use Rattle.upstream_session.specs.declared.connection.ServerSession.{ServerSession}
use Rattle.upstream_session.specs.declared.effect.UpEffect.{UpEffect}
use Rattle.upstream_session.specs.declared.effect.UpEffect.TheVariants.{Send, Put, Relay}
use Rattle.irc_caps.specs.declared.recipients.Recipients.TheVariants.{All, Holding}
use Rattle.upstream_session.specs.Step.{ServerStep, stays, closes}
use Rattle.irc_reply.specs.ToServer.{nick_line, pong_line, cap_end, join_line, with_underscores}
use Rattle.irc_reply.specs.ToClient.{relayed_line, tagged_line}
use Rattle.irc_caps.specs.Offers.{with_offers, request}
use Rattle.upstream_session.specs.Messages.{is_same_nick, is_own, source_of, conversation, has_buffer, can_be_kept, stamp_of, made_id, kept_tags, post}

-- ---- lines that are passed on

abbrev pub relay_to_all : Reading → List ℕ → List UpEffect
relay_to_all line bytes = Relay (relayed_line line.source bytes) All ∷ []

-- once the network is up, a line is passed on as it is
abbrev pub pass_on : ServerSession → Reading → List ℕ → List UpEffect
pass_on u line bytes = if u.entry.is_up then relay_to_all line bytes else []

-- ---- CAP

-- `CAP * LS * :names`: more offers are to come
abbrev pub gather : ServerSession → List ℕ → ServerStep
gather u list = stays (record u { offered = with_offers u.offered (parts_of list) }) []

-- `CAP * LS :names`: these are the last
abbrev pub ask : ServerSession → List ℕ → ServerStep
ask u list =
    let offered = with_offers u.offered (parts_of list) in
    stays (record u { offered = offered }) (Send (request offered) ∷ [])

-- without a list nothing is offered
abbrev pub ls : ServerSession → List (List ℕ) → ServerStep
ls u (first ∷ list ∷ more) = if is_star first then gather u list else ask u first
ls u parameters = ask u (list_in parameters)

-- `CAP * ACK :names`: each name is held now, and each that `-` stands before isn't
abbrev pub ack : ServerSession → List ℕ → ServerStep
ack u list =
    let held = with_words u.held (parts_of list) in
    stays
    (record u { held = held; entry = record u.entry { takes_redact = held.message_redaction } })
    (Send cap_end ∷ [])

abbrev pub cap : ServerSession → List (List ℕ) → ServerStep
cap u (nick ∷ subcommand ∷ more) =
    if str_eq_ignore_ascii_case subcommand (codes "LS") then ls u more
    else if str_eq_ignore_ascii_case subcommand (codes "ACK") then ack u (list_in more)
    else if str_eq_ignore_ascii_case subcommand (codes "NAK") then stays u (Send cap_end ∷ [])
    else stays u []
cap u parameters = stays u []

-- ---- registration

-- the first parameter, where it is a nick or a channel
abbrev pub first_target : List (List ℕ) → Option (List ℕ)
first_target [] = None
first_target (word ∷ words) = if is_target word then Some word else None

abbrev pub with_nick : ServerSession → Option (List ℕ) → ServerSession
with_nick u None = u
with_nick u (Some nick) = record u { entry = record u.entry { nick = nick } }

abbrev pub with_network_up : ServerSession → ServerSession
with_network_up u = record u { entry = record u.entry { is_up = true } }

-- each configured channel is joined
abbrev pub joins : List (List ℕ) → List UpEffect
joins [] = []
joins (channel ∷ channels) = Send (join_line channel) ∷ joins channels

-- 001 (RPL_WELCOME)
abbrev pub welcome : ServerSession → List (List ℕ) → ServerStep
welcome u parameters =
    stays (with_network_up (with_nick u (first_target parameters))) (joins u.home.channels)

-- 433 (ERR_NICKNAMEINUSE) before 001: another nick is tried, three times
abbrev pub try_again : ServerSession → ServerStep
try_again u =
    if nat_lt u.tries MOST_TRIES
    then stays (record u { tries = u.tries + 1 })
    (Send (nick_line (with_underscores u.entry.nick (u.tries + 1))) ∷ [])
    else closes u

abbrev pub nick_in_use : ServerSession → Reading → List ℕ → ServerStep
nick_in_use u line bytes = if u.entry.is_up then stays u (relay_to_all line bytes) else try_again u

-- ---- PING

abbrev pub ping : ServerSession → Reading → List ℕ → List (List ℕ) → ServerStep
ping u line bytes [] = stays u (pass_on u line bytes)
ping u line bytes (word ∷ more) = stays u (Send (pong_line word) ∷ [])

-- ---- the present nick and the channels: once the network is up

abbrev pub join_if : ServerSession → Option (List ℕ) → ServerSession
join_if u None = u
join_if u (Some channel) = record u { entry = after_join u.entry channel }

abbrev pub leave : ServerSession → List (List ℕ) → ServerSession
leave u [] = u
leave u (channel ∷ more) = record u { entry = after_part u.entry channel }

abbrev pub put_out : ServerSession → List (List ℕ) → ServerSession
put_out u (channel ∷ nick ∷ more) =
    if is_same_nick nick u.entry.nick
    then record u { entry = after_part u.entry channel }
    else u
put_out u parameters = u

abbrev pub is_up_and_own : ServerSession → Reading → Bool
is_up_and_own u line = u.entry.is_up && is_own u (source_of u line.source)

-- NICK
abbrev pub nick : ServerSession → Reading → List ℕ → ServerStep
nick u line bytes =
    stays (if is_up_and_own u line then with_nick u (first_target line.parameters) else u)
    (pass_on u line bytes)

-- JOIN
abbrev pub join : ServerSession → Reading → List ℕ → ServerStep
join u line bytes =
    stays (if is_up_and_own u line then join_if u (first_target line.parameters) else u)
    (pass_on u line bytes)

-- the channel that the session itself joins by a JOIN
abbrev pub own_join : ServerSession → Reading → Option (List ℕ)
own_join u line = if is_up_and_own u line then first_target line.parameters else None

-- the channel that it joins by a line of that command
abbrev pub joined_by : ServerSession → Reading → ServerCommand → Option (List ℕ)
joined_by u line Join = own_join u line
joined_by u line _ = None

-- PART
abbrev pub part : ServerSession → Reading → List ℕ → ServerStep
part u line bytes =
    stays (if is_up_and_own u line then leave u line.parameters else u) (pass_on u line bytes)

-- KICK, whose second parameter says who is put out
abbrev pub kick : ServerSession → Reading → List ℕ → ServerStep
kick u line bytes =
    stays (if u.entry.is_up then put_out u line.parameters else u) (pass_on u line bytes)

-- ---- PRIVMSG and NOTICE

abbrev pub keep_by_id : ServerSession → Reading → List ℕ → Message → ℕ → Option (List ℕ) → ServerStep
keep_by_id u line bytes m at None = stays u (relay_to_all line bytes)
keep_by_id u line bytes m at (Some id) = record {
  session = record u { serial = u.serial + 1 };
  effects = post u id at (kept_tags line.tags) m ∷ [];
}

-- A message without an id of its own gets one that this node makes, unless the serial numbers are used up.
abbrev pub keep_made : ServerSession → Reading → List ℕ → Message → ℕ → ServerStep
keep_made u line bytes m at =
    if u.serial == LAST_SERIAL then closes u
    else keep_by_id u line bytes m at (made_id u.home u.serial)

abbrev pub keep_stamped : ServerSession → Reading → List ℕ → Message → Option (List ℕ) → ℕ → ServerStep
keep_stamped u line bytes m None at = keep_made u line bytes m at
keep_stamped u line bytes m (Some id) at = stays u (post u id at (kept_tags line.tags) m ∷ [])

abbrev pub keep : ServerSession → ℕ → Reading → List ℕ → Message → ServerStep
keep u now line bytes m =
    let stamp = stamp_of line.tags now in
    if can_be_kept u m
    then keep_stamped u line bytes m stamp.id stamp.at
    else stays u (relay_to_all line bytes)

abbrev pub message_from : ServerSession → Kind → Reading → List ℕ → List ℕ → Message
message_from u kind line target body =
    record { kind = kind; source = source_of u line.source; target = target; body = body }

abbrev pub message : ServerSession → ℕ → Kind → Reading → List ℕ → List (List ℕ) → ServerStep
message u now kind line bytes (target ∷ body ∷ more) =
    if u.entry.is_up
    then keep u now line bytes (message_from u kind line target body)
    else stays u []
message u now kind line bytes parameters = stays u (pass_on u line bytes)

-- ---- REDACT

abbrev pub redaction : ServerSession → List ℕ → List ℕ → List ℕ → List UpEffect
redaction u source target id =
    let talk = conversation u source target in
    if has_buffer u.home talk && is_id id
    then Put (change.Redact (buffer_of u.home.account u.home.network talk) id None) ∷ []
    else []

-- the redaction, and the line for the sessions that know of redactions
abbrev pub relay_redaction : ServerSession → Reading → List ℕ → List ℕ → List ℕ → List UpEffect
relay_redaction u line bytes target id =
    redaction u (source_of u line.source) target id
    ++ Relay (relayed_line line.source bytes) (Holding MessageRedaction) ∷ []

abbrev pub redact : ServerSession → Reading → List ℕ → List (List ℕ) → ServerStep
redact u line bytes (target ∷ id ∷ more) =
    if u.entry.is_up && u.entry.takes_redact
    then stays u (relay_redaction u line bytes target id)
    else stays u (pass_on u line bytes)
redact u line bytes parameters = stays u (pass_on u line bytes)

-- ---- TAGMSG

-- Once the network is up, it is passed on with its client-only tags, to the sessions that get tags (IRCv3 message-tags).
abbrev pub tagmsg : ServerSession → Reading → List ℕ → ServerStep
tagmsg u line bytes =
    if u.entry.is_up
    then stays u (Relay (tagged_line line.tags line.source bytes) (Holding MessageTags) ∷ [])
    else stays u []

-- ---- the table

abbrev pub serve : ServerSession → ℕ → List ℕ → Reading → ServerCommand → ServerStep
serve u now bytes line Cap = cap u line.parameters
serve u now bytes line Welcome = welcome u line.parameters
serve u now bytes line Greeting = stays u []
serve u now bytes line Tagmsg = tagmsg u line bytes
serve u now bytes line NickInUse = nick_in_use u line bytes
serve u now bytes line Ping = ping u line bytes line.parameters
serve u now bytes line Error = closes u
serve u now bytes line Nick = nick u line bytes
serve u now bytes line Join = join u line bytes
serve u now bytes line Part = part u line bytes
serve u now bytes line Kick = kick u line bytes
serve u now bytes line Privmsg = message u now kind.Privmsg line bytes line.parameters
serve u now bytes line Notice = message u now kind.Notice line bytes line.parameters
serve u now bytes line Redact = redact u line bytes line.parameters
serve u now bytes line Other = stays u (pass_on u line bytes)
