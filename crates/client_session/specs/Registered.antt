-- A session after its registration: what each command does.
use Rattle.std.specs.Prelude.{ℕ, Bool, false, not, ◌&&◌, List, [], ◌∷◌, ◌++◌, codes, take, Option, None, Some, if◌then◌else◌}
use Rattle.irc_reply.specs.Reply.{unknown_text, need_more_params, plain_line}
use Rattle.irc_line.specs.Line.{Reading}
use Rattle.irc_caps.specs.Negotiation.{registered, cap_answer}
use Rattle.chat_change.specs.Words.{is_id}
use Rattle.chat_change.specs.Buffer.{buffer_of}
use Rattle.chat_change.specs.declared.change.Change.TheVariants.{Mark}
use Rattle.chat_query.specs.Parameters.{moment_of, first_of}
use Rattle.chat_query.specs.Buffers.{has_buffer}
use Rattle.chat_query.specs.declared.facts.Facts.{Facts}
use Rattle.cluster_directory.specs.Entry.{Entry}
use Rattle.irc_reply.specs.ToClient.{may_not_reregister, not_connected, redact_needs_more, redact_bad_target, redact_unknown_id, redact_forbidden}
use Rattle.irc_reply.specs.ToServer.{passed_line, tagged_line}
use Rattle.client_session.specs.declared.command.ClientCommand.{ClientCommand}
use Rattle.client_session.specs.declared.command.ClientCommand.TheVariants.{Cap, Pass, Nick, User, Ping, Pong, Quit, Chathistory, Markread, Redact, Message, Other}
use Rattle.client_session.specs.declared.effect.Effect.{Effect}
use Rattle.client_session.specs.declared.effect.Effect.TheVariants.{Put, Ask, Upstream}
use Rattle.client_session.specs.declared.stage.Stage.TheVariants as stage
use Rattle.client_session.specs.Step.{Step, answer, ping, quit, nick_refusal}
use Rattle.client_session.specs.Registration.{user_name}

abbrev pub stays : Facts → List Effect → Step
stays f effects = record { session = stage.Registered f; effects = effects }

-- ---- the network, where the directory has it

abbrev pub is_up : Option Entry → Bool
is_up None = false
is_up (Some entry) = entry.is_up

abbrev pub takes_redact : Option Entry → Bool
takes_redact None = false
takes_redact (Some entry) = entry.is_up && entry.takes_redact

-- the session's nick is the network's present nick
abbrev pub with_nick_of : Option Entry → Facts → Facts
with_nick_of None f = f
with_nick_of (Some entry) f = record f { nick = entry.nick }

-- a line for the network's server, where that is up
abbrev pub upstream : Option Entry → Facts → List ℕ → List Effect
upstream entry f line =
    if is_up entry then Upstream line ∷ [] else answer (not_connected f.cluster f.nick f.network)

-- ---- CAP, PASS, USER, NICK

abbrev pub answer_if : Option (List ℕ) → List Effect
answer_if None = []
answer_if (Some line) = answer line

abbrev pub cap : Facts → List (List ℕ) → Step
cap f parameters =
    let a = cap_answer f.cluster f.nick (registered f.caps) parameters in
    stays (record f { caps = a.negotiation.caps }) (answer_if a.line)

abbrev pub need_more : Facts → List ℕ → List Effect
need_more f command = answer (need_more_params f.cluster f.nick command)

abbrev pub pass : Facts → List (List ℕ) → List Effect
pass f [] = need_more f (codes "PASS")
pass f _ = answer (may_not_reregister f.cluster f.nick)

abbrev pub user_if : Facts → Option (List ℕ) → List Effect
user_if f None = need_more f (codes "USER")
user_if f (Some name) = answer (may_not_reregister f.cluster f.nick)

abbrev pub user : Facts → List (List ℕ) → List Effect
user f parameters = user_if f (user_name parameters)

abbrev pub nick_unless : Option Entry → Facts → List (List ℕ) → Option (List ℕ) → List Effect
nick_unless entry f parameters None =
    upstream entry f (plain_line (codes "NICK") (take 1 parameters) None)
nick_unless entry f parameters (Some refusal) = answer refusal

abbrev pub nick : Option Entry → Facts → List (List ℕ) → List Effect
nick entry f parameters =
    nick_unless entry f parameters (nick_refusal f.cluster f.nick parameters)

-- ---- the commands that hang on a capability (IRCv3 draft/chathistory, draft/read-marker, draft/message-redaction)

abbrev pub with_capability : Bool → Facts → List ℕ → List Effect → List Effect
with_capability has f command effects =
    if has then effects else answer (unknown_text f.cluster f.nick command)

-- CHATHISTORY is asked as it came
abbrev pub chathistory : Facts → List ℕ → List Effect
chathistory f bytes = with_capability f.caps.chathistory f (codes "CHATHISTORY") (Ask bytes ∷ [])

abbrev pub marker_put : Facts → List ℕ → Option ℕ → List Effect
marker_put f target None = []
marker_put f target (Some at) =
    if has_buffer f target then Put (Mark (buffer_of f.account f.network target) at) ∷ [] else []

-- `MARKREAD target timestamp=time` puts a marker
abbrev pub markread_put : Facts → List (List ℕ) → List Effect
markread_put f (target ∷ word ∷ more) = marker_put f target (moment_of word)
markread_put f _ = []

-- each MARKREAD is asked as it came, behind its marker
abbrev pub markread : Facts → List ℕ → List (List ℕ) → List Effect
markread f bytes parameters =
    with_capability f.caps.read_marker f (codes "MARKREAD")
    (markread_put f parameters ++ Ask bytes ∷ [])

-- `REDACT target id [reason]`, where it is known whether the buffer shows a message of that id
abbrev pub redact_named :
    Option Entry → Facts → Bool → List ℕ → List ℕ → Option (List ℕ) → List Effect
redact_named entry f shown target id reason =
    if not (has_buffer f target) then answer (redact_bad_target f.cluster)
    else if not (is_id id && shown) then answer (redact_unknown_id f.cluster target)
    else if not (takes_redact entry) then answer (redact_forbidden f.cluster target)
    else Upstream (plain_line (codes "REDACT") (target ∷ id ∷ []) reason) ∷ []

abbrev pub redact_of : Option Entry → Facts → Bool → List (List ℕ) → List Effect
redact_of entry f shown (target ∷ id ∷ more) = redact_named entry f shown target id (first_of more)
redact_of entry f shown _ = answer (redact_needs_more f.cluster)

abbrev pub redact : Option Entry → Facts → Bool → List (List ℕ) → List Effect
redact entry f shown parameters =
    with_capability f.caps.message_redaction f (codes "REDACT") (redact_of entry f shown parameters)

-- ---- the tables

-- What the commands do that leave the session as it is. A message goes on with its client-only tags, any other line
-- without tags.
abbrev pub effects :
    Option Entry → Facts → Bool → List ℕ → ClientCommand → Reading → List Effect
effects entry f shown bytes Cap line = []
effects entry f shown bytes Quit line = []
effects entry f shown bytes Pong line = []
effects entry f shown bytes Pass line = pass f line.parameters
effects entry f shown bytes User line = user f line.parameters
effects entry f shown bytes Ping line = ping f.cluster f.nick line.parameters
effects entry f shown bytes Nick line = nick entry f line.parameters
effects entry f shown bytes Chathistory line = chathistory f bytes
effects entry f shown bytes Markread line = markread f bytes line.parameters
effects entry f shown bytes Redact line = redact entry f shown line.parameters
effects entry f shown bytes Message line = upstream entry f (tagged_line line.tags bytes)
effects entry f shown bytes Other line = upstream entry f (passed_line bytes)

-- the table of the commands after registration
abbrev pub after_registration :
    Option Entry → Facts → Bool → List ℕ → ClientCommand → Reading → Step
after_registration entry f shown bytes Cap line = cap f line.parameters
after_registration entry f shown bytes Quit line = quit
after_registration entry f shown bytes command line =
    stays f (effects entry f shown bytes command line)
