-- A session before its registration (RFC 2812, section 3.1): what each command does.
use Rattle.std.specs.Prelude.{ℕ, ◌+◌, ◌==◌, true, not, ◌&&◌, List, [], ◌∷◌, ◌++◌, codes, take, drop, Option, None, Some, position, if◌then◌else◌}
use Rattle.irc_caps.specs.declared.CapSet.{CapSet}
use Rattle.irc_caps.specs.Negotiation.{is_held, cap_answer}
use Rattle.irc_reply.specs.Reply.{need_more_params}
use Rattle.chat_query.specs.declared.facts.Facts.{Facts}
use Rattle.cluster_directory.specs.Entry.{Entry}
use Rattle.cluster_directory.specs.Directory.{Directory, entry_by_secret}
use Rattle.irc_reply.specs.ToClient.{no_nick, welcome, support, no_motd, not_registered, password_incorrect, closing_link, join_line, marker_question}
use Rattle.client_session.specs.declared.command.ClientCommand.{ClientCommand}
use Rattle.client_session.specs.declared.command.ClientCommand.TheVariants.{Cap, Pass, Nick, User, Ping, Pong, Quit}
use Rattle.client_session.specs.declared.effect.Effect.{Effect}
use Rattle.client_session.specs.declared.effect.Effect.TheVariants.{Send, Ask, Close}
use Rattle.client_session.specs.declared.stage.Waiting.{Waiting}
use Rattle.client_session.specs.declared.stage.Stage.TheVariants as stage
use Rattle.client_session.specs.Step.{Step, answer, ping, quit, nick_refusal}

abbrev pub waits : Waiting → List Effect → Step
waits w effects = record { session = stage.Waiting w; effects = effects }

-- ---- the account and the network that USER gives, `account/network`

abbrev pub slash_in : List ℕ → Option ℕ
slash_in user = position (λ b. b == 47) user

abbrev pub account_to : Option ℕ → List ℕ → List ℕ
account_to None user = user
account_to (Some at) user = take at user

abbrev pub network_from : Option ℕ → List ℕ → List ℕ
network_from None user = []
network_from (Some at) user = drop (at + 1) user

abbrev pub account_of : List ℕ → List ℕ
account_of user = account_to (slash_in user) user

abbrev pub network_of : List ℕ → List ℕ
network_of user = network_from (slash_in user) user

-- ---- registration

-- the question of a channel's marker, for a session that has `draft/read-marker`
abbrev pub marker_questions : CapSet → List ℕ → List Effect
marker_questions caps channel = if caps.read_marker then Ask (marker_question channel) ∷ [] else []

-- a channel that the network is in
abbrev pub channel_lines : List ℕ → CapSet → List ℕ → List Effect
channel_lines nick caps channel = Send (join_line nick channel) ∷ marker_questions caps channel

abbrev pub channels_lines : List ℕ → CapSet → List (List ℕ) → List Effect
channels_lines nick caps [] = []
channels_lines nick caps (channel ∷ channels) =
    channel_lines nick caps channel ++ channels_lines nick caps channels

-- what a session is greeted with
abbrev pub greeting : Facts → List (List ℕ) → List Effect
greeting f channels =
    Send (welcome f.cluster f.nick f.network)
    ∷ Send (support f.cluster f.nick f.maximum)
    ∷ Send (no_motd f.cluster f.nick)
    ∷ channels_lines f.nick f.caps channels

-- the facts of a session that is let in: its nick is the network's present nick
abbrev pub facts_of : Waiting → List ℕ → Entry → Facts
facts_of w user entry = record {
  account = account_of user;
  network = network_of user;
  nick = entry.nick;
  caps = w.negotiation.caps;
  reference = 1;
  cluster = w.cluster;
  maximum = w.maximum;
}

-- the account, the network or the secret is wrong
abbrev pub turn_away : Waiting → Step
turn_away w = record {
  session = stage.Closed;
  effects = Send (password_incorrect w.cluster) ∷ Send closing_link ∷ Close ∷ [];
}

abbrev pub let_in : Waiting → List ℕ → Entry → Step
let_in w user entry = record {
  session = stage.Registered (facts_of w user entry);
  effects = greeting (facts_of w user entry) entry.channels;
}

abbrev pub let_in_if : Waiting → List ℕ → Option Entry → Step
let_in_if w user None = turn_away w
let_in_if w user (Some entry) = let_in w user entry

abbrev pub register : Directory → Waiting → List ℕ → Step
register directory w user =
    let_in_if w user (entry_by_secret directory (account_of user) (network_of user) w.password)

-- Once NICK and USER have come and nothing holds registration back, the session is let in or turned away.
abbrev pub settle_user : Directory → Waiting → Option (List ℕ) → Step
settle_user directory w None = waits w []
settle_user directory w (Some user) =
    if w.has_nick && not (is_held w.negotiation.registration)
    then register directory w user
    else waits w []

abbrev pub settle : Directory → Waiting → Step
settle directory w = settle_user directory w w.user

-- ---- the commands

-- the negotiation goes on; `CAP END` has no answer, and may be the last that was missing
abbrev pub answer_or_settle : Directory → Waiting → Option (List ℕ) → Step
answer_or_settle directory w None = settle directory w
answer_or_settle directory w (Some line) = waits w (answer line)

-- CAP
abbrev pub cap : Directory → Waiting → List (List ℕ) → Step
cap directory w parameters =
    let a = cap_answer w.cluster no_nick w.negotiation parameters in
    answer_or_settle directory (record w { negotiation = a.negotiation }) a.line

-- PASS
abbrev pub pass : Waiting → List (List ℕ) → Step
pass w [] = waits w (answer (need_more_params w.cluster no_nick (codes "PASS")))
pass w (password ∷ more) = waits (record w { password = password }) []

abbrev pub nick_unless : Directory → Waiting → Option (List ℕ) → Step
nick_unless directory w None = settle directory (record w { has_nick = true })
nick_unless directory w (Some refusal) = waits w (answer refusal)

-- NICK
abbrev pub nick : Directory → Waiting → List (List ℕ) → Step
nick directory w parameters =
    nick_unless directory w (nick_refusal w.cluster no_nick parameters)

-- the first of the four parameters of USER
abbrev pub user_name : List (List ℕ) → Option (List ℕ)
user_name (name ∷ mode ∷ unused ∷ real_name ∷ more) = Some name
user_name _ = None

abbrev pub user_if : Directory → Waiting → Option (List ℕ) → Step
user_if directory w None =
    waits w (answer (need_more_params w.cluster no_nick (codes "USER")))
user_if directory w (Some name) = settle directory (record w { user = Some name })

-- USER
abbrev pub user : Directory → Waiting → List (List ℕ) → Step
user directory w parameters = user_if directory w (user_name parameters)

-- the table of the commands before registration
abbrev pub before_registration : Directory → Waiting → ClientCommand → List (List ℕ) → Step
before_registration directory w Cap parameters = cap directory w parameters
before_registration directory w Pass parameters = pass w parameters
before_registration directory w Nick parameters = nick directory w parameters
before_registration directory w User parameters = user directory w parameters
before_registration directory w Ping parameters = waits w (ping w.cluster no_nick parameters)
before_registration directory w Pong parameters = waits w []
before_registration directory w Quit parameters = quit
before_registration directory w _ parameters = waits w (answer (not_registered w.cluster))
