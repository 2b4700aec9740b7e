-- Lists of what happens to a session: lines, lines that were too long to be taken in, and answers.
use Rattle.std.specs.Prelude.{◌≡◌, ℕ, Bool, true, false, ◌||◌, List, [], ◌∷◌, ◌++◌, codes, Option, None, Some, Result, Ok, Err, IsSome, if◌then◌else◌}
use Rattle.irc_line.specs.declared.line.LineFault.{LineFault}
use Rattle.irc_line.specs.declared.line.TagLimit.TheVariants.{Client}
use Rattle.irc_line.specs.Line.{Reading}
use Rattle.irc_line.specs.Read.{read}
use Rattle.irc_caps.specs.Negotiation.{is_same_word}
use Rattle.chat_change.specs.Words.{is_target}
use Rattle.chat_change.specs.declared.change.Change.{Change}
use Rattle.chat_change.specs.declared.change.Change.TheVariants.{Mark}
use Rattle.chat_query.specs.declared.facts.Facts.{Facts}
use Rattle.chat_query.specs.declared.facts.Answered.{Answered}
use Rattle.cluster_directory.specs.Directory.{Directory, Account, account_in, entry_in}
use Rattle.client_session.specs.Command.{command_of}
use Rattle.client_session.specs.declared.command.ClientCommand as commands
use Rattle.client_session.specs.declared.command.ClientCommand.TheVariants as command
use Rattle.client_session.specs.declared.effect.Effect.{Effect}
use Rattle.client_session.specs.declared.effect.Effect.TheVariants.{Send, Put, Ask, Upstream, Close}
use Rattle.client_session.specs.declared.stage.Stage.{Stage}
use Rattle.client_session.specs.declared.stage.Stage.TheVariants.{Waiting, Registered, Closed}
use Rattle.client_session.specs.Registration.{account_of, network_of, user_name}
use Rattle.client_session.specs.Session.{step, too_long, session_after}

-- A line comes with the directory of its moment, and with whether the message is shown that it names if it is a REDACT.
pub data ClientEvent : Type 0 where
  Line : Directory → Bool → List ℕ → ClientEvent
  CutLine : Directory → ClientEvent
  Answer : Answered → ClientEvent

abbrev pub after : Stage → ClientEvent → Stage
after session (Line directory shown bytes) = (step directory shown session bytes).session
after session (CutLine directory) = (too_long directory session).session
after session (Answer a) = session_after session a

abbrev pub effects_of : Stage → ClientEvent → List Effect
effects_of session (Line directory shown bytes) = (step directory shown session bytes).effects
effects_of session (CutLine directory) = (too_long directory session).effects
effects_of session (Answer a) = []

-- the session after a list of events
abbrev pub run : Stage → List ClientEvent → Stage
run session [] = session
run session (event ∷ events) = run (after session event) events

-- ---- what a session claims before registration

-- the last password, the last user name, whether a NICK came, and whether registration is held back
pub record Claim : Type 0 where
  pub password : List ℕ
  pub user : Option (List ℕ)
  pub has_nick : Bool
  pub is_held : Bool

-- before any line the password is the empty one
abbrev pub no_claim : Claim
no_claim = record { password = []; user = None; has_nick = false; is_held = false }

-- `CAP LS` and `CAP REQ` hold registration back, `CAP END` ends that
abbrev pub is_held_after : Bool → List (List ℕ) → Bool
is_held_after was [] = was
is_held_after was (subcommand ∷ more) =
    if is_same_word subcommand (codes "LS") then true
    else if is_same_word subcommand (codes "LIST") then was
    else if is_same_word subcommand (codes "REQ") then true
    else if is_same_word subcommand (codes "END") then false
    else was

abbrev pub password_after : List ℕ → List (List ℕ) → List ℕ
password_after last [] = last
password_after last (password ∷ more) = password

abbrev pub user_after : Option (List ℕ) → Option (List ℕ) → Option (List ℕ)
user_after last None = last
user_after last (Some name) = Some name

abbrev pub is_nick : List (List ℕ) → Bool
is_nick [] = false
is_nick (nick ∷ more) = is_target nick

abbrev pub claim_by_command : Claim → commands.ClientCommand → List (List ℕ) → Claim
claim_by_command g command.Cap ps = record g { is_held = is_held_after g.is_held ps }
claim_by_command g command.Pass ps = record g { password = password_after g.password ps }
claim_by_command g command.Nick ps = record g { has_nick = g.has_nick || is_nick ps }
claim_by_command g command.User ps = record g { user = user_after g.user (user_name ps) }
claim_by_command g _ ps = g

abbrev pub claim_by_reading : Claim → Result Reading LineFault → Claim
claim_by_reading g (Err fault) = g
claim_by_reading g (Ok line) = claim_by_command g (command_of line.command) line.parameters

abbrev pub claim_by_event : Claim → ClientEvent → Claim
claim_by_event g (Line directory shown bytes) = claim_by_reading g (read Client bytes)
claim_by_event g (CutLine directory) = g
claim_by_event g (Answer a) = g

-- the claim after a list of events
abbrev pub claim_after : Claim → List ClientEvent → Claim
claim_after g [] = g
claim_after g (event ∷ events) = claim_after (claim_by_event g event) events

-- ---- who is let in

abbrev pub HasSecret : Option Account → List ℕ → Type 0
HasSecret None password = ⊥
HasSecret (Some account) password = account.secret ≡ password

-- the user name is that of the account and the network
abbrev pub IsUserOf : Facts → Option (List ℕ) → Type 0
IsUserOf f None = ⊥
IsUserOf f (Some user) = (account_of user ≡ f.account) × (network_of user ≡ f.network)

-- by this directory, the claim is let in to the account and the network
pub record IsLetIn (directory : Directory) (f : Facts) (g : Claim) : Type 0 where
  pub secret : HasSecret (account_in directory f.account) g.password
  pub network : IsSome (entry_in directory f.account f.network)
  pub user : IsUserOf f g.user
  pub nick : g.has_nick ≡ true
  pub free : g.is_held ≡ false

-- One of the events is a line by whose directory the claim so far, this line included, is let in.
abbrev pub WasLetIn : List ClientEvent → Facts → Type 0
WasLetIn events f = (before : List ClientEvent) × (directory : Directory) × (shown : Bool)
    × (bytes : List ℕ) × (later : List ClientEvent)
    × (events ≡ before ++ Line directory shown bytes ∷ later)
    × IsLetIn directory f (claim_after no_claim (before ++ Line directory shown bytes ∷ []))

-- ---- effects

abbrev pub IsRegistered : Stage → Type 0
IsRegistered (Waiting w) = ⊥
IsRegistered (Registered f) = Unit {0}
IsRegistered Closed = ⊥

-- a line to the client, or the end
abbrev pub IsAnswer : Effect → Type 0
IsAnswer (Send bytes) = Unit {0}
IsAnswer (Put change) = ⊥
IsAnswer (Ask line) = ⊥
IsAnswer (Upstream bytes) = ⊥
IsAnswer Close = Unit {0}

-- a line to the client, or a question about the past
abbrev pub IsGreeting : Effect → Type 0
IsGreeting (Send bytes) = Unit {0}
IsGreeting (Put change) = ⊥
IsGreeting (Ask line) = Unit {0}
IsGreeting (Upstream bytes) = ⊥
IsGreeting Close = ⊥

-- a marker of a buffer of the account and the network
abbrev pub IsMarkOf : Facts → Change → Type 0
IsMarkOf f (Mark buffer at) = (buffer.account ≡ f.account) × (buffer.network ≡ f.network)
IsMarkOf f _ = ⊥

abbrev pub IsOwnChange : Stage → Change → Type 0
IsOwnChange (Waiting w) change = ⊥
IsOwnChange (Registered f) change = IsMarkOf f change
IsOwnChange Closed change = ⊥

abbrev pub IsOwnEffect : Stage → Effect → Type 0
IsOwnEffect session (Put change) = IsOwnChange session change
IsOwnEffect session _ = Unit {0}

-- closed, or registered with that account and that network
abbrev pub IsOfSame : Facts → Stage → Type 0
IsOfSame f (Waiting w) = ⊥
IsOfSame f (Registered g) = (g.account ≡ f.account) × (g.network ≡ f.network)
IsOfSame f Closed = Unit {0}

abbrev pub HasClose : List Effect → Type 0
HasClose [] = ⊥
HasClose (Close ∷ effects) = Unit {0}
HasClose (_ ∷ effects) = HasClose effects

-- nothing stands behind Close
abbrev pub EndsAtClose : List Effect → Type 0
EndsAtClose [] = Unit {0}
EndsAtClose (Close ∷ effects) = effects ≡ []
EndsAtClose (_ ∷ effects) = EndsAtClose effects

abbrev pub IsClosed : Stage → Type 0
IsClosed (Waiting w) = ⊥
IsClosed (Registered f) = ⊥
IsClosed Closed = Unit {0}
