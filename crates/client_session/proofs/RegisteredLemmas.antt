-- What a line after registration can do: one statement for all rows of its table.
use Rattle.std.proofs.Common.{◌≡◌, ℕ, Bool, not, ◌&&◌, List, [], ◌∷◌, ◌++◌, Option, None, Some, Ok, Err, Result, refl, codes}
use Rattle.std.specs.List.{AllByRecursion}
use Rattle.irc_line.specs.declared.line.LineFault.{LineFault}
use Rattle.irc_line.specs.declared.line.LineFault.TheVariants.{Empty, TagsTooLong, TooLong, BadByte, NoCommand}
use Rattle.irc_line.specs.Line.{Reading}
use Rattle.chat_change.specs.Words.{is_id}
use Rattle.chat_query.specs.Parameters.{moment_of, first_of}
use Rattle.chat_query.specs.Buffers.{has_buffer}
use Rattle.chat_query.specs.declared.facts.Facts.{Facts}
use Rattle.cluster_directory.specs.Entry.{Entry}
use Rattle.cluster_directory.specs.Directory.{Directory, entry_in}
use Rattle.client_session.specs.Command.{command_of}
use Rattle.client_session.specs.Step.{Step, refusal, ping}
use Rattle.client_session.specs.Registration.{user_name}
use Rattle.client_session.specs.Registered.{stays, is_up, takes_redact, with_nick_of, upstream, answer_if, pass, user_if, nick_unless, with_capability, marker_put, markread_put, redact_named, redact_of, after_registration}
use Rattle.client_session.specs.Session.{facts_now, refuse, reading_step}
use Rattle.client_session.specs.Events.{IsAnswer, IsMarkOf}
use Rattle.client_session.specs.declared.command.ClientCommand.{ClientCommand}
use Rattle.client_session.specs.declared.command.ClientCommand.TheVariants.{Cap, Pass, Nick, User, Ping, Pong, Quit, Chathistory, Markread, Redact, Message, Other}
use Rattle.client_session.specs.declared.effect.Effect.{Effect}
use Rattle.client_session.specs.declared.effect.Effect.TheVariants.{Send, Put, Ask, Upstream, Close}
use Rattle.client_session.specs.declared.stage.Stage.TheVariants as stage
use Rattle.client_session.proofs.RegistrationLemmas.{IsEnd, either}

-- an effect of a session that goes on
abbrev pub IsServed : Facts → Effect → Type 0
IsServed f (Send bytes) = Unit {0}
IsServed f (Put change) = IsMarkOf f change
IsServed f (Ask line) = Unit {0}
IsServed f (Upstream bytes) = Unit {0}
IsServed f Close = ⊥

abbrev pub AreServed : Facts → List Effect → Type 0
AreServed f effects = AllByRecursion (IsServed f) effects

abbrev pub SameNetwork : Facts → Facts → Type 0
SameNetwork g f = (g.account ≡ f.account) × (g.network ≡ f.network)

-- still registered, as the same account on the same network, or closed
pub data Course (f : Facts) (s : Step) : Type 0 where
  registered : (g : Facts) → s.session ≡ stage.Registered g → SameNetwork g f → AreServed f s.effects → Course f s
  closed : s.session ≡ stage.Closed → AllByRecursion IsAnswer s.effects → IsEnd s.effects → Course f s

stays_on : (f : Facts) (effects : List Effect) → AreServed f effects → Course f (stays f effects)
stays_on f effects all = registered f refl (refl, refl) all

answer_served : (f : Facts) (line : Option (List ℕ)) → AreServed f (answer_if line)
answer_served f None = tt
answer_served f (Some text) = (tt, tt)

upstream_served : (f : Facts) (entry : Option Entry) (line : List ℕ) → AreServed f (upstream entry f line)
upstream_served f entry line = either (AreServed f) (is_up entry) (tt, tt) (tt, tt)

ping_served : (f : Facts) (cluster nick : List ℕ) (ps : List (List ℕ)) → AreServed f (ping cluster nick ps)
ping_served f cluster nick [] = (tt, tt)
ping_served f cluster nick (word ∷ more) = (tt, tt)

pass_served : (f : Facts) (ps : List (List ℕ)) → AreServed f (pass f ps)
pass_served f [] = (tt, tt)
pass_served f (a ∷ more) = (tt, tt)

user_served : (f : Facts) (name : Option (List ℕ)) → AreServed f (user_if f name)
user_served f None = (tt, tt)
user_served f (Some name) = (tt, tt)

nick_served : (f : Facts) (entry : Option Entry) (ps : List (List ℕ)) (r : Option (List ℕ)) → AreServed f (nick_unless entry f ps r)
nick_served f entry ps None = upstream_served f entry _
nick_served f entry ps (Some text) = (tt, tt)

capable_served : (f : Facts) (has : Bool) (command : List ℕ) (effects : List Effect) → AreServed f effects → AreServed f (with_capability has f command effects)
capable_served f has command effects all = either (AreServed f) has all (tt, tt)

marker_served : (f : Facts) (target bytes : List ℕ) (at : Option ℕ) → AreServed f (marker_put f target at ++ Ask bytes ∷ [])
marker_served f target bytes None = (tt, tt)
marker_served f target bytes (Some at) = either (λ l. AreServed f (l ++ Ask bytes ∷ [])) (has_buffer f target) ((refl, refl), (tt, tt)) (tt, tt)

markread_served : (f : Facts) (bytes : List ℕ) (ps : List (List ℕ)) → AreServed f (markread_put f ps ++ Ask bytes ∷ [])
markread_served f bytes [] = (tt, tt)
markread_served f bytes (a ∷ []) = (tt, tt)
markread_served f bytes (a ∷ b ∷ more) = marker_served f a bytes (moment_of b)

named_served : (f : Facts) (entry : Option Entry) (shown : Bool) (target id : List ℕ) (reason : Option (List ℕ))
    → AreServed f (redact_named entry f shown target id reason)
named_served f entry shown target id reason =
    either (AreServed f) (not (has_buffer f target)) (tt, tt)
    (either (AreServed f) (not (is_id id && shown)) (tt, tt)
    (either (AreServed f) (not (takes_redact entry)) (tt, tt) (tt, tt)))

redact_served : (f : Facts) (entry : Option Entry) (shown : Bool) (ps : List (List ℕ)) → AreServed f (redact_of entry f shown ps)
redact_served f entry shown [] = (tt, tt)
redact_served f entry shown (a ∷ []) = (tt, tt)
redact_served f entry shown (a ∷ b ∷ more) = named_served f entry shown a b (first_of more)

row_after : (entry : Option Entry) (f : Facts) (shown : Bool) (bytes : List ℕ) (command : ClientCommand) (line : Reading)
    → Course f (after_registration entry f shown bytes command line)
row_after entry f shown bytes Cap line = registered _ refl (refl, refl) (answer_served f _)
row_after entry f shown bytes Quit line = closed refl (tt, (tt, tt)) (refl, tt)
row_after entry f shown bytes Ping line = stays_on f _ (ping_served f _ _ line.parameters)
row_after entry f shown bytes Pass line = stays_on f _ (pass_served f line.parameters)
row_after entry f shown bytes User line = stays_on f _ (user_served f (user_name line.parameters))
row_after entry f shown bytes Pong line = stays_on f _ tt
row_after entry f shown bytes Nick line = stays_on f _ (nick_served f entry line.parameters _)
row_after entry f shown bytes Chathistory line = stays_on f _ (capable_served f f.caps.chathistory (codes "CHATHISTORY") _ (tt, tt))
row_after entry f shown bytes Markread line = stays_on f _ (capable_served f f.caps.read_marker (codes "MARKREAD") _ (markread_served f bytes line.parameters))
row_after entry f shown bytes Redact line = stays_on f _ (capable_served f f.caps.message_redaction (codes "REDACT") _ (redact_served f entry shown line.parameters))
row_after entry f shown bytes Message line = stays_on f _ (upstream_served f entry _)
row_after entry f shown bytes Other line = stays_on f _ (upstream_served f entry _)

refusal_served : (f : Facts) (cluster nick : List ℕ) (fault : LineFault) → AreServed f (refusal cluster nick fault)
refusal_served f cluster nick Empty = tt
refusal_served f cluster nick TagsTooLong = (tt, tt)
refusal_served f cluster nick TooLong = (tt, tt)
refusal_served f cluster nick BadByte = (tt, tt)
refusal_served f cluster nick NoCommand = (tt, tt)

-- the nick is no matter
with_nick : (entry : Option Entry) (f : Facts) (s : Step) → Course (with_nick_of entry f) s → Course f s
with_nick None f s course = course
with_nick (Some entry) f s (registered g is same all) = registered g is same all
with_nick (Some entry) f s (closed is all end) = closed is all end

pub refused_after : (directory : Directory) (f : Facts) (fault : LineFault) → Course f (refuse (facts_now directory f) fault)
refused_after directory f fault =
    with_nick (entry_in directory f.account f.network) f _ (stays_on (facts_now directory f) _ (refusal_served (facts_now directory f) _ _ fault))

pub line_after : (directory : Directory) (shown : Bool) (f : Facts) (bytes : List ℕ) (reading : Result Reading LineFault)
    → Course f (reading_step directory shown (stage.Registered f) bytes reading)
line_after directory shown f bytes (Err fault) = refused_after directory f fault
line_after directory shown f bytes (Ok line) =
    with_nick (entry_in directory f.account f.network) f _
    (row_after (entry_in directory f.account f.network) (facts_now directory f) shown bytes (command_of line.command) line)
