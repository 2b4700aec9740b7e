-- What a line before registration can do: one statement for all rows of its table.
use Rattle.std.proofs.Common.{◌≡◌, ℕ, Bool, true, false, not, ◌&&◌, ◌||◌, ◌==◌, List, [], ◌∷◌, ◌++◌, Option, None, Some, Ok, Err, Result, refl, sym, ap, ◌∙◌, subst, IsSome, length, arith}
use Rattle.std.specs.List.{AllByRecursion}
use Rattle.std.specs.Prelude.{if◌then◌else◌, is_none}
use Rattle.std.specs.Str.{bytes_eq}
use Rattle.std.proofs.lemmas.Slice.Eq.{bytes_eq-Decides}
use Rattle.std.proofs.lemmas.Bool.{eqb-true}
use Rattle.irc_line.specs.declared.line.LineFault.{LineFault}
use Rattle.irc_line.specs.declared.line.LineFault.TheVariants.{Empty, TagsTooLong, TooLong, BadByte, NoCommand}
use Rattle.irc_line.specs.Line.{Reading}
use Rattle.irc_caps.specs.declared.CapSet.{CapSet}
use Rattle.irc_caps.specs.Negotiation.{is_held, cap_answer}
use Rattle.chat_change.specs.Words.{is_target}
use Rattle.chat_query.specs.declared.facts.Facts.{Facts}
use Rattle.cluster_directory.specs.Entry.{Entry}
use Rattle.cluster_directory.specs.Directory.{Directory, Account, account_in, entry_of, entry_of_account, entry_if_secret, entry_by_secret}
use Rattle.irc_reply.specs.ToClient.{no_nick}
use Rattle.client_session.specs.Command.{command_of}
use Rattle.client_session.specs.Step.{Step, answer, refusal, ping, nick_refusal}
use Rattle.client_session.specs.Registration.{waits, account_of, network_of, channels_lines, facts_of, let_in_if, register, settle_user, settle, answer_or_settle, cap, pass, nick_unless, nick, user_name, user_if, user, before_registration}
use Rattle.client_session.specs.Session.{reading_step}
use Rattle.client_session.specs.Events.{Claim, IsAnswer, IsGreeting, IsLetIn, IsUserOf, HasSecret, HasClose, EndsAtClose, user_after, is_nick, claim_by_command, claim_by_reading}
use Rattle.client_session.specs.declared.command.ClientCommand.{ClientCommand}
use Rattle.client_session.specs.declared.command.ClientCommand.TheVariants.{Cap, Pass, Nick, User, Ping, Pong, Quit}
use Rattle.client_session.specs.declared.effect.Effect.{Effect}
use Rattle.client_session.specs.declared.effect.Effect.TheVariants.{Send, Put, Ask, Upstream, Close}
use Rattle.client_session.specs.declared.stage.Waiting.{Waiting}
use Rattle.client_session.specs.declared.stage.Stage.TheVariants as stage
use Rattle.client_session.proofs.HeldLemmas.{IsToCome, cap_leaves}

-- what holds of both branches holds of the choice
pub either : {A : Type 0} (P : A → Type 0) (b : Bool) {x y : A} → P x → P y → P (if b then x else y)
either P true p q = p
either P false p q = q

abbrev pub IsSend : Effect → Type 0
IsSend (Send bytes) = Unit {0}
IsSend (Put change) = ⊥
IsSend (Ask line) = ⊥
IsSend (Upstream bytes) = ⊥
IsSend Close = ⊥

-- a list that ends with Close
abbrev pub IsEnd : List Effect → Type 0
IsEnd effects = EndsAtClose effects × HasClose effects

-- what a waiting session knows of the lines
abbrev pub claim_of : Waiting → Claim
claim_of w = record { password = w.password; user = w.user; has_nick = w.has_nick; is_held = is_held w.negotiation.registration }

-- Still waiting, closed, or let in by what was given. What was given is known under a premise on the session before.
pub data Outcome (P : Type 0) (directory : Directory) (g : Claim) (s : Step) : Type 0 where
  waiting : (w : Waiting) → s.session ≡ stage.Waiting w → (P → (claim_of w ≡ g) × IsToCome w.negotiation.registration)
      → AllByRecursion IsSend s.effects → Outcome P directory g s
  closed : s.session ≡ stage.Closed → AllByRecursion IsAnswer s.effects → IsEnd s.effects → Outcome P directory g s
  registered : (f : Facts) → s.session ≡ stage.Registered f → (P → IsLetIn directory f g) → AllByRecursion IsGreeting s.effects → Outcome P directory g s

abbrev pub ToCome : Waiting → Type 0
ToCome w = IsToCome w.negotiation.registration

goes_on : (directory : Directory) (w : Waiting) (effects : List Effect) → AllByRecursion IsSend effects → Outcome (ToCome w) directory (claim_of w) (waits w effects)
goes_on directory w effects all = waiting w refl (λ h. (refl, h)) all

moved : (P Q : Type 0) (directory : Directory) (g h : Claim) (s : Step) → (Q → P × (g ≡ h)) → Outcome P directory g s → Outcome Q directory h s
moved P Q directory g h s k (waiting w is facts all) = waiting w is (λ q. ((facts (k q).0).0 ∙ (k q).1, (facts (k q).0).1)) all
moved P Q directory g h s k (closed is all end) = closed is all end
moved P Q directory g h s k (registered f is known all) = registered f is (λ q. subst (λ (x : Claim). IsLetIn directory f x) (k q).1 (known (k q).0)) all

-- ---- the door

secret_test : (b : Bool) (x : Option Entry) (e : Entry) → (if b then x else None) ≡ Some e → (b ≡ true) × (x ≡ Some e)
secret_test true x e h = (refl, h)
secret_test false x e h = absurd (cc)

is_some : (x : Option Entry) (e : Entry) → x ≡ Some e → IsSome x
is_some None e h = absurd (cc)
is_some (Some x) e h = refl

secret_known : (account : Option Account) (network secret : List ℕ) (e : Entry) → entry_if_secret account network secret ≡ Some e
    → HasSecret account secret × IsSome (entry_of_account account network)
secret_known None network secret e h = absurd (cc)
secret_known (Some a) network secret e h =
    let t = secret_test (bytes_eq a.secret secret) (entry_of a network) e h in
    ((bytes_eq-Decides a.secret secret).0 t.0, is_some (entry_of a network) e t.1)

and_both : (a b : Bool) → (a && not b) ≡ true → (a ≡ true) × (b ≡ false)
and_both true false h = (refl, refl)
and_both true true h = absurd (cc)
and_both false b h = absurd (cc)

greets : (nick : List ℕ) (caps : CapSet) (channels : List (List ℕ)) → AllByRecursion IsGreeting (channels_lines nick caps channels)
greets nick caps [] = tt
greets nick caps (channel ∷ channels) = (
  tt,
  either (λ l. AllByRecursion IsGreeting (l ++ channels_lines nick caps channels)) caps.read_marker
      (tt, greets nick caps channels) (greets nick caps channels),
)

module _ (directory : Directory) (w : Waiting) (user : List ℕ) (came : w.user ≡ Some user) where
  enters : (e : Entry) → entry_by_secret directory (account_of user) (network_of user) w.password ≡ Some e
      → (w.has_nick && not (is_held w.negotiation.registration)) ≡ true → IsLetIn directory (facts_of w user e) (claim_of w)
  enters e h ready =
      let known = secret_known (account_in directory (account_of user)) (network_of user) w.password e h in
      let free = and_both w.has_nick (is_held w.negotiation.registration) ready in
      record {
        secret = known.0;
        network = known.1;
        user = subst (IsUserOf (facts_of w user e)) (sym came) (refl, refl);
        nick = free.0;
        free = free.1;
      }

  registers : (found : Option Entry) → entry_by_secret directory (account_of user) (network_of user) w.password ≡ found
      → (w.has_nick && not (is_held w.negotiation.registration)) ≡ true → Outcome (ToCome w) directory (claim_of w) (let_in_if w user found)
  registers None h ready = closed refl (tt, (tt, (tt, tt))) (refl, tt)
  registers (Some e) h ready = registered (facts_of w user e) refl (λ p. enters e h ready) (tt, (tt, (tt, greets e.nick w.negotiation.caps e.channels)))

  settles_if : (b : Bool) → (w.has_nick && not (is_held w.negotiation.registration)) ≡ b
      → Outcome (ToCome w) directory (claim_of w) (if b then register directory w user else waits w [])
  settles_if true ready = registers (entry_by_secret directory (account_of user) (network_of user) w.password) refl ready
  settles_if false ready = goes_on directory w [] tt

settles_user : (directory : Directory) (w : Waiting) (user : Option (List ℕ)) → w.user ≡ user → Outcome (ToCome w) directory (claim_of w) (settle_user directory w user)
settles_user directory w None came = goes_on directory w [] tt
settles_user directory w (Some user) came = settles_if directory w user came (w.has_nick && not (is_held w.negotiation.registration)) refl

settles : (directory : Directory) (w : Waiting) → Outcome (ToCome w) directory (claim_of w) (settle directory w)
settles directory w = settles_user directory w w.user refl

-- ---- the rows

negotiates : (directory : Directory) (w : Waiting) (line : Option (List ℕ)) → Outcome (ToCome w) directory (claim_of w) (answer_or_settle directory w line)
negotiates directory w None = settles directory w
negotiates directory w (Some text) = goes_on directory w _ (tt, tt)

cap_row : (directory : Directory) (w : Waiting) (ps : List (List ℕ)) → Outcome (ToCome w) directory (claim_by_command (claim_of w) Cap ps) (cap directory w ps)
cap_row directory w ps =
    let a = cap_answer w.cluster no_nick w.negotiation ps in
    let v : Waiting = record w { negotiation = a.negotiation } in
    let with : Bool → Claim = λ held. record (claim_of w) { is_held = held } in
    moved (ToCome v) (ToCome w) directory (claim_of v) (claim_by_command (claim_of w) Cap ps) (answer_or_settle directory v a.line)
    (λ p. let left = cap_leaves w.cluster no_nick w.negotiation ps p in (left.1, ap with left.0)) (negotiates directory v a.line)

pass_row : (directory : Directory) (w : Waiting) (ps : List (List ℕ)) → Outcome (ToCome w) directory (claim_by_command (claim_of w) Pass ps) (pass w ps)
pass_row directory w [] = goes_on directory w _ (tt, tt)
pass_row directory w (password ∷ more) = goes_on directory (record w { password = password }) _ tt

or_true : (b : Bool) → (b || true) ≡ true
or_true true = refl
or_true false = refl

or_false : (b : Bool) → (b || false) ≡ b
or_false true = refl
or_false false = refl

refused_unless : (b : Bool) (x : List ℕ) → is_none (if not b then Some x else None) ≡ b
refused_unless true x = refl
refused_unless false x = refl

empty_nick : (t b : Bool) (x : List ℕ) (more : Option (List ℕ)) → is_none more ≡ b → (t ≡ true → b ≡ false) → is_none (if t then Some x else more) ≡ b
empty_nick true b x more h none = sym (none refl)
empty_nick false b x more h none = h

no_target : (nick : List ℕ) → (length nick == 0) ≡ true → is_target nick ≡ false
no_target [] h = refl
no_target (b ∷ bytes) h = let e = eqb-true (length (b ∷ bytes)) 0 h in absurd (omega arith)

nick_refused : (cluster nick : List ℕ) (ps : List (List ℕ)) → is_none (nick_refusal cluster nick ps) ≡ is_nick ps
nick_refused cluster nick [] = refl
nick_refused cluster nick (given ∷ more) =
    empty_nick (length given == 0) (is_target given) _ _ (refused_unless (is_target given) _) (no_target given)

nick_row_if : (directory : Directory) (w : Waiting) (ps : List (List ℕ)) (r : Option (List ℕ)) → is_none r ≡ is_nick ps
    → Outcome (ToCome w) directory (claim_by_command (claim_of w) Nick ps) (nick_unless directory w r)
nick_row_if directory w ps None h =
    let v : Waiting = record w { has_nick = true } in
    let with : Bool → Claim = λ nick. record (claim_of w) { has_nick = nick } in
    moved (ToCome v) (ToCome w) directory (claim_of v) (claim_by_command (claim_of w) Nick ps) (settle directory v)
    (λ p. (p, ap with (sym (or_true w.has_nick) ∙ ap (λ b. w.has_nick || b) h))) (settles directory v)
nick_row_if directory w ps (Some text) h =
    let with : Bool → Claim = λ nick. record (claim_of w) { has_nick = nick } in
    moved (ToCome w) (ToCome w) directory (claim_of w) (claim_by_command (claim_of w) Nick ps) (waits w (answer text))
    (λ p. (p, ap with (sym (or_false w.has_nick) ∙ ap (λ b. w.has_nick || b) h))) (goes_on directory w _ (tt, tt))

user_row_if : (directory : Directory) (w : Waiting) (name : Option (List ℕ))
    → Outcome (ToCome w) directory (record (claim_of w) { user = user_after w.user name }) (user_if directory w name)
user_row_if directory w None = goes_on directory w _ (tt, tt)
user_row_if directory w (Some name) = settles directory (record w { user = Some name })

ping_row : (directory : Directory) (w : Waiting) (ps : List (List ℕ)) → Outcome (ToCome w) directory (claim_of w) (waits w (ping w.cluster no_nick ps))
ping_row directory w [] = goes_on directory w _ (tt, tt)
ping_row directory w (word ∷ more) = goes_on directory w _ (tt, tt)

row_before : (directory : Directory) (w : Waiting) (command : ClientCommand) (ps : List (List ℕ))
    → Outcome (ToCome w) directory (claim_by_command (claim_of w) command ps) (before_registration directory w command ps)
row_before directory w Cap ps = cap_row directory w ps
row_before directory w Pass ps = pass_row directory w ps
row_before directory w Nick ps = nick_row_if directory w ps _ (nick_refused w.cluster no_nick ps)
row_before directory w User ps = user_row_if directory w (user_name ps)
row_before directory w Ping ps = ping_row directory w ps
row_before directory w Pong ps = goes_on directory w _ tt
row_before directory w Quit ps = closed refl (tt, (tt, tt)) (refl, tt)
row_before directory w _ ps = goes_on directory w _ (tt, tt)

pub refused_before : (directory : Directory) (w : Waiting) (fault : LineFault) → Outcome (ToCome w) directory (claim_of w) (waits w (refusal w.cluster no_nick fault))
refused_before directory w Empty = goes_on directory w _ tt
refused_before directory w TagsTooLong = goes_on directory w _ (tt, tt)
refused_before directory w TooLong = goes_on directory w _ (tt, tt)
refused_before directory w BadByte = goes_on directory w _ (tt, tt)
refused_before directory w NoCommand = goes_on directory w _ (tt, tt)

pub line_before : (directory : Directory) (shown : Bool) (w : Waiting) (bytes : List ℕ) (reading : Result Reading LineFault)
    → Outcome (ToCome w) directory (claim_by_reading (claim_of w) reading) (reading_step directory shown (stage.Waiting w) bytes reading)
line_before directory shown w bytes (Err fault) = refused_before directory w fault
line_before directory shown w bytes (Ok line) = row_before directory w (command_of line.command) line.parameters
