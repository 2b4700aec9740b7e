-- Lines that are only passed on.
use Rattle.std.proofs.Common.{◌≡◌, ℕ, Bool, true, false, not, ◌&&◌, ◌||◌, List, [], ◌∷◌, Result, Ok, Err, refl}
use Rattle.std.specs.Prelude.{codes, if◌then◌else◌}
use Rattle.std.specs.Str.{str_eq_ignore_ascii_case}
use Rattle.irc_line.specs.declared.line.LineFault.{LineFault}
use Rattle.irc_line.specs.declared.line.TagLimit.TheVariants.{Server}
use Rattle.irc_line.specs.Line.{Reading}
use Rattle.irc_line.specs.Read.{read}
use Rattle.irc_reply.specs.ToClient as to_client
use Rattle.irc_caps.specs.declared.capability.Capability.TheVariants.{MessageTags}
use Rattle.irc_caps.specs.declared.recipients.Recipients.TheVariants.{Holding}
use Rattle.upstream_session.specs.Command.{command_of}
use Rattle.upstream_session.specs.declared.command.ServerCommand.{ServerCommand}
use Rattle.upstream_session.specs.declared.command.ServerCommand.TheVariants.{Cap, Welcome, Greeting, NickInUse, Ping, Nick, Join, Part, Kick, Error, Privmsg, Notice, Redact, Tagmsg, Other}
use Rattle.upstream_session.specs.declared.connection.ServerSession.{ServerSession}
use Rattle.upstream_session.specs.declared.effect.UpEffect.{UpEffect}
use Rattle.upstream_session.specs.declared.effect.UpEffect.TheVariants.{Relay}
use Rattle.upstream_session.specs.Step.{ServerStep, stays}
use Rattle.upstream_session.specs.Rows.{relay_to_all, serve}
use Rattle.upstream_session.specs.Session.{reading_step, step}
use Rattle.upstream_session.specs.Events.{Line, after, effects_of}
use Rattle.upstream_session.specs.Refusal.{is_refusing, last_parameter, with_words, after_reading, refusal_after}
use Rattle.upstream_session.specs.Passing.{is_passed, is_passed_reading, is_passed_on, IsRelayAtMost}
use Rattle.upstream_session.proofs.CourseLemmas.{either}

-- the session stays, and one line is passed on at most
record Passes (u : ServerSession) (s : ServerStep) : Type 0 where
  pub session : s.session ≡ u
  pub effects : IsRelayAtMost s.effects

and_last : (a b : Bool) → (a && b) ≡ true → b ≡ true
and_last true b h = h
and_last false b h = absurd (cc)

not_true : (a b : Bool) → (not a && b) ≡ true → a ≡ false
not_true true b h = absurd (cc)
not_true false b h = refl

module _ (u : ServerSession) (now : ℕ) (bytes : List ℕ) where
  by_command : (line : Reading) (command : ServerCommand) → is_passed command ≡ true → Passes u (serve u now bytes line command)
  by_command line Tagmsg e = either (λ (s : ServerStep). Passes u s) u.entry.is_up
      {x = stays u (Relay (to_client.tagged_line line.tags line.source bytes) (Holding MessageTags) ∷ [])} {y = stays u []}
      (record { session = refl; effects = tt }) (record { session = refl; effects = tt })
  by_command line Other e = either (λ (l : List UpEffect). Passes u (stays u l)) u.entry.is_up
      {x = relay_to_all line bytes} {y = []}
      (record { session = refl; effects = tt }) (record { session = refl; effects = tt })
  by_command line Cap e = absurd (cc)
  by_command line Welcome e = absurd (cc)
  by_command line Greeting e = absurd (cc)
  by_command line NickInUse e = absurd (cc)
  by_command line Ping e = absurd (cc)
  by_command line Nick e = absurd (cc)
  by_command line Join e = absurd (cc)
  by_command line Part e = absurd (cc)
  by_command line Kick e = absurd (cc)
  by_command line Error e = absurd (cc)
  by_command line Privmsg e = absurd (cc)
  by_command line Notice e = absurd (cc)
  by_command line Redact e = absurd (cc)

  by_reading : (r : Result Reading LineFault) → is_passed_reading r ≡ true → Passes u (reading_step u now bytes r)
  by_reading (Err fault) e = absurd (cc)
  by_reading (Ok line) e = by_command line (command_of line.command) (and_last (not (is_refusing false line.command)) (is_passed (command_of line.command)) e)

  passes : is_passed_on bytes ≡ true → Passes u (step u now bytes)
  unfolding step
  passes e = either (λ (s : ServerStep). Passes u s) u.is_closed
      {x = stays u []} {y = reading_step u now bytes (read Server bytes)}
      (record { session = refl; effects = tt }) (by_reading (read Server bytes) e)

pub stays_as_it_is : (u : ServerSession) (now : ℕ) (bytes : List ℕ) → is_passed_on bytes ≡ true → after u (Line now bytes) ≡ u
stays_as_it_is u now bytes e = (passes u now bytes e).session

pub relays_at_most : (u : ServerSession) (now : ℕ) (bytes : List ℕ) → is_passed_on bytes ≡ true → IsRelayAtMost (effects_of u (Line now bytes))
relays_at_most u now bytes e = (passes u now bytes e).effects

-- ---- the words of a refusal

unless : {X : Type 0} (b : Bool) (x y : X) → b ≡ false → (if b then x else y) ≡ y
unless true x y h = absurd (cc)
unless false x y h = refl

-- what refuses in no session refuses in none whose network is up
in_neither : (is_up : Bool) (a b c : Bool) → (a || (b || (not false && c))) ≡ false → (a || (b || (not is_up && c))) ≡ false
in_neither is_up true b c h = absurd (cc)
in_neither is_up false true c h = absurd (cc)
in_neither is_up false false true h = absurd (cc)
in_neither true false false false h = refl
in_neither false false false false h = refl

refuses_neither : (is_up : Bool) (command : List ℕ) → is_refusing false command ≡ false → is_refusing is_up command ≡ false
refuses_neither is_up command h =
    in_neither is_up (str_eq_ignore_ascii_case command (codes "ERROR")) (str_eq_ignore_ascii_case command (codes "465"))
    (str_eq_ignore_ascii_case command (codes "432")) h

kept_by_reading : (is_up : Bool) (before : List ℕ) (r : Result Reading LineFault) → is_passed_reading r ≡ true → after_reading is_up before r ≡ before
kept_by_reading is_up before (Err fault) e = refl
kept_by_reading is_up before (Ok line) e =
    unless (is_refusing is_up line.command) (with_words before (last_parameter line.parameters)) before
    (refuses_neither is_up line.command (not_true (is_refusing false line.command) (is_passed (command_of line.command)) e))

pub keeps_words : (u : ServerSession) (before bytes : List ℕ) → is_passed_on bytes ≡ true → refusal_after u before bytes ≡ before
keeps_words u before bytes e =
    either (λ (l : List ℕ). l ≡ before) u.is_closed {x = before} {y = after_reading u.entry.is_up before (read Server bytes)}
    refl (kept_by_reading u.entry.is_up before (read Server bytes) e)
