-- What a session says that it joins is what it joins.
use Rattle.std.proofs.Common.{◌≡◌, ◌∙◌, ℕ, Bool, true, false, List, [], Option, None, Some, Result, Ok, Err, refl, sym, ap, subst}
use Rattle.std.specs.Prelude.{if◌then◌else◌}
use Rattle.irc_line.specs.declared.line.LineFault.{LineFault}
use Rattle.irc_line.specs.declared.line.TagLimit.TheVariants.{Server}
use Rattle.irc_line.specs.Line.{Reading}
use Rattle.irc_line.specs.Read.{read}
use Rattle.upstream_session.specs.Command.{command_of}
use Rattle.upstream_session.specs.declared.command.ServerCommand.{ServerCommand}
use Rattle.upstream_session.specs.declared.command.ServerCommand.TheVariants.{Cap, Welcome, Greeting, NickInUse, Ping, Nick, Join, Part, Kick, Error, Privmsg, Notice, Redact, Tagmsg, Other}
use Rattle.upstream_session.specs.declared.connection.ServerSession.{ServerSession}
use Rattle.upstream_session.specs.Step.{stays}
use Rattle.upstream_session.specs.Rows.{join_if, first_target, is_up_and_own, joined_by, serve}
use Rattle.upstream_session.specs.Session.{step, reading_step, joined_in, joined}
use Rattle.upstream_session.specs.Events.{Line, after}

module _ (u : ServerSession) (now : ℕ) (bytes channel : List ℕ) where
  by_join : (own : Bool) (first : Option (List ℕ)) → (if own then first else None) ≡ Some channel
      → (if own then join_if u first else u) ≡ join_if u (Some channel)
  by_join true first e = ap (λ (c : Option (List ℕ)). join_if u c) e
  by_join false first e = absurd (cc)

  by_command : (line : Reading) (command : ServerCommand) → joined_by u line command ≡ Some channel
      → (serve u now bytes line command).session ≡ join_if u (Some channel)
  by_command line Join e = by_join (is_up_and_own u line) (first_target line.parameters) e
  by_command line Cap e = absurd (cc)
  by_command line Welcome e = absurd (cc)
  by_command line Greeting e = absurd (cc)
  by_command line NickInUse e = absurd (cc)
  by_command line Ping e = absurd (cc)
  by_command line Nick e = absurd (cc)
  by_command line Part e = absurd (cc)
  by_command line Kick e = absurd (cc)
  by_command line Error e = absurd (cc)
  by_command line Privmsg e = absurd (cc)
  by_command line Notice e = absurd (cc)
  by_command line Redact e = absurd (cc)
  by_command line Tagmsg e = absurd (cc)
  by_command line Other e = absurd (cc)

  by_reading : (r : Result Reading LineFault) → joined_in u r ≡ Some channel
      → (reading_step u now bytes r).session ≡ join_if u (Some channel)
  by_reading (Err fault) e = absurd (cc)
  by_reading (Ok line) e = by_command line (command_of line.command) e

  by_end : (is_closed : Bool) (r : Result Reading LineFault) → (if is_closed then None else joined_in u r) ≡ Some channel
      → (if is_closed then stays u [] else reading_step u now bytes r).session ≡ join_if u (Some channel)
  by_end true r e = absurd (cc)
  by_end false r e = by_reading r e

  pub joins_it : joined u bytes ≡ Some channel → after u (Line now bytes) ≡ join_if u (Some channel)
  unfolding step
  joins_it e = by_end u.is_closed (read Server bytes) e

  -- it goes by the nick and the network, which stay
  same_by_command : (line : Reading) (command : ServerCommand)
      → joined_by (join_if u (Some channel)) line command ≡ joined_by u line command
  same_by_command line Join = refl
  same_by_command line Cap = refl
  same_by_command line Welcome = refl
  same_by_command line Greeting = refl
  same_by_command line NickInUse = refl
  same_by_command line Ping = refl
  same_by_command line Nick = refl
  same_by_command line Part = refl
  same_by_command line Kick = refl
  same_by_command line Error = refl
  same_by_command line Privmsg = refl
  same_by_command line Notice = refl
  same_by_command line Redact = refl
  same_by_command line Tagmsg = refl
  same_by_command line Other = refl

  same_by_reading : (r : Result Reading LineFault) → joined_in (join_if u (Some channel)) r ≡ joined_in u r
  same_by_reading (Err fault) = refl
  same_by_reading (Ok line) = same_by_command line (command_of line.command)

  pub joins_it_after : joined u bytes ≡ Some channel → joined (after u (Line now bytes)) bytes ≡ Some channel
  joins_it_after e =
      let same : joined (join_if u (Some channel)) bytes ≡ joined u bytes =
      ap (λ (c : Option (List ℕ)). if u.is_closed then None else c) (same_by_reading (read Server bytes)) in
      subst (λ (v : ServerSession). joined v bytes ≡ Some channel) (sym (joins_it e)) (same ∙ e)
