-- A line by which a session doesn't say that it joins a channel joins none.
use Rattle.std.proofs.Common.{◌≡◌, ◌==◌, ℕ, ◌&&◌, Bool, true, false, List, [], ◌∷◌, Option, None, Some, Result, Ok, Err, refl, inl, inr, codes}
use Rattle.std.specs.Prelude.{if◌then◌else◌, nat_lt}
use Rattle.std.specs.Str.{str_eq_ignore_ascii_case}
use Rattle.irc_line.specs.declared.line.LineFault.{LineFault}
use Rattle.irc_line.specs.declared.line.TagLimit.TheVariants.{Server}
use Rattle.irc_line.specs.Line.{Reading}
use Rattle.irc_line.specs.Read.{read}
use Rattle.chat_change.specs.Words.{is_star}
use Rattle.chat_change.specs.Message.{Message}
use Rattle.chat_change.specs.declared.message.Kind.{Kind}
use Rattle.chat_change.specs.declared.message.Kind.TheVariants as kind
use Rattle.upstream_session.specs.Command.{command_of}
use Rattle.upstream_session.specs.declared.command.ServerCommand.{ServerCommand}
use Rattle.upstream_session.specs.declared.command.ServerCommand.TheVariants.{Cap, Welcome, Greeting, NickInUse, Ping, Nick, Join, Part, Kick, Error, Privmsg, Notice, Redact, Tagmsg, Other}
use Rattle.upstream_session.specs.declared.connection.ServerSession.{ServerSession}
use Rattle.upstream_session.specs.declared.connection.TheConstants.{LAST_SERIAL, MOST_TRIES}
use Rattle.upstream_session.specs.Step.{ServerStep, stays}
use Rattle.upstream_session.specs.Messages.{is_same_nick, can_be_kept, stamp_of, made_id}
use Rattle.upstream_session.specs.Rows.{cap, ls, first_target, with_nick, nick_in_use, ping, join_if, leave, put_out, is_up_and_own, joined_by, keep_by_id, keep_stamped, keep, message_from, message, redact, serve}
use Rattle.upstream_session.specs.Session.{step, reading_step, joined_in, joined, JoinsNone}
use Rattle.upstream_session.specs.Events.{Line, after}
use Rattle.upstream_session.proofs.CourseLemmas.{either}

module _ (u : ServerSession) where
  -- a session that joined none since
  abbrev pub Stays : ServerSession → Type 0
  Stays v = JoinsNone u.entry.channels v.entry.channels

  abbrev pub StepStays : ServerStep → Type 0
  StepStays s = Stays s.session

  -- ---- CAP and registration

  ls_row : (ps : List (List ℕ)) → StepStays (ls u ps)
  ls_row [] = inl refl
  ls_row (a ∷ []) = inl refl
  ls_row (a ∷ b ∷ more) = either StepStays (is_star a) (inl refl) (inl refl)

  cap_row : (ps : List (List ℕ)) → StepStays (cap u ps)
  cap_row [] = inl refl
  cap_row (a ∷ []) = inl refl
  cap_row (a ∷ b ∷ more) =
      either StepStays (str_eq_ignore_ascii_case b (codes "LS")) (ls_row more)
      (either StepStays (str_eq_ignore_ascii_case b (codes "ACK")) (inl refl)
      (either StepStays (str_eq_ignore_ascii_case b (codes "NAK")) (inl refl) (inl refl)))

  named : (nick : Option (List ℕ)) → Stays (with_nick u nick)
  named None = inl refl
  named (Some nick) = inl refl

  welcomed : (nick : Option (List ℕ)) → Stays (record (with_nick u nick) { entry = record (with_nick u nick).entry { is_up = true } })
  welcomed None = inl refl
  welcomed (Some nick) = inl refl

  in_use_row : (line : Reading) (bytes : List ℕ) → StepStays (nick_in_use u line bytes)
  in_use_row line bytes =
      either StepStays u.entry.is_up (inl refl)
      (either StepStays (nat_lt u.tries MOST_TRIES) (inl refl) (inl refl))

  ping_row : (line : Reading) (bytes : List ℕ) (ps : List (List ℕ)) → StepStays (ping u line bytes ps)
  ping_row line bytes [] = inl refl
  ping_row line bytes (word ∷ more) = inl refl

  -- ---- the channels

  join_row : (own : Bool) (first : Option (List ℕ)) → (if own then first else None) ≡ None → Stays (if own then join_if u first else u)
  join_row true None e = inl refl
  join_row true (Some channel) e = absurd (cc)
  join_row false first e = inl refl

  left : (ps : List (List ℕ)) → Stays (leave u ps)
  left [] = inl refl
  left (channel ∷ more) = inr (channel, refl)

  put_out_of : (ps : List (List ℕ)) → Stays (put_out u ps)
  put_out_of [] = inl refl
  put_out_of (channel ∷ []) = inl refl
  put_out_of (channel ∷ nick ∷ more) = either Stays (is_same_nick nick u.entry.nick) (inr (channel, refl)) (inl refl)

  -- ---- messages

  by_id : (line : Reading) (bytes : List ℕ) (m : Message) (at : ℕ) (id : Option (List ℕ)) → StepStays (keep_by_id u line bytes m at id)
  by_id line bytes m at None = inl refl
  by_id line bytes m at (Some id) = inl refl

  stamped : (line : Reading) (bytes : List ℕ) (m : Message) (id : Option (List ℕ)) (at : ℕ) → StepStays (keep_stamped u line bytes m id at)
  stamped line bytes m None at = either StepStays (u.serial == LAST_SERIAL) (inl refl) (by_id line bytes m at (made_id u.home u.serial))
  stamped line bytes m (Some id) at = inl refl

  kept : (now : ℕ) (line : Reading) (bytes : List ℕ) (m : Message) → StepStays (keep u now line bytes m)
  kept now line bytes m =
      either StepStays (can_be_kept u m) (stamped line bytes m (stamp_of line.tags now).id (stamp_of line.tags now).at) (inl refl)

  message_row : (now : ℕ) (k : Kind) (line : Reading) (bytes : List ℕ) (ps : List (List ℕ)) → StepStays (message u now k line bytes ps)
  message_row now k line bytes [] = inl refl
  message_row now k line bytes (target ∷ []) = inl refl
  message_row now k line bytes (target ∷ body ∷ more) =
      either StepStays u.entry.is_up (kept now line bytes (message_from u k line target body)) (inl refl)

  redact_row : (line : Reading) (bytes : List ℕ) (ps : List (List ℕ)) → StepStays (redact u line bytes ps)
  redact_row line bytes [] = inl refl
  redact_row line bytes (target ∷ []) = inl refl
  redact_row line bytes (target ∷ id ∷ more) = either StepStays (u.entry.is_up && u.entry.takes_redact) (inl refl) (inl refl)

  -- ---- the table

  by_command : (now : ℕ) (bytes : List ℕ) (line : Reading) (command : ServerCommand) → joined_by u line command ≡ None
      → StepStays (serve u now bytes line command)
  by_command now bytes line Cap e = cap_row line.parameters
  by_command now bytes line Welcome e = welcomed (first_target line.parameters)
  by_command now bytes line Greeting e = inl refl
  by_command now bytes line NickInUse e = in_use_row line bytes
  by_command now bytes line Ping e = ping_row line bytes line.parameters
  by_command now bytes line Nick e = either Stays (is_up_and_own u line) (named (first_target line.parameters)) (inl refl)
  by_command now bytes line Join e = join_row (is_up_and_own u line) (first_target line.parameters) e
  by_command now bytes line Part e = either Stays (is_up_and_own u line) (left line.parameters) (inl refl)
  by_command now bytes line Kick e = either Stays u.entry.is_up (put_out_of line.parameters) (inl refl)
  by_command now bytes line Error e = inl refl
  by_command now bytes line Privmsg e = message_row now kind.Privmsg line bytes line.parameters
  by_command now bytes line Notice e = message_row now kind.Notice line bytes line.parameters
  by_command now bytes line Redact e = redact_row line bytes line.parameters
  by_command now bytes line Tagmsg e = either StepStays u.entry.is_up (inl refl) (inl refl)
  by_command now bytes line Other e = inl refl

  by_reading : (now : ℕ) (bytes : List ℕ) (r : Result Reading LineFault) → joined_in u r ≡ None → StepStays (reading_step u now bytes r)
  by_reading now bytes (Err fault) e = inl refl
  by_reading now bytes (Ok line) e = by_command now bytes line (command_of line.command) e

  by_end : (now : ℕ) (bytes : List ℕ) (is_closed : Bool) (r : Result Reading LineFault) → (if is_closed then None else joined_in u r) ≡ None
      → StepStays (if is_closed then stays u [] else reading_step u now bytes r)
  by_end now bytes true r e = inl refl
  by_end now bytes false r e = by_reading now bytes r e

pub joins_none : (u : ServerSession) (now : ℕ) (bytes : List ℕ) → joined u bytes ≡ None → JoinsNone u.entry.channels (after u (Line now bytes)).entry.channels
unfolding step
joins_none u now bytes e = by_end u now bytes u.is_closed (read Server bytes) e
