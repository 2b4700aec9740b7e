-- What a line can do: one statement for all rows of the tables.
use Rattle.std.proofs.Common.{◌≡◌, ℕ, ◌+◌, ◌==◌, Bool, true, false, ◌&&◌, not, List, [], ◌∷◌, ◌++◌, Option, None, Some, Ok, Err, Result, refl, sym, ap, ◌∙◌, ◌⊎◌, inl, inr, codes}
use Rattle.std.specs.List.{AllByRecursion}
use Rattle.std.specs.Prelude.{if◌then◌else◌}
use Rattle.std.specs.Str.{str_eq_ignore_ascii_case}
use Rattle.std.proofs.lemmas.Bool.{eqb-false}
use Rattle.irc_line.specs.declared.line.LineFault.{LineFault}
use Rattle.irc_line.specs.Line.{Reading}
use Rattle.irc_caps.specs.declared.capability.Capability.TheVariants.{MessageRedaction, MessageTags}
use Rattle.irc_caps.specs.Negotiation.{list_in}
use Rattle.chat_change.specs.Words.{is_star, is_id}
use Rattle.chat_change.specs.Message.{Message}
use Rattle.chat_change.specs.declared.message.Kind.{Kind}
use Rattle.chat_change.specs.declared.message.Kind.TheVariants as kind
use Rattle.chat_change.specs.declared.change.Change.{Change}
use Rattle.chat_change.specs.declared.change.Change.TheVariants as change
use Rattle.irc_reply.specs.ToServer as to_server
use Rattle.irc_reply.specs.ToClient as to_client
use Rattle.irc_reply.specs.ToClient.{relayed_line}
use Rattle.upstream_session.specs.Command.{command_of}
use Rattle.upstream_session.specs.declared.command.ServerCommand.{ServerCommand}
use Rattle.upstream_session.specs.declared.command.ServerCommand.TheVariants.{Cap, Welcome, Greeting, NickInUse, Ping, Nick, Join, Part, Kick, Error, Privmsg, Notice, Redact, Tagmsg, Other}
use Rattle.upstream_session.specs.declared.connection.TheConstants.{LAST_SERIAL}
use Rattle.upstream_session.specs.declared.connection.Home.{Home}
use Rattle.upstream_session.specs.declared.connection.ServerSession.{ServerSession}
use Rattle.upstream_session.specs.declared.effect.UpEffect.{UpEffect}
use Rattle.upstream_session.specs.declared.effect.UpEffect.TheVariants.{Send, Put, Relay, Close}
use Rattle.irc_caps.specs.declared.recipients.Recipients.TheVariants.{Holding}
use Rattle.upstream_session.specs.Step.{ServerStep, stays, closes}
use Rattle.upstream_session.specs.Messages.{is_same_nick, has_buffer, conversation, source_of, can_be_kept, stamp_of, made_text, made_id, kept_tags, post}
use Rattle.upstream_session.specs.Rows.{relay_to_all, pass_on, ls, ack, cap, first_target, with_nick, joins, welcome, try_again, nick_in_use, ping, join_if, leave, put_out, is_up_and_own, keep_by_id, keep_made, keep_stamped, keep, message_from, message, redaction, redact, tagmsg, serve}
use Rattle.upstream_session.specs.Sayings.{send_line, sent_tags, send_tagged, say_tagmsg, is_kept_here, say_by_id, say_kept, say_message, say_words, say_command, say_reading}
use Rattle.upstream_session.specs.Session.{reading_step}
use Rattle.upstream_session.specs.Events.{IsIn, IsWelcomeRead, id_read, tags_read}

-- what holds of both branches holds of the choice
pub either : {A : Type 0} (P : A → Type 0) (b : Bool) {x y : A} → P x → P y → P (if b then x else y)
either P true p q = p
either P false p q = q

-- so does what holds of each branch under its test
pub either_by : {A : Type 0} (P : A → Type 0) (b : Bool) (x y : A) → (b ≡ true → P x) → (b ≡ false → P y) → P (if b then x else y)
either_by P true x y p q = p refl
either_by P false x y p q = q refl

and_first : (a b : Bool) → (a && b) ≡ true → a ≡ true
and_first true b h = refl
and_first false b h = h

chosen : (b : Bool) (text id : List ℕ) → (if b then Some text else None) ≡ Some id → text ≡ id
chosen true text id h = cc
chosen false text id h = absurd (cc)

-- ---- outcomes

-- a line to the server
abbrev pub IsSend : UpEffect → Type 0
IsSend (Send bytes) = Unit {0}
IsSend (Put change) = ⊥
IsSend (Relay bytes to) = ⊥
IsSend Close = ⊥

-- a redaction of one's own
abbrev pub IsOwnRedaction : Home → Change → Type 0
IsOwnRedaction home (change.Redact buffer id at) = IsIn home buffer
IsOwnRedaction home _ = ⊥

-- a line that is passed on, or such a redaction
abbrev pub IsPassed : Home → UpEffect → Type 0
IsPassed home (Send bytes) = ⊥
IsPassed home (Put change) = IsOwnRedaction home change
IsPassed home (Relay bytes to) = Unit {0}
IsPassed home Close = ⊥

-- another session of the same home, with the same serial number, which is over just where it was, and is up only if it was, or
-- was welcomed
pub record Same (W : Type 0) (u v : ServerSession) : Type 0 where
  pub home : v.home ≡ u.home
  pub serial : v.serial ≡ u.serial
  pub over : v.is_closed ≡ u.is_closed
  pub up : v.entry.is_up ≡ true → (u.entry.is_up ≡ true) ⊎ W

-- lines to the server; lines that are passed on; a message with these tags, and an id of its own or one that is made; the
-- end
pub data Course (W : Type 0) (id_of : Option (List ℕ)) (borne : List ℕ) (u : ServerSession) (s : ServerStep) : Type 0 where
  quiet : Same W u s.session → AllByRecursion IsSend s.effects → Course W id_of borne u s
  passing : u.entry.is_up ≡ true → Same W u s.session → AllByRecursion (IsPassed u.home) s.effects → Course W id_of borne u s
  kept : (id : List ℕ) (at : ℕ) (m : Message) → u.entry.is_up ≡ true → id_of ≡ Some id → s.session ≡ u
      → s.effects ≡ post u id at borne m ∷ [] → Course W id_of borne u s
  made : (before : List UpEffect) (at : ℕ) (m : Message) → u.entry.is_up ≡ true → s.session ≡ record u { serial = u.serial + 1 }
      → ¬ (u.serial ≡ LAST_SERIAL) → AllByRecursion IsSend before
      → s.effects ≡ before ++ post u (made_text u.home u.serial) at borne m ∷ [] → Course W id_of borne u s
  closed : s.session ≡ record u { is_closed = true } → s.effects ≡ Close ∷ [] → Course W id_of borne u s

module _ (W : Type 0) (id_of : Option (List ℕ)) (borne : List ℕ) (u : ServerSession) where
  pub itself : Same W u u
  itself = record { home = refl; serial = refl; over = refl; up = λ h. inl h }

  pub says : (effects : List UpEffect) → AllByRecursion IsSend effects → Course W id_of borne u (stays u effects)
  says effects all = quiet itself all

  passes : (v : ServerSession) → Same W u v → (line : Reading) (bytes : List ℕ) → Course W id_of borne u (stays v (pass_on u line bytes))
  passes v same line bytes =
      either_by (λ (l : List UpEffect). Course W id_of borne u (stays v l)) u.entry.is_up (relay_to_all line bytes) []
      (λ h. passing h same (tt, tt)) (λ h. quiet same tt)

  -- ---- CAP and registration

  ls_row : (ps : List (List ℕ)) → Course W id_of borne u (ls u ps)
  ls_row [] = quiet (record { home = refl; serial = refl; over = refl; up = λ h. inl h }) (tt, tt)
  ls_row (a ∷ []) = quiet (record { home = refl; serial = refl; over = refl; up = λ h. inl h }) (tt, tt)
  ls_row (a ∷ b ∷ more) =
      either (λ (s : ServerStep). Course W id_of borne u s) (is_star a)
      (quiet (record { home = refl; serial = refl; over = refl; up = λ h. inl h }) tt)
      (quiet (record { home = refl; serial = refl; over = refl; up = λ h. inl h }) (tt, tt))

  ack_row : (list : List ℕ) → Course W id_of borne u (ack u list)
  ack_row list = quiet (record { home = refl; serial = refl; over = refl; up = λ h. inl h }) (tt, tt)

  pub cap_row : (ps : List (List ℕ)) → Course W id_of borne u (cap u ps)
  cap_row [] = says [] tt
  cap_row (a ∷ []) = says [] tt
  cap_row (a ∷ b ∷ more) =
      either (λ (s : ServerStep). Course W id_of borne u s) (str_eq_ignore_ascii_case b (codes "LS")) (ls_row more)
      (either (λ (s : ServerStep). Course W id_of borne u s) (str_eq_ignore_ascii_case b (codes "ACK")) (ack_row (list_in more))
      (either (λ (s : ServerStep). Course W id_of borne u s) (str_eq_ignore_ascii_case b (codes "NAK")) (says _ (tt, tt)) (says [] tt)))

  all_joins : (channels : List (List ℕ)) → AllByRecursion IsSend (joins channels)
  all_joins [] = tt
  all_joins (channel ∷ channels) = (tt, all_joins channels)

  welcomed : W → (nick : Option (List ℕ)) → Same W u (record (with_nick u nick) { entry = record (with_nick u nick).entry { is_up = true } })
  welcomed w None = record { home = refl; serial = refl; over = refl; up = λ h. inr w }
  welcomed w (Some nick) = record { home = refl; serial = refl; over = refl; up = λ h. inr w }

  pub welcome_row : W → (ps : List (List ℕ)) → Course W id_of borne u (welcome u ps)
  welcome_row w ps = quiet (welcomed w (first_target ps)) (all_joins u.home.channels)

  pub in_use_row : (line : Reading) (bytes : List ℕ) → Course W id_of borne u (nick_in_use u line bytes)
  in_use_row line bytes =
      either_by (λ (s : ServerStep). Course W id_of borne u s) u.entry.is_up (stays u (relay_to_all line bytes)) (try_again u)
      (λ h. passing h itself (tt, tt))
      (λ h. either (λ (s : ServerStep). Course W id_of borne u s) _ (quiet (record { home = refl; serial = refl; over = refl; up = λ k. inl k }) (tt, tt)) (closed refl refl))

  pub ping_row : (line : Reading) (bytes : List ℕ) (ps : List (List ℕ)) → Course W id_of borne u (ping u line bytes ps)
  ping_row line bytes [] = passes u itself line bytes
  ping_row line bytes (word ∷ more) = says _ (tt, tt)

  -- ---- the present nick and the channels

  renamed : (nick : Option (List ℕ)) → Same W u (with_nick u nick)
  renamed None = itself
  renamed (Some nick) = record { home = refl; serial = refl; over = refl; up = λ h. inl h }

  has_joined : (channel : Option (List ℕ)) → Same W u (join_if u channel)
  has_joined None = itself
  has_joined (Some channel) = record { home = refl; serial = refl; over = refl; up = λ h. inl h }

  has_parted : (ps : List (List ℕ)) → Same W u (leave u ps)
  has_parted [] = itself
  has_parted (channel ∷ more) = record { home = refl; serial = refl; over = refl; up = λ h. inl h }

  is_kicked : (ps : List (List ℕ)) → Same W u (put_out u ps)
  is_kicked [] = itself
  is_kicked (channel ∷ []) = itself
  is_kicked (channel ∷ nick ∷ more) =
      either (λ (v : ServerSession). Same W u v) (is_same_nick nick u.entry.nick) (record { home = refl; serial = refl; over = refl; up = λ h. inl h }) itself

  pub moves : (b : Bool) (v : ServerSession) → Same W u v → (line : Reading) (bytes : List ℕ)
      → Course W id_of borne u (stays (if b then v else u) (pass_on u line bytes))
  moves b v same line bytes = passes (if b then v else u) (either (λ (w : ServerSession). Same W u w) b same itself) line bytes

  pub nick_row : (line : Reading) (bytes : List ℕ) → Course W id_of borne u (stays (if is_up_and_own u line then with_nick u (first_target line.parameters) else u) (pass_on u line bytes))
  nick_row line bytes = moves (is_up_and_own u line) (with_nick u (first_target line.parameters)) (renamed (first_target line.parameters)) line bytes

  pub join_row : (line : Reading) (bytes : List ℕ) → Course W id_of borne u (stays (if is_up_and_own u line then join_if u (first_target line.parameters) else u) (pass_on u line bytes))
  join_row line bytes = moves (is_up_and_own u line) (join_if u (first_target line.parameters)) (has_joined (first_target line.parameters)) line bytes

  pub part_row : (line : Reading) (bytes : List ℕ) → Course W id_of borne u (stays (if is_up_and_own u line then leave u line.parameters else u) (pass_on u line bytes))
  part_row line bytes = moves (is_up_and_own u line) (leave u line.parameters) (has_parted line.parameters) line bytes

  pub kick_row : (line : Reading) (bytes : List ℕ) → Course W id_of borne u (stays (if u.entry.is_up then put_out u line.parameters else u) (pass_on u line bytes))
  kick_row line bytes = moves u.entry.is_up (put_out u line.parameters) (is_kicked line.parameters) line bytes

  -- ---- messages

  keeps_by_id : (line : Reading) (bytes : List ℕ) (m : Message) (at : ℕ) → kept_tags line.tags ≡ borne → u.entry.is_up ≡ true → ¬ (u.serial ≡ LAST_SERIAL)
      → (id : Option (List ℕ)) → made_id u.home u.serial ≡ id → Course W id_of borne u (keep_by_id u line bytes m at id)
  keeps_by_id line bytes m at tags up more None is = passing up itself (tt, tt)
  keeps_by_id line bytes m at tags up more (Some id) is =
      let e : made_text u.home u.serial ≡ id = chosen (is_id (made_text u.home u.serial)) (made_text u.home u.serial) id is in
      let with_id : List ℕ → List UpEffect = λ i. post u i at (kept_tags line.tags) m ∷ [] in
      let with_tags : List ℕ → List UpEffect = λ t. post u (made_text u.home u.serial) at t m ∷ [] in
      made [] at m up refl more tt (sym (ap with_id e) ∙ ap with_tags tags)

  keeps_made : (line : Reading) (bytes : List ℕ) (m : Message) (at : ℕ) → kept_tags line.tags ≡ borne → u.entry.is_up ≡ true → Course W id_of borne u (keep_made u line bytes m at)
  keeps_made line bytes m at tags up =
      either_by (λ (s : ServerStep). Course W id_of borne u s) (u.serial == LAST_SERIAL) (closes u) (keep_by_id u line bytes m at (made_id u.home u.serial))
      (λ h. closed refl refl)
      (λ h. keeps_by_id line bytes m at tags up (eqb-false u.serial LAST_SERIAL h) (made_id u.home u.serial) refl)

  keeps_stamped : (line : Reading) (bytes : List ℕ) (m : Message) (id : Option (List ℕ)) (at : ℕ) → kept_tags line.tags ≡ borne → u.entry.is_up ≡ true → id_of ≡ id
      → Course W id_of borne u (keep_stamped u line bytes m id at)
  keeps_stamped line bytes m None at tags up is = keeps_made line bytes m at tags up
  keeps_stamped line bytes m (Some id) at tags up is =
      let with_tags : List ℕ → List UpEffect = λ t. post u id at t m ∷ [] in
      kept id at m up is refl (ap with_tags tags)

  keeps : (now : ℕ) (line : Reading) (bytes : List ℕ) (m : Message) → kept_tags line.tags ≡ borne → u.entry.is_up ≡ true → id_of ≡ (stamp_of line.tags now).id
      → Course W id_of borne u (keep u now line bytes m)
  keeps now line bytes m tags up is =
      either (λ (s : ServerStep). Course W id_of borne u s) (can_be_kept u m)
      (keeps_stamped line bytes m (stamp_of line.tags now).id (stamp_of line.tags now).at tags up is) (passing up itself (tt, tt))

  pub message_row : (now : ℕ) (k : Kind) (line : Reading) (bytes : List ℕ) → kept_tags line.tags ≡ borne → id_of ≡ (stamp_of line.tags now).id
      → (ps : List (List ℕ)) → Course W id_of borne u (message u now k line bytes ps)
  message_row now k line bytes tags is [] = passes u itself line bytes
  message_row now k line bytes tags is (target ∷ []) = passes u itself line bytes
  message_row now k line bytes tags is (target ∷ body ∷ more) =
      either_by (λ (s : ServerStep). Course W id_of borne u s) u.entry.is_up (keep u now line bytes (message_from u k line target body)) (stays u [])
      (λ h. keeps now line bytes (message_from u k line target body) tags h is) (λ h. says [] tt)

  redacts : (source target id bytes : List ℕ) → AllByRecursion (IsPassed u.home) (redaction u source target id ++ Relay bytes (Holding MessageRedaction) ∷ [])
  redacts source target id bytes =
      either (λ (l : List UpEffect). AllByRecursion (IsPassed u.home) (l ++ Relay bytes (Holding MessageRedaction) ∷ []))
      (has_buffer u.home (conversation u source target) && is_id id) ((refl, refl), (tt, tt)) (tt, tt)

  pub redact_row : (line : Reading) (bytes : List ℕ) (ps : List (List ℕ)) → Course W id_of borne u (redact u line bytes ps)
  redact_row line bytes [] = passes u itself line bytes
  redact_row line bytes (target ∷ []) = passes u itself line bytes
  redact_row line bytes (target ∷ id ∷ more) =
      either_by (λ (s : ServerStep). Course W id_of borne u s) (u.entry.is_up && u.entry.takes_redact)
      (stays u (redaction u (source_of u line.source) target id ++ Relay (relayed_line line.source bytes) (Holding MessageRedaction) ∷ []))
      (stays u (pass_on u line bytes))
      (λ h. passing (and_first u.entry.is_up u.entry.takes_redact h) itself (redacts (source_of u line.source) target id (relayed_line line.source bytes)))
      (λ h. passes u itself line bytes)

  pub tagmsg_row : (line : Reading) (bytes : List ℕ) → Course W id_of borne u (tagmsg u line bytes)
  tagmsg_row line bytes =
      either_by (λ (s : ServerStep). Course W id_of borne u s) u.entry.is_up
      (stays u (Relay (to_client.tagged_line line.tags line.source bytes) (Holding MessageTags) ∷ [])) (stays u [])
      (λ h. passing h itself (tt, tt)) (λ h. says [] tt)

  -- ---- sayings

  says_by_id : (now : ℕ) (text : List ℕ) (tags : Option (List ℕ)) (m : Message) → kept_tags tags ≡ borne → u.entry.is_up ≡ true
      → ¬ (u.serial ≡ LAST_SERIAL) → (id : Option (List ℕ)) → made_id u.home u.serial ≡ id → Course W id_of borne u (say_by_id u now text tags m id)
  says_by_id now text tags m bears up more None is = says (send_tagged tags text) (tt, tt)
  says_by_id now text tags m bears up more (Some id) is =
      let e : made_text u.home u.serial ≡ id = chosen (is_id (made_text u.home u.serial)) (made_text u.home u.serial) id is in
      let first : UpEffect = Send (to_server.tagged_line tags text) in
      let with_id : List ℕ → List UpEffect = λ i. first ∷ post u i now (kept_tags tags) m ∷ [] in
      let with_tags : List ℕ → List UpEffect = λ t. first ∷ post u (made_text u.home u.serial) now t m ∷ [] in
      made (first ∷ []) now m up refl more (tt, tt) (sym (ap with_id e) ∙ ap with_tags bears)

  says_kept : (now : ℕ) (text : List ℕ) (tags : Option (List ℕ)) (m : Message) → kept_tags tags ≡ borne → u.entry.is_up ≡ true
      → Course W id_of borne u (say_kept u now text tags m)
  says_kept now text tags m bears up =
      either_by (λ (s : ServerStep). Course W id_of borne u s) (u.serial == LAST_SERIAL) (closes u) (say_by_id u now text tags m (made_id u.home u.serial))
      (λ h. closed refl refl)
      (λ h. says_by_id now text tags m bears up (eqb-false u.serial LAST_SERIAL h) (made_id u.home u.serial) refl)

  says_message : (now : ℕ) (text : List ℕ) (tags : Option (List ℕ)) (m : Message) → kept_tags tags ≡ borne → Course W id_of borne u (say_message u now text tags m)
  says_message now text tags m bears =
      either_by (λ (s : ServerStep). Course W id_of borne u s) (is_kept_here u m) (say_kept u now text tags m) (stays u (send_tagged tags text))
      (λ h. says_kept now text tags m bears (and_first u.entry.is_up (not u.held.echo_message && can_be_kept u m) h)) (λ h. says (send_tagged tags text) (tt, tt))

  says_words : (now : ℕ) (text : List ℕ) (tags : Option (List ℕ)) (k : Kind) → kept_tags tags ≡ borne
      → (ps : List (List ℕ)) → Course W id_of borne u (say_words u now text tags k ps)
  says_words now text tags k bears [] = says (send_tagged tags text) (tt, tt)
  says_words now text tags k bears (target ∷ []) = says (send_tagged tags text) (tt, tt)
  says_words now text tags k bears (target ∷ body ∷ more) =
      says_message now text tags (record { kind = k; source = u.entry.nick; target = target; body = body }) bears

  says_tagmsg : (text : List ℕ) (tags : Option (List ℕ)) → Course W id_of borne u (say_tagmsg u text tags)
  says_tagmsg text tags =
      either (λ (s : ServerStep). Course W id_of borne u s) u.held.message_tags (says (send_tagged tags text) (tt, tt)) (says [] tt)

  says_command : (now : ℕ) (text : List ℕ) (line : Reading) → kept_tags (sent_tags u line.tags) ≡ borne
      → (command : ServerCommand) → Course W id_of borne u (say_command u now text line command)
  says_command now text line bears Privmsg = says_words now text (sent_tags u line.tags) kind.Privmsg bears line.parameters
  says_command now text line bears Notice = says_words now text (sent_tags u line.tags) kind.Notice bears line.parameters
  says_command now text line bears Tagmsg = says_tagmsg text line.tags
  says_command now text line bears Cap = says (send_line text) (tt, tt)
  says_command now text line bears Welcome = says (send_line text) (tt, tt)
  says_command now text line bears Greeting = says (send_line text) (tt, tt)
  says_command now text line bears NickInUse = says (send_line text) (tt, tt)
  says_command now text line bears Ping = says (send_line text) (tt, tt)
  says_command now text line bears Nick = says (send_line text) (tt, tt)
  says_command now text line bears Join = says (send_line text) (tt, tt)
  says_command now text line bears Part = says (send_line text) (tt, tt)
  says_command now text line bears Kick = says (send_line text) (tt, tt)
  says_command now text line bears Error = says (send_line text) (tt, tt)
  says_command now text line bears Redact = says (send_line text) (tt, tt)
  says_command now text line bears Other = says (send_line text) (tt, tt)

  pub say_course : (now : ℕ) (text : List ℕ) (reading : Result Reading LineFault) → kept_tags (sent_tags u (tags_read reading)) ≡ borne
      → Course W id_of borne u (say_reading u now text reading)
  say_course now text (Err fault) bears = says (send_line text) (tt, tt)
  say_course now text (Ok line) bears = says_command now text line bears (command_of line.command)

-- ---- the table

same_id : (tags : Option (List ℕ)) (now : ℕ) → (stamp_of tags 0).id ≡ (stamp_of tags now).id
same_id None now = refl
same_id (Some text) now = refl

row : (u : ServerSession) (now : ℕ) (bytes : List ℕ) (line : Reading) (command : ServerCommand)
    → Course (command ≡ Welcome) (stamp_of line.tags 0).id (kept_tags line.tags) u (serve u now bytes line command)
row u now bytes line Cap = cap_row _ _ _ u line.parameters
row u now bytes line Welcome = welcome_row _ _ _ u refl line.parameters
row u now bytes line Greeting = says _ _ _ u [] tt
row u now bytes line Tagmsg = tagmsg_row _ _ _ u line bytes
row u now bytes line NickInUse = in_use_row _ _ _ u line bytes
row u now bytes line Ping = ping_row _ _ _ u line bytes line.parameters
row u now bytes line Error = closed refl refl
row u now bytes line Nick = nick_row _ _ _ u line bytes
row u now bytes line Join = join_row _ _ _ u line bytes
row u now bytes line Part = part_row _ _ _ u line bytes
row u now bytes line Kick = kick_row _ _ _ u line bytes
row u now bytes line Privmsg = message_row _ _ _ u now kind.Privmsg line bytes refl (same_id line.tags now) line.parameters
row u now bytes line Notice = message_row _ _ _ u now kind.Notice line bytes refl (same_id line.tags now) line.parameters
row u now bytes line Redact = redact_row _ _ _ u line bytes line.parameters
row u now bytes line Other = moves _ _ _ u true u (itself _ None [] u) line bytes

pub line_course : (u : ServerSession) (now : ℕ) (bytes : List ℕ) (reading : Result Reading LineFault)
    → Course (IsWelcomeRead reading) (id_read reading) (kept_tags (tags_read reading)) u (reading_step u now bytes reading)
line_course u now bytes (Err fault) = says _ _ _ u [] tt
line_course u now bytes (Ok line) = row u now bytes line (command_of line.command)
