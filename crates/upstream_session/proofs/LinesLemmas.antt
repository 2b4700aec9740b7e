-- Each text that is written is one line, and the entry stands in every state.
use Rattle.std.proofs.Common.{◌≡◌, ℕ, ◌+◌, Bool, true, false, ◌&&◌, ◌||◌, ◌==◌, not, nat_lt, List, [], ◌∷◌, ◌++◌, take, drop, filter, map, codes, Option, None, Some, Result, Ok, Err, refl, sym, ap, ◌∙◌, subst, take-append-drop, append_assoc}
use Rattle.std.specs.Prelude.{if◌then◌else◌, IfSome, IfOk}
use Rattle.std.specs.List.{AllByRecursion, list_any, list_all}
use Rattle.std.specs.Str.{str_eq_ignore_ascii_case}
use Rattle.std.proofs.lemmas.Bool.{and_parts, and_from, or_parts, or_from, not-true, false_from_ne_true}
use Rattle.std.proofs.lemmas.List.Folds.{list_any-append, list_all-append}
use Rattle.std.proofs.lemmas.List.Elements.{All-from_recursion, recursion_from_All}
use Rattle.byte_text.specs.Bytes.{colon, ends_line, line_ending, space}
use Rattle.irc_line.specs.declared.line.LineFault.{LineFault}
use Rattle.irc_line.specs.declared.line.LineFault.TheVariants.{BadByte}
use Rattle.irc_line.specs.declared.line.TagLimit.{TagLimit}
use Rattle.irc_line.specs.declared.line.TagLimit.TheVariants.{Server, Client}
use Rattle.irc_line.specs.Line.{Reading, Reads, SplitsTags, SplitsSource, at_sign}
use Rattle.irc_line.specs.Read.{read, text_in, after_spaces, after_word, after_tags, after_source}
use Rattle.irc_line.specs.Text.{source_text, middles_text, trailing_text}
use Rattle.irc_line.specs.CanStand.{HasNoBadByte}
use Rattle.irc_line.proofs.CallerLemmas.{read_ok, read_parameters_whole, good_append}
use Rattle.irc_tags.specs.Standing.{ends_tag_data, HasNoEnd}
use Rattle.irc_tags.specs.ClientOnly.{client_only_text}
use Rattle.irc_tags.proofs.CallerLemmas.{client_only_text-in_line}
use Rattle.irc_reply.specs.Reply.{plain_line}
use Rattle.irc_reply.specs.Tagged.{tag_part, client_tags}
use Rattle.irc_reply.specs.ToServer.{cap_end, with_underscores, passed_line}
use Rattle.irc_reply.specs.ToServer as to_server
use Rattle.irc_reply.specs.ToClient.{relayed_line}
use Rattle.irc_caps.specs.declared.CapSet.{CapSet}
use Rattle.irc_caps.specs.declared.capability.Capability.{Capability}
use Rattle.irc_caps.specs.declared.capability.Capability.TheVariants.{Batch, Chathistory, MessageRedaction, ReadMarker, EchoMessage, MessageTags, ServerTime}
use Rattle.irc_caps.specs.declared.recipients.Recipients.TheVariants.{Holding}
use Rattle.irc_caps.specs.Capability.{name_of}
use Rattle.irc_caps.specs.CapSet.{holds, names_among}
use Rattle.irc_caps.specs.Words.{joined, parts_of, with_words}
use Rattle.irc_caps.specs.Offers.{with_offers, wanted, request_of, request}
use Rattle.irc_caps.specs.Negotiation.{list_in}
use Rattle.byte_text.specs.Words.{ends_word, has_length_to}
use Rattle.chat_change.specs.Words.{ends_target, begins_with_colon, is_star, is_target, is_id}
use Rattle.chat_change.specs.declared.words.TheConstants.{TARGET_LIMIT}
use Rattle.chat_change.specs.Message.{Message}
use Rattle.chat_change.specs.declared.message.Kind.{Kind}
use Rattle.chat_change.specs.declared.message.Kind.TheVariants as kind
use Rattle.cluster_directory.specs.Entry.{Entry, is_same_channel, with_channel, after_join, after_part}
use Rattle.upstream_session.specs.Command.{command_of}
use Rattle.upstream_session.specs.declared.command.ServerCommand.{ServerCommand}
use Rattle.upstream_session.specs.declared.command.ServerCommand.TheVariants.{Cap, Welcome, Greeting, NickInUse, Ping, Nick, Join, Part, Kick, Error, Privmsg, Notice, Redact, Tagmsg, Other}
use Rattle.cluster_directory.specs.declared.config.SessionConfig.{SessionConfig}
use Rattle.upstream_session.specs.declared.connection.TheConstants.{LAST_SERIAL, MOST_TRIES}
use Rattle.upstream_session.specs.declared.connection.ServerSession.{ServerSession}
use Rattle.upstream_session.specs.declared.effect.UpEffect.{UpEffect}
use Rattle.upstream_session.specs.declared.effect.UpEffect.TheVariants.{Send, Relay}
use Rattle.upstream_session.specs.Step.{ServerStep, stays, closes, new}
use Rattle.upstream_session.specs.Messages.{is_same_nick, has_buffer, can_be_kept, conversation, source_of, stamp_of, made_id}
use Rattle.upstream_session.specs.Rows.{relay_to_all, pass_on, ask, ls, ack, cap, first_target, with_nick, joins, welcome, try_again, ping, join_if, leave, put_out, is_up_and_own, keep_by_id, keep_stamped, message_from, message, redaction, redact, tagmsg, serve}
use Rattle.upstream_session.specs.Sayings.{without_ending, sent_tags, is_kept_here, say_by_id, say_words, say_command, say_reading}
use Rattle.upstream_session.specs.Session.{start, reading_step, step, say}
use Rattle.upstream_session.specs.Events.{ServerEvent, after, effects_of, run, all_effects}
use Rattle.upstream_session.specs.Events as event
use Rattle.upstream_session.specs.Standing.{IsOneLine, WritesOneLine, ConfigStands, EntryStands, EventStands}
use Rattle.upstream_session.proofs.CourseLemmas.{either}
use Rattle.upstream_session.proofs.SentLemmas.{tag_bytes}
use Rattle.upstream_session.proofs.EventLemmas.{all_append}

-- ---- bytes

both_good : (a b : List ℕ) → HasNoBadByte (a ++ b) → HasNoBadByte a × HasNoBadByte b
both_good a b good = or_parts (list_any ends_line a) (list_any ends_line b) (sym (list_any-append ends_line a b) ∙ good)

parts_good : (bytes a b : List ℕ) → bytes ≡ a ++ b → HasNoBadByte bytes → HasNoBadByte a × HasNoBadByte b
parts_good bytes a b e good = both_good a b (subst HasNoBadByte e good)

cut_good : (n : ℕ) (text : List ℕ) → HasNoBadByte text → HasNoBadByte (take n text) × HasNoBadByte (drop n text)
cut_good n text good = parts_good text (take n text) (drop n text) (sym (take-append-drop n text)) good

behind_first : (b : ℕ) (bytes : List ℕ) → HasNoBadByte (b ∷ bytes) → HasNoBadByte bytes
behind_first b bytes good = (or_parts (ends_line b) (list_any ends_line bytes) good).1

-- the text of a line from its command on
text_good : (bytes : List ℕ) → HasNoBadByte bytes → HasNoBadByte (text_in bytes)
text_good bytes good = behind_source (after_spaces (after_tags bytes)) (behind_spaces (after_tags bytes) (behind_tags bytes good)) where
  behind_spaces : (text : List ℕ) → HasNoBadByte text → HasNoBadByte (after_spaces text)
  behind_spaces text g = (cut_good _ text g).1

  behind_word : (text : List ℕ) → HasNoBadByte text → HasNoBadByte (after_word text)
  behind_word text g = (cut_good _ text g).1

  behind_tags : (text : List ℕ) → HasNoBadByte text → HasNoBadByte (after_tags text)
  behind_tags [] g = refl
  behind_tags (b ∷ text) g =
      either HasNoBadByte (b == at_sign) ((cut_good 1 (after_word text) (behind_word text (behind_first b text g))).1) g

  behind_source : (text : List ℕ) → HasNoBadByte text → HasNoBadByte (after_source text)
  behind_source [] g = refl
  behind_source (b ∷ text) g =
      either HasNoBadByte (b == colon) (behind_spaces (after_word text) (behind_word text (behind_first b text g))) g

-- ---- lines

ended : (text : List ℕ) → HasNoBadByte text → IsOneLine (text ++ line_ending)
ended text good = (text, refl, good)

in_front : (front bytes : List ℕ) → HasNoBadByte front → IsOneLine bytes → IsOneLine (front ++ bytes)
in_front front bytes good line =
    (front ++ line.0, ap (λ (l : List ℕ). front ++ l) line.1 ∙ sym (append_assoc front line.0 line_ending), good_append front line.0 good line.2)

middles_good : (middles : List (List ℕ)) → AllByRecursion HasNoBadByte middles → HasNoBadByte (middles_text middles)
middles_good [] p = refl
middles_good (middle ∷ middles) p = good_append middle (middles_text middles) p.0 (middles_good middles p.1)

trailing_good : (trailing : Option (List ℕ)) → IfSome trailing HasNoBadByte → HasNoBadByte (trailing_text trailing)
trailing_good None p = refl
trailing_good (Some text) p = p

plain_is_line : (command : List ℕ) (middles : List (List ℕ)) (trailing : Option (List ℕ))
    → HasNoBadByte command → AllByRecursion HasNoBadByte middles → IfSome trailing HasNoBadByte → IsOneLine (plain_line command middles trailing)
plain_is_line command middles trailing c m t =
    in_front command _ c (in_front (middles_text middles) _ (middles_good middles m) (ended (trailing_text trailing) (trailing_good trailing t)))

passed_is_line : (bytes : List ℕ) → HasNoBadByte bytes → IsOneLine (passed_line bytes)
passed_is_line bytes good = ended (text_in bytes) (text_good bytes good)

-- ---- the parts of a line that could be read

tags_good : (tags : Option (List ℕ)) → IfSome tags HasNoEnd → HasNoBadByte (tag_part (client_tags tags))
tags_good None p = refl
tags_good (Some tags) p = with_at (client_only_text tags) (no_bad (client_only_text tags) (recursion_from_All _ (client_only_text tags) (client_only_text-in_line tags p))) where
  byte_good : (b : ℕ) → ends_tag_data b ≡ false → ends_line b ≡ false
  byte_good b e =
      let nul = or_parts (b == 0) ((b == 13) || ((b == 10) || (b == 32))) e in
      let cr = or_parts (b == 13) ((b == 10) || (b == 32)) nul.1 in
      let lf = or_parts (b == 10) (b == 32) cr.1 in
      or_from ((b == 0) || (b == 10)) (b == 13) (or_from (b == 0) (b == 10) nul.0 lf.0) cr.0

  no_bad : (text : List ℕ) → AllByRecursion (λ b. ends_tag_data b ≡ false) text → HasNoBadByte text
  no_bad [] all = refl
  no_bad (b ∷ text) all = or_from (ends_line b) (list_any ends_line text) (byte_good b all.0) (no_bad text all.1)

  with_at : (text : List ℕ) → HasNoBadByte text → HasNoBadByte (tag_part text)
  with_at [] good = refl
  with_at (b ∷ text) good = good_append (b ∷ text) (space ∷ []) good refl

-- what is known of a line that is passed on
record IsWhole (bytes : List ℕ) (line : Reading) : Type 0 where
  text : HasNoBadByte bytes
  tags : IfSome line.tags HasNoEnd
  source : IfSome line.source HasNoBadByte
  parameters : AllByRecursion HasNoBadByte line.parameters

split_tags : (bytes : List ℕ) (tags : Option (List ℕ)) (rest : List ℕ) → SplitsTags bytes tags rest → HasNoBadByte bytes
    → IfSome tags HasNoEnd × HasNoBadByte rest
split_tags bytes None rest split good = (tt, subst HasNoBadByte (sym split.1) good)
split_tags bytes (Some tags) rest split good =
    let body = behind_first at_sign split.0 (subst HasNoBadByte split.2 good) in
    let whole : HasNoBadByte (tags ++ split.1) = subst HasNoBadByte split.3.1 body in (
      All-from_recursion _ tags (tag_bytes tags split.1 split.3.0 whole),
      subst HasNoBadByte (sym split.4) (cut_good 1 split.1 (both_good tags split.1 whole).1).1,
    )

split_source : (bytes : List ℕ) (source : Option (List ℕ)) (rest : List ℕ) → SplitsSource bytes source rest → HasNoBadByte bytes → IfSome source HasNoBadByte
split_source bytes None rest split good = tt
split_source bytes (Some source) rest split good =
    let body = behind_first colon split.0 (parts_good bytes split.2.0 (colon ∷ split.0) split.2.2 good).1 in
    (parts_good split.0 source split.1 split.3.1 body).0

whole : (limit : TagLimit) (bytes : List ℕ) (line : Reading) → Reads limit bytes line → IsWhole bytes line
whole limit bytes line reads =
    let good : HasNoBadByte bytes = false_from_ne_true (list_any ends_line bytes) (reads.sound BadByte) in
    let head = reads.parts.head in
    let tags = split_tags bytes line.tags head.after_tags head.tags_split good in
    record {
      text = good;
      tags = tags.0;
      source = split_source head.after_tags line.source head.after_source head.source_split tags.1;
      parameters = read_parameters_whole limit bytes line reads;
    }

relayed_is_line : (bytes : List ℕ) (line : Reading) → IsWhole bytes line → IsOneLine (relayed_line line.source bytes)
relayed_is_line bytes line is = in_front (source_text line.source) _ (source_good line.source is.source) (passed_is_line bytes is.text) where
  source_good : (source : Option (List ℕ)) → IfSome source HasNoBadByte → HasNoBadByte (source_text source)
  source_good None p = refl
  source_good (Some source) p = good_append source (space ∷ []) p refl

-- ---- targets

target_good : (text : List ℕ) → is_target text ≡ true → HasNoBadByte text
target_good text e =
    let a = and_parts (has_length_to TARGET_LIMIT text && not (list_any ends_target text) && not (begins_with_colon text)) (not (is_star text)) e in
    let b = and_parts (has_length_to TARGET_LIMIT text && not (list_any ends_target text)) (not (begins_with_colon text)) a.0 in
    let c = and_parts (has_length_to TARGET_LIMIT text) (not (list_any ends_target text)) b.0 in
    none text (not-true (list_any ends_target text) c.1) where
      none : (text : List ℕ) → list_any ends_target text ≡ false → HasNoBadByte text
      none [] h = refl
      none (b ∷ text) h =
          let both = or_parts (ends_target b) (list_any ends_target text) h in
          let word = or_parts (ends_word b) (b == 44) both.0 in
          or_from (ends_line b) (list_any ends_line text) (or_parts (ends_line b) (b == 32) word.0).0 (none text both.1)

joins_are_lines : (channels : List (List ℕ)) → list_all is_target channels ≡ true → AllByRecursion WritesOneLine (joins channels)
joins_are_lines [] e = tt
joins_are_lines (channel ∷ channels) e =
    let both = and_parts (is_target channel) (list_all is_target channels) e in
    (plain_is_line (codes "JOIN") (channel ∷ []) None refl (target_good channel both.0, tt) tt, joins_are_lines channels both.1)

-- ---- the request for capabilities

joined_good : (words : List (List ℕ)) → AllByRecursion HasNoBadByte words → HasNoBadByte (joined words)
joined_good [] p = refl
joined_good (word ∷ []) p = p.0
joined_good (word ∷ other ∷ words) p = good_append word (space ∷ joined (other ∷ words)) p.0 (joined_good (other ∷ words) p.1)

name_good : (c : Capability) → HasNoBadByte (name_of c)
name_good Batch = refl
name_good Chathistory = refl
name_good MessageRedaction = refl
name_good ReadMarker = refl
name_good EchoMessage = refl
name_good MessageTags = refl
name_good ServerTime = refl

names_good : (cs : List Capability) → AllByRecursion HasNoBadByte (map name_of cs)
names_good [] = tt
names_good (c ∷ cs) = (name_good c, names_good cs)

cap_end_is_line : IsOneLine cap_end
cap_end_is_line = plain_is_line (codes "CAP") (codes "END" ∷ []) None refl (refl, tt) tt

request_is_line : (offered : CapSet) → IsOneLine (request offered)
request_is_line offered = go (names_among offered wanted) (names_good (filter (λ c. holds offered c) wanted)) where
  go : (names : List (List ℕ)) → AllByRecursion HasNoBadByte names → IsOneLine (request_of names)
  go [] p = cap_end_is_line
  go (name ∷ names) p = plain_is_line (codes "CAP") (codes "REQ" ∷ []) (Some (joined (name ∷ names))) refl (refl, tt) (joined_good (name ∷ names) p)

-- ---- what a session keeps

record Stands (u : ServerSession) : Type 0 where
  entry : EntryStands u.entry
  user : is_target u.home.user ≡ true
  channels : list_all is_target u.home.channels ≡ true

record StepStands (s : ServerStep) : Type 0 where
  session : Stands s.session
  effects : AllByRecursion WritesOneLine s.effects

abbrev with_entry : ServerSession → Entry → ServerSession
with_entry u entry = record u { entry = entry }

entered : (u : ServerSession) (entry : Entry) → Stands u → EntryStands entry → Stands (with_entry u entry)
entered u entry s e = record { entry = e; user = s.user; channels = s.channels }

target_if : (ps : List (List ℕ)) → IfSome (first_target ps) (λ t. is_target t ≡ true)
target_if [] = tt
target_if (word ∷ words) = go (is_target word) refl where
  go : (b : Bool) → is_target word ≡ b → IfSome (if b then Some word else None) (λ t. is_target t ≡ true)
  go true e = e
  go false e = tt

renamed : (u : ServerSession) (nick : Option (List ℕ)) → Stands u → IfSome nick (λ t. is_target t ≡ true) → Stands (with_nick u nick)
renamed u None s p = s
renamed u (Some nick) s p = entered u (record u.entry { nick = nick }) s (record { nick = p; channels = s.entry.channels })

has_joined : (u : ServerSession) (channel : Option (List ℕ)) → Stands u → IfSome channel (λ t. is_target t ≡ true) → Stands (join_if u channel)
has_joined u None s p = s
has_joined u (Some channel) s p = entered u (after_join u.entry channel) s (record { nick = s.entry.nick; channels = more }) where
  more : list_all is_target (with_channel u.entry.channels channel) ≡ true
  more =
      either (λ (l : List (List ℕ)). list_all is_target l ≡ true) (list_any (is_same_channel channel) u.entry.channels) s.entry.channels
      (list_all-append is_target u.entry.channels (channel ∷ [])
      ∙ and_from (list_all is_target u.entry.channels) (is_target channel && true) s.entry.channels (and_from (is_target channel) true p refl))

fewer : (p : List ℕ → Bool) (channels : List (List ℕ)) → list_all is_target channels ≡ true → list_all is_target (filter p channels) ≡ true
fewer p [] e = refl
fewer p (channel ∷ channels) e =
    let both = and_parts (is_target channel) (list_all is_target channels) e in
    let rest = fewer p channels both.1 in
    either (λ (l : List (List ℕ)). list_all is_target l ≡ true) (p channel) (and_from _ _ both.0 rest) rest

has_parted : (u : ServerSession) (channel : List ℕ) → Stands u → Stands (with_entry u (after_part u.entry channel))
has_parted u channel s = entered u (after_part u.entry channel) s (record { nick = s.entry.nick; channels = fewer _ u.entry.channels s.entry.channels })

-- ---- the rows of the server's lines

module _ (u : ServerSession) (s : Stands u) where
  on : (effects : List UpEffect) → AllByRecursion WritesOneLine effects → StepStands (stays u effects)
  on effects p = record { session = s; effects = p }

  closing : StepStands (closes u)
  closing = record { session = record { entry = s.entry; user = s.user; channels = s.channels }; effects = (tt, tt) }

  with_caps : (offered held : CapSet) (takes_redact : Bool) (effects : List UpEffect) → AllByRecursion WritesOneLine effects
      → StepStands (stays (record u { offered = offered; held = held; entry = record u.entry { takes_redact = takes_redact } }) effects)
  with_caps offered held takes_redact effects p = record {
    session = record { entry = record { nick = s.entry.nick; channels = s.entry.channels }; user = s.user; channels = s.channels };
    effects = p;
  }

  ask_row : (list : List ℕ) → StepStands (ask u list)
  ask_row list = with_caps (with_offers u.offered (parts_of list)) u.held u.entry.takes_redact _ (request_is_line (with_offers u.offered (parts_of list)), tt)

  ls_row : (ps : List (List ℕ)) → StepStands (ls u ps)
  ls_row [] = ask_row []
  ls_row (a ∷ []) = ask_row a
  ls_row (a ∷ b ∷ more) =
      either StepStands (is_star a) (with_caps (with_offers u.offered (parts_of b)) u.held u.entry.takes_redact [] tt) (ask_row a)

  ack_row : (list : List ℕ) → StepStands (ack u list)
  ack_row list = with_caps u.offered (with_words u.held (parts_of list)) (with_words u.held (parts_of list)).message_redaction _ (cap_end_is_line, tt)

  cap_row : (ps : List (List ℕ)) → StepStands (cap u ps)
  cap_row [] = on [] tt
  cap_row (a ∷ []) = on [] tt
  cap_row (a ∷ b ∷ more) =
      either StepStands (str_eq_ignore_ascii_case b (codes "LS")) (ls_row more)
      (either StepStands (str_eq_ignore_ascii_case b (codes "ACK")) (ack_row (list_in more))
      (either StepStands (str_eq_ignore_ascii_case b (codes "NAK")) (on _ (cap_end_is_line, tt)) (on [] tt)))

  welcome_row : (ps : List (List ℕ)) → StepStands (welcome u ps)
  welcome_row ps = record { session = up (with_nick u (first_target ps)) (renamed u (first_target ps) s (target_if ps)); effects = joins_are_lines u.home.channels s.channels } where
    up : (v : ServerSession) → Stands v → Stands (with_entry v (record v.entry { is_up = true }))
    up v t = record { entry = record { nick = t.entry.nick; channels = t.entry.channels }; user = t.user; channels = t.channels }

  underscored : (count : ℕ) → HasNoBadByte (with_underscores u.entry.nick count)
  underscored count = good_append u.entry.nick (take count (codes "___")) (target_good u.entry.nick s.entry.nick) (cut_good count (codes "___") refl).0

  try_row : StepStands (try_again u)
  try_row =
      either StepStands (nat_lt u.tries MOST_TRIES)
      (record {
        session = record { entry = s.entry; user = s.user; channels = s.channels };
        effects = (plain_is_line (codes "NICK") (with_underscores u.entry.nick (u.tries + 1) ∷ []) None refl (underscored (u.tries + 1), tt) tt, tt);
      })
      closing

  module _ (bytes : List ℕ) (line : Reading) (is : IsWhole bytes line) where
    passed : AllByRecursion WritesOneLine (relay_to_all line bytes)
    passed = (relayed_is_line bytes line is, tt)

    passes : AllByRecursion WritesOneLine (pass_on u line bytes)
    passes = either (λ (l : List UpEffect). AllByRecursion WritesOneLine l) u.entry.is_up passed tt

    moves : (b : Bool) (v : ServerSession) → Stands v → StepStands (stays (if b then v else u) (pass_on u line bytes))
    moves b v t = record { session = either Stands b t s; effects = passes }

    leaves : (ps : List (List ℕ)) → Stands (leave u ps)
    leaves [] = s
    leaves (channel ∷ more) = has_parted u channel s

    puts_out : (ps : List (List ℕ)) → Stands (put_out u ps)
    puts_out [] = s
    puts_out (channel ∷ []) = s
    puts_out (channel ∷ nick ∷ more) = either Stands (is_same_nick nick u.entry.nick) (has_parted u channel s) s

    ping_row : (ps : List (List ℕ)) → AllByRecursion HasNoBadByte ps → StepStands (ping u line bytes ps)
    ping_row [] p = on _ passes
    ping_row (word ∷ more) p = on _ (plain_is_line (codes "PONG") [] (Some word) refl tt p.0, tt)

    -- a message without an id of its own counts; the others leave the session as it is
    by_id_row : (m : Message) (at : ℕ) (id : Option (List ℕ)) → StepStands (keep_by_id u line bytes m at id)
    by_id_row m at None = on _ passed
    by_id_row m at (Some id) = record { session = record { entry = s.entry; user = s.user; channels = s.channels }; effects = (tt, tt) }

    stamped_row : (m : Message) (id : Option (List ℕ)) (at : ℕ) → StepStands (keep_stamped u line bytes m id at)
    stamped_row m None at = either StepStands (u.serial == LAST_SERIAL) closing (by_id_row m at (made_id u.home u.serial))
    stamped_row m (Some id) at = on _ (tt, tt)

    message_row : (now : ℕ) (k : Kind) (ps : List (List ℕ)) → StepStands (message u now k line bytes ps)
    message_row now k [] = on _ passes
    message_row now k (target ∷ []) = on _ passes
    message_row now k (target ∷ body ∷ more) =
        let m = message_from u k line target body in
        either StepStands u.entry.is_up
        (either StepStands (can_be_kept u m) (stamped_row m (stamp_of line.tags now).id (stamp_of line.tags now).at) (on _ passed)) (on [] tt)

    redaction_row : (source target id : List ℕ) → AllByRecursion WritesOneLine (redaction u source target id ++ Relay (relayed_line line.source bytes) (Holding MessageRedaction) ∷ [])
    redaction_row source target id =
        either (λ (l : List UpEffect). AllByRecursion WritesOneLine (l ++ Relay (relayed_line line.source bytes) (Holding MessageRedaction) ∷ []))
        (has_buffer u.home (conversation u source target) && is_id id) (tt, (relayed_is_line bytes line is, tt)) (relayed_is_line bytes line is, tt)

    redact_row : (ps : List (List ℕ)) → StepStands (redact u line bytes ps)
    redact_row [] = on _ passes
    redact_row (target ∷ []) = on _ passes
    redact_row (target ∷ id ∷ more) =
        either StepStands (u.entry.is_up && u.entry.takes_redact) (on _ (redaction_row (source_of u line.source) target id)) (on _ passes)

    tagmsg_row : StepStands (tagmsg u line bytes)
    tagmsg_row = either StepStands u.entry.is_up (on _ (in_front _ _ (tags_good line.tags is.tags) (relayed_is_line bytes line is), tt)) (on [] tt)

    row : (now : ℕ) (command : ServerCommand) → StepStands (serve u now bytes line command)
    row now Cap = cap_row line.parameters
    row now Welcome = welcome_row line.parameters
    row now Greeting = on [] tt
    row now Tagmsg = tagmsg_row
    row now NickInUse = either StepStands u.entry.is_up (on _ passed) try_row
    row now Ping = ping_row line.parameters is.parameters
    row now Error = closing
    row now Nick = moves (is_up_and_own u line) _ (renamed u (first_target line.parameters) s (target_if line.parameters))
    row now Join = moves (is_up_and_own u line) _ (has_joined u (first_target line.parameters) s (target_if line.parameters))
    row now Part = moves (is_up_and_own u line) _ (leaves line.parameters)
    row now Kick = moves u.entry.is_up _ (puts_out line.parameters)
    row now Privmsg = message_row now kind.Privmsg line.parameters
    row now Notice = message_row now kind.Notice line.parameters
    row now Redact = redact_row line.parameters
    row now Other = on _ passes

  -- ---- what clients say

  -- nothing of what is said changes the entry
  counted : Stands (record u { serial = u.serial + 1 })
  counted = record { entry = s.entry; user = s.user; channels = s.channels }

  module _ (now : ℕ) (text : List ℕ) where
    said_by_id : (tags : Option (List ℕ)) (m : Message) (id : Option (List ℕ)) → Stands (say_by_id u now text tags m id).session
    said_by_id tags m None = s
    said_by_id tags m (Some id) = counted

    said_words : (tags : Option (List ℕ)) (k : Kind) (ps : List (List ℕ)) → Stands (say_words u now text tags k ps).session
    said_words tags k [] = s
    said_words tags k (target ∷ []) = s
    said_words tags k (target ∷ body ∷ more) =
        let m : Message = record { kind = k; source = u.entry.nick; target = target; body = body } in
        either (λ (t : ServerStep). Stands t.session) (is_kept_here u m)
        (either (λ (t : ServerStep). Stands t.session) (u.serial == LAST_SERIAL) closing.session (said_by_id tags m (made_id u.home u.serial))) s

    said_command : (line : Reading) (command : ServerCommand) → Stands (say_command u now text line command).session
    said_command line Privmsg = said_words (sent_tags u line.tags) kind.Privmsg line.parameters
    said_command line Notice = said_words (sent_tags u line.tags) kind.Notice line.parameters
    said_command line Tagmsg = either (λ (t : ServerStep). Stands t.session) u.held.message_tags s s
    said_command line Cap = s
    said_command line Welcome = s
    said_command line Greeting = s
    said_command line NickInUse = s
    said_command line Ping = s
    said_command line Nick = s
    said_command line Join = s
    said_command line Part = s
    said_command line Kick = s
    said_command line Error = s
    said_command line Redact = s
    said_command line Other = s

    said : (r : Result Reading LineFault) → Stands (say_reading u now text r).session
    said (Err fault) = s
    said (Ok line) = said_command line (command_of line.command)

-- and each text is one line, where the client's is
module _ (u : ServerSession) (now : ℕ) (text : List ℕ) (good : HasNoBadByte text) where
  tagged : (tags : Option (List ℕ)) → IfSome tags HasNoEnd → WritesOneLine (Send (to_server.tagged_line tags text))
  tagged tags p = in_front _ _ (tags_good tags p) (passed_is_line text good)

  wrote_by_id : (tags : Option (List ℕ)) → IfSome tags HasNoEnd → (m : Message) (id : Option (List ℕ)) → AllByRecursion WritesOneLine (say_by_id u now text tags m id).effects
  wrote_by_id tags p m None = (tagged tags p, tt)
  wrote_by_id tags p m (Some id) = (tagged tags p, (tt, tt))

  wrote_words : (tags : Option (List ℕ)) → IfSome tags HasNoEnd → (k : Kind) (ps : List (List ℕ)) → AllByRecursion WritesOneLine (say_words u now text tags k ps).effects
  wrote_words tags p k [] = (tagged tags p, tt)
  wrote_words tags p k (target ∷ []) = (tagged tags p, tt)
  wrote_words tags p k (target ∷ body ∷ more) =
      let m : Message = record { kind = k; source = u.entry.nick; target = target; body = body } in
      either (λ (t : ServerStep). AllByRecursion WritesOneLine t.effects) (is_kept_here u m)
      (either (λ (t : ServerStep). AllByRecursion WritesOneLine t.effects) (u.serial == LAST_SERIAL) (tt, tt) (wrote_by_id tags p m (made_id u.home u.serial))) (tagged tags p, tt)

  sent_stand : (tags : Option (List ℕ)) → IfSome tags HasNoEnd → IfSome (sent_tags u tags) HasNoEnd
  sent_stand tags p = either (λ (t : Option (List ℕ)). IfSome t HasNoEnd) u.held.message_tags p tt

  passed_line_stands : AllByRecursion WritesOneLine (Send (passed_line text) ∷ [])
  passed_line_stands = (passed_is_line text good, tt)

  wrote_command : (line : Reading) → IfSome line.tags HasNoEnd → (command : ServerCommand) → AllByRecursion WritesOneLine (say_command u now text line command).effects
  wrote_command line p Privmsg = wrote_words (sent_tags u line.tags) (sent_stand line.tags p) kind.Privmsg line.parameters
  wrote_command line p Notice = wrote_words (sent_tags u line.tags) (sent_stand line.tags p) kind.Notice line.parameters
  wrote_command line p Tagmsg = either (λ (t : ServerStep). AllByRecursion WritesOneLine t.effects) u.held.message_tags (tagged line.tags p, tt) tt
  wrote_command line p Cap = passed_line_stands
  wrote_command line p Welcome = passed_line_stands
  wrote_command line p Greeting = passed_line_stands
  wrote_command line p NickInUse = passed_line_stands
  wrote_command line p Ping = passed_line_stands
  wrote_command line p Nick = passed_line_stands
  wrote_command line p Join = passed_line_stands
  wrote_command line p Part = passed_line_stands
  wrote_command line p Kick = passed_line_stands
  wrote_command line p Error = passed_line_stands
  wrote_command line p Redact = passed_line_stands
  wrote_command line p Other = passed_line_stands

  wrote : (r : Result Reading LineFault) → IfOk r (Reads Client text) → AllByRecursion WritesOneLine (say_reading u now text r).effects
  wrote (Err fault) reads = passed_line_stands
  wrote (Ok line) reads = wrote_command line (whole Client text line reads).tags (command_of line.command)

-- ---- one event, and lists of them

line_stands : (u : ServerSession) (now : ℕ) (bytes : List ℕ) → Stands u → (r : Result Reading LineFault) → IfOk r (Reads Server bytes) → StepStands (reading_step u now bytes r)
line_stands u now bytes s (Err fault) reads = on u s [] tt
line_stands u now bytes s (Ok line) reads = row u s bytes line (whole Server bytes line reads) now (command_of line.command)

step_stands : (u : ServerSession) (now : ℕ) (bytes : List ℕ) → Stands u → StepStands (step u now bytes)
unfolding step
step_stands u now bytes s = either StepStands u.is_closed (on u s [] tt) (line_stands u now bytes s (read Server bytes) (read_ok Server bytes))

stands_after : (u : ServerSession) (e : ServerEvent) → Stands u → Stands (after u e)
unfolding say
stands_after u (event.Line now bytes) s = (step_stands u now bytes s).session
stands_after u (event.Saying now bytes) s =
    either (λ (t : ServerStep). Stands t.session) u.is_closed s (said u s now (without_ending bytes) (read Client (without_ending bytes)))

lines_of : (u : ServerSession) (e : ServerEvent) → Stands u → EventStands e → AllByRecursion WritesOneLine (effects_of u e)
unfolding say
lines_of u (event.Line now bytes) s good = (step_stands u now bytes s).effects
lines_of u (event.Saying now bytes) s good =
    let text = without_ending bytes in
    either (λ (t : ServerStep). AllByRecursion WritesOneLine t.effects) u.is_closed tt (wrote u now text good (read Client text) (read_ok Client text))

all_lines : (u : ServerSession) (events : List ServerEvent) → Stands u → AllByRecursion EventStands events → AllByRecursion WritesOneLine (all_effects u events)
all_lines u [] s all = tt
all_lines u (e ∷ events) s all =
    all_append WritesOneLine (effects_of u e) (all_effects (after u e) events) (lines_of u e s all.0) (all_lines (after u e) events (stands_after u e s) all.1)

run_stands : (u : ServerSession) (events : List ServerEvent) → Stands u → Stands (run u events)
run_stands u [] s = s
run_stands u (e ∷ events) s = run_stands (after u e) events (stands_after u e s)

module _ (config : SessionConfig) (node : List ℕ) (incarnation first_serial : ℕ) (can : ConfigStands config) where
  new_stands : Stands (new config node incarnation first_serial)
  new_stands = record { entry = record { nick = can.nick; channels = refl }; user = can.user; channels = can.channels }

  opening_stands : AllByRecursion WritesOneLine (start (new config node incarnation first_serial))
  opening_stands =
      let nick = target_good config.nick can.nick in
      let user = target_good config.user can.user in (
        plain_is_line (codes "CAP") (codes "LS" ∷ codes "302" ∷ []) None refl (refl, (refl, tt)) tt,
        (
          plain_is_line (codes "NICK") (config.nick ∷ []) None refl (nick, tt) tt,
          (plain_is_line (codes "USER") (config.user ∷ codes "0" ∷ codes "*" ∷ []) (Some config.user) refl (user, (refl, (refl, tt))) user, tt),
        ),
      )

pub start_from_new : (config : SessionConfig) (node : List ℕ) (incarnation first_serial : ℕ) → ConfigStands config
    → AllByRecursion WritesOneLine (start (new config node incarnation first_serial))
start_from_new config node incarnation first_serial can = opening_stands config node incarnation first_serial can

pub lines_from_new : (config : SessionConfig) (node : List ℕ) (incarnation first_serial : ℕ) (events : List ServerEvent) → ConfigStands config → AllByRecursion EventStands events
    → AllByRecursion WritesOneLine (all_effects (new config node incarnation first_serial) events)
lines_from_new config node incarnation first_serial events can all =
    all_lines (new config node incarnation first_serial) events (new_stands config node incarnation first_serial can) all

pub entry_from_new : (config : SessionConfig) (node : List ℕ) (incarnation first_serial : ℕ) (events : List ServerEvent) → ConfigStands config
    → EntryStands (run (new config node incarnation first_serial) events).entry
entry_from_new config node incarnation first_serial events can =
    (run_stands (new config node incarnation first_serial) events (new_stands config node incarnation first_serial can)).entry
