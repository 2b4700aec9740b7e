-- What a client says is kept with the tags that it is sent with.
use Rattle.std.proofs.Common.{◌≡◌, ℕ, ◌<◌, ◌≤◌, Bool, true, false, not, ◌&&◌, ◌||◌, ◌==◌, nat_lt, nat_le, List, [], ◌∷◌, ◌++◌, length, Option, None, Some, Result, Ok, Err, IfOk, refl, sym, ap, ◌∙◌, subst, inl, ⊎_elim, arith}
use Rattle.std.specs.List.{AllByRecursion, list_any}
use Rattle.std.specs.Prelude.{if◌then◌else◌}
use Rattle.std.proofs.lemmas.Bool.{and_from, or_parts, or_from, le-leb, lt-ltb, cases_lt, false_from_ne_true, not_from_false}
use Rattle.std.proofs.lemmas.List.Elements.{All-from_recursion, recursion_from_All}
use Rattle.byte_text.specs.Bytes.{ends_line}
use Rattle.irc_line.specs.declared.line.LineFault.{LineFault}
use Rattle.irc_line.specs.declared.line.LineFault.TheVariants.{TagsTooLong, BadByte}
use Rattle.irc_line.specs.declared.line.TagLimit.TheVariants.{Client}
use Rattle.irc_line.specs.Line.{Reading, Reads, SplitsTags, HasFault, HasNoSpace}
use Rattle.irc_line.specs.Read.{read}
use Rattle.irc_line.proofs.CallerLemmas.{read_ok}
use Rattle.irc_tags.specs.Standing.{ends_tag_data, HasNoEnd}
use Rattle.irc_tags.specs.ClientOnly.{client_only_text, is_client_only_text}
use Rattle.irc_tags.proofs.CallerLemmas.{is_client_only_text-client_only_text, client_only_text-in_line, client_only_text-no_longer}
use Rattle.irc_reply.specs.Tagged.{tag_part, client_tags}
use Rattle.irc_reply.specs.ToServer.{passed_line}
use Rattle.chat_change.specs.declared.words.TheConstants.{TAGS_LIMIT}
use Rattle.byte_text.specs.Words.{ends_word, has_length_to}
use Rattle.chat_change.specs.Words.{is_tags}
use Rattle.chat_change.specs.Message.{Message}
use Rattle.chat_change.specs.declared.message.Kind.{Kind}
use Rattle.chat_change.specs.declared.message.Kind.TheVariants as kind
use Rattle.upstream_session.specs.Command.{command_of}
use Rattle.upstream_session.specs.declared.command.ServerCommand.{ServerCommand}
use Rattle.upstream_session.specs.declared.command.ServerCommand.TheVariants.{Cap, Welcome, Greeting, NickInUse, Ping, Nick, Join, Part, Kick, Error, Privmsg, Notice, Redact, Tagmsg, Other}
use Rattle.upstream_session.specs.declared.connection.TheConstants.{LAST_SERIAL}
use Rattle.upstream_session.specs.declared.connection.ServerSession.{ServerSession}
use Rattle.upstream_session.specs.Step.{ServerStep}
use Rattle.upstream_session.specs.Messages.{made_id, kept_tags}
use Rattle.upstream_session.specs.Sayings.{without_ending, sent_tags, is_kept_here, say_by_id, say_message, say_words, say_command, say_reading}
use Rattle.upstream_session.specs.Session.{say}
use Rattle.upstream_session.specs.Events.{tags_read, IsSentAsKept}
use Rattle.upstream_session.proofs.CourseLemmas.{either}

-- ---- the tags of a client's line

-- a byte that may stand in tag data ends no word
word_byte : (b : ℕ) → ends_tag_data b ≡ false → ends_word b ≡ false
word_byte b e =
    let nul = or_parts (b == 0) ((b == 13) || ((b == 10) || (b == 32))) e in
    let cr = or_parts (b == 13) ((b == 10) || (b == 32)) nul.1 in
    let lf = or_parts (b == 10) (b == 32) cr.1 in
    or_from (ends_line b) (b == 32) (or_from ((b == 0) || (b == 10)) (b == 13) (or_from (b == 0) (b == 10) nul.0 lf.0) cr.0) lf.1

no_word_end : (text : List ℕ) → AllByRecursion (λ b. ends_tag_data b ≡ false) text → list_any ends_word text ≡ false
no_word_end [] all = refl
no_word_end (b ∷ text) all = or_from (ends_word b) (list_any ends_word text) (word_byte b all.0) (no_word_end text all.1)

kept_text : (text : List ℕ) → HasNoEnd text → length text ≤ TAGS_LIMIT → is_client_only_text text ≡ true → (if is_tags text then text else []) ≡ text
kept_text [] line most client = refl
kept_text (b ∷ text) line most client =
    let some = and_from (nat_lt 0 (length (b ∷ text))) (nat_le (length (b ∷ text)) TAGS_LIMIT)
    (lt-ltb 0 (length (b ∷ text)) (omega arith)) (le-leb (length (b ∷ text)) TAGS_LIMIT most) in
    let none = no_word_end (b ∷ text) (recursion_from_All (λ x. ends_tag_data x ≡ false) (b ∷ text) line) in
    let word = and_from (has_length_to TAGS_LIMIT (b ∷ text)) (not (list_any ends_word (b ∷ text))) some (not_from_false _ none) in
    let yes : is_tags (b ∷ text) ≡ true =
    and_from (has_length_to TAGS_LIMIT (b ∷ text) && not (list_any ends_word (b ∷ text))) (is_client_only_text (b ∷ text)) word client in
    ap (λ (t : Bool). if t then b ∷ text else []) yes

all_kept : (tags : List ℕ) → HasNoEnd tags → length tags ≤ TAGS_LIMIT → kept_tags (Some tags) ≡ client_tags (Some tags)
all_kept tags line most =
    kept_text (client_only_text tags) (client_only_text-in_line tags line) (omega (arith, most, client_only_text-no_longer tags line))
    (is_client_only_text-client_only_text tags)

tag_byte : (b : ℕ) → (b == 32) ≡ false → ends_line b ≡ false → ends_tag_data b ≡ false
tag_byte b space bad =
    let one = or_parts ((b == 0) || (b == 10)) (b == 13) bad in
    let two = or_parts (b == 0) (b == 10) one.0 in
    or_from (b == 0) ((b == 13) || ((b == 10) || (b == 32))) two.0 (or_from (b == 13) ((b == 10) || (b == 32)) one.1 (or_from (b == 10) (b == 32) two.1 space))

-- of bytes that stand in front of others
pub tag_bytes : (tags rest : List ℕ) → HasNoSpace tags → list_any ends_line (tags ++ rest) ≡ false → AllByRecursion (λ b. ends_tag_data b ≡ false) tags
tag_bytes [] rest spaces bad = tt
tag_bytes (b ∷ tags) rest spaces bad =
    let both = or_parts (ends_line b) (list_any ends_line (tags ++ rest)) bad in
    (tag_byte b spaces.0 both.0, tag_bytes tags rest spaces.1 both.1)

within : (n : ℕ) → ¬ (4094 < n) → n ≤ TAGS_LIMIT
within n few = ⊎_elim (λ h. absurd (few h)) (λ h. h) (cases_lt 4094 n)

of_line : (bytes : List ℕ) (tags : Option (List ℕ)) (rest : List ℕ) → SplitsTags bytes tags rest
    → ¬ HasFault Client bytes TagsTooLong → ¬ HasFault Client bytes BadByte → kept_tags tags ≡ client_tags tags
of_line bytes None rest split few good = refl
of_line bytes (Some tags) rest split few good =
    let spelled : bytes ≡ 64 ∷ (tags ++ split.1) = split.2 ∙ ap (λ (l : List ℕ). 64 ∷ l) split.3.1 in
    let no_bad : list_any ends_line (64 ∷ (tags ++ split.1)) ≡ false =
    subst (λ (l : List ℕ). list_any ends_line l ≡ false) spelled (false_from_ne_true (list_any ends_line bytes) good) in
    let line = All-from_recursion (λ b. ends_tag_data b ≡ false) tags (tag_bytes tags split.1 split.3.0 no_bad) in
    all_kept tags line (within (length tags) (λ many. few (tags, rest, split, many)))

of_reading : (bytes : List ℕ) (reading : Result Reading LineFault) → IfOk reading (Reads Client bytes)
    → kept_tags (tags_read reading) ≡ client_tags (tags_read reading)
of_reading bytes (Err fault) reads = refl
of_reading bytes (Ok line) reads =
    of_line bytes line.tags reads.parts.head.after_tags reads.parts.head.tags_split (reads.sound TagsTooLong) (reads.sound BadByte)

-- a record keeps all tags that are sent
sent_kept : (u : ServerSession) (tags : Option (List ℕ)) → kept_tags tags ≡ client_tags tags → kept_tags (sent_tags u tags) ≡ client_tags (sent_tags u tags)
sent_kept u tags same = either (λ (t : Option (List ℕ)). kept_tags t ≡ client_tags t) u.held.message_tags same refl

-- ---- what is said

abbrev IsKeptSo : List ℕ → ServerStep → Type 0
IsKeptSo text s = AllByRecursion (IsSentAsKept text s.effects) s.effects

module _ (u : ServerSession) (now : ℕ) (text : List ℕ) where
  by_id : (tags : Option (List ℕ)) (m : Message) → kept_tags tags ≡ client_tags tags → (id : Option (List ℕ)) → IsKeptSo text (say_by_id u now text tags m id)
  by_id tags m same None = (tt, tt)
  by_id tags m same (Some id) = (tt, (inl (ap (λ t. tag_part t ++ passed_line text) (sym same)), tt))

  message : (tags : Option (List ℕ)) (m : Message) → kept_tags tags ≡ client_tags tags → IsKeptSo text (say_message u now text tags m)
  message tags m same =
      either (λ (s : ServerStep). IsKeptSo text s) (is_kept_here u m)
      (either (λ (s : ServerStep). IsKeptSo text s) (u.serial == LAST_SERIAL) (tt, tt) (by_id tags m same (made_id u.home u.serial))) (tt, tt)

  words : (tags : Option (List ℕ)) (k : Kind) → kept_tags tags ≡ client_tags tags → (ps : List (List ℕ)) → IsKeptSo text (say_words u now text tags k ps)
  words tags k same [] = (tt, tt)
  words tags k same (target ∷ []) = (tt, tt)
  words tags k same (target ∷ body ∷ more) = message tags (record { kind = k; source = u.entry.nick; target = target; body = body }) same

  command : (line : Reading) → kept_tags line.tags ≡ client_tags line.tags → (word : ServerCommand) → IsKeptSo text (say_command u now text line word)
  command line same Privmsg = words (sent_tags u line.tags) kind.Privmsg (sent_kept u line.tags same) line.parameters
  command line same Notice = words (sent_tags u line.tags) kind.Notice (sent_kept u line.tags same) line.parameters
  command line same Tagmsg = either (λ (s : ServerStep). IsKeptSo text s) u.held.message_tags (tt, tt) tt
  command line same Cap = (tt, tt)
  command line same Welcome = (tt, tt)
  command line same Greeting = (tt, tt)
  command line same NickInUse = (tt, tt)
  command line same Ping = (tt, tt)
  command line same Nick = (tt, tt)
  command line same Join = (tt, tt)
  command line same Part = (tt, tt)
  command line same Kick = (tt, tt)
  command line same Error = (tt, tt)
  command line same Redact = (tt, tt)
  command line same Other = (tt, tt)

  reading : (r : Result Reading LineFault) → kept_tags (tags_read r) ≡ client_tags (tags_read r) → IsKeptSo text (say_reading u now text r)
  reading (Err fault) same = (tt, tt)
  reading (Ok line) same = command line same (command_of line.command)

pub sent_as_kept : (u : ServerSession) (now : ℕ) (bytes : List ℕ) → IsKeptSo (without_ending bytes) (say u now bytes)
unfolding say
sent_as_kept u now bytes =
    either (λ (s : ServerStep). IsKeptSo (without_ending bytes) s) u.is_closed tt
    (reading u now (without_ending bytes) (read Client (without_ending bytes)) (of_reading (without_ending bytes) (read Client (without_ending bytes)) (read_ok Client (without_ending bytes))))
