-- What a registered session sends is lines that read back, and its markers are of lawful buffers and of times.
use Rattle.std.proofs.Common.{◌≡◌, ℕ, ◌+◌, ◌*◌, ◌≤◌, Bool, true, false, cond, List, [], ◌∷◌, ◌++◌, length, map, take, drop, filter, codes, Option, None, Some, Result, Ok, Err, refl, sym, ap, ◌∙◌, arith, length-append, take-append-drop, lit≤}
use Rattle.std.specs.Prelude.{◌==◌, ◌&&◌, ◌||◌, not, nat_lt, nat_le, IfSome, IfOk, is_some}
use Rattle.std.specs.List.{AllByRecursion, list_any, list_all, slice_split, onto_first}
use Rattle.std.proofs.lemmas.Bool.{and_parts, or_parts, leb-true}
use Rattle.std.proofs.lemmas.Bool.Decides.{nat_tests}
use Rattle.std.proofs.lemmas.List.{length-take}
use Rattle.std.proofs.lemmas.List.Folds.{list_any-append}
use Rattle.byte_text.specs.Bytes.{ends_line}
use Rattle.irc_time.specs.Reading.{time_of}
use Rattle.irc_line.specs.declared.line.LineFault.{LineFault}
use Rattle.irc_line.specs.declared.line.LineFault.TheVariants.{Empty, TagsTooLong, TooLong, BadByte, NoCommand}
use Rattle.irc_line.specs.declared.line.TagLimit.{TagLimit}
use Rattle.irc_line.specs.declared.line.TagLimit.TheVariants.{Client}
use Rattle.irc_line.specs.Line.{Reading, Reads, is_command}
use Rattle.irc_line.specs.Read.{read}
use Rattle.irc_line.specs.CanStand.{HasNoBadByte, CanBeMiddle}
use Rattle.irc_line.specs.Lines.{AreLines}
use Rattle.irc_line.proofs.CallerLemmas.{one_line, good_append, middle_from, no_bad_above, read_parameters_whole, read_ok}
use Rattle.irc_caps.specs.declared.CapSet.{CapSet}
use Rattle.irc_caps.specs.declared.capability.Capability.{Capability}
use Rattle.irc_caps.specs.declared.capability.Capability.TheVariants.{Batch, Chathistory as History, MessageRedaction, ReadMarker, EchoMessage, MessageTags, ServerTime}
use Rattle.irc_caps.specs.Capability.{capabilities, name_of}
use Rattle.irc_caps.specs.CapSet.{all_capabilities, holds, names}
use Rattle.irc_caps.specs.Negotiation.{Negotiation, NegotiationStep, registered, cap_line, ls, list, ack, nak, req_words, req, list_in, ended, invalid, is_same_word, cap_answer}
use Rattle.irc_reply.specs.Echo.{echoed}
use Rattle.irc_caps.specs.Words.{joined, words_of, is_word, list_limit, is_acknowledged, wish_of}
use Rattle.irc_reply.specs.Reply.{reply, unknown_text, need_more_params}
use Rattle.irc_reply.specs.Standing.{IsCluster, IsWordTo, target_limit}
use Rattle.irc_reply.proofs.CallerLemmas.{reply_line, unknown_line, too_long_line}
use Rattle.chat_change.specs.declared.words.TheConstants.{NAME_LIMIT}
use Rattle.byte_text.specs.Words.{has_length_to}
use Rattle.chat_change.specs.Words.{is_name_byte, is_name, is_target, is_id}
use Rattle.chat_change.specs.Buffer.{IsLawfulBuffer, buffer_of}
use Rattle.chat_change.specs.Faults.{unless_lawful}
use Rattle.chat_change.specs.declared.faults.ChangeFault.TheVariants.{BadName, BadTarget}
use Rattle.chat_change.specs.declared.change.Change.{Change}
use Rattle.chat_change.specs.declared.change.Change.TheVariants.{Mark}
use Rattle.chat_change.proofs.CallerLemmas.{lawful_buffer}
use Rattle.chat_query.specs.Parameters.{has_timestamp_key, timestamp_of, moment_of, first_of}
use Rattle.chat_query.specs.Buffers.{has_buffer}
use Rattle.chat_query.specs.Standing.{IsSoundSession}
use Rattle.chat_query.specs.declared.facts.Facts.{Facts}
use Rattle.chat_query.proofs.CallerLemmas.{echoed_word, target_word}
use Rattle.cluster_directory.specs.Entry.{Entry}
use Rattle.cluster_directory.specs.Directory.{Directory, entry_in}
use Rattle.irc_reply.specs.ToClient.{no_nick_given, erroneous_nick, may_not_reregister, pong, not_connected, closing_link}
use Rattle.irc_reply.specs.ToServer.{passed_line, tagged_line}
use Rattle.client_session.specs.Command.{command_of}
use Rattle.client_session.specs.Step.{Step, answer, refusal, ping, nick_refusal}
use Rattle.client_session.specs.Registration.{user_name}
use Rattle.client_session.specs.Registered.{stays, is_up, takes_redact, with_nick_of, upstream, answer_if, need_more, pass, user_if, nick_unless, with_capability, marker_put, markread_put, redact_named, redact_of, after_registration}
use Rattle.client_session.specs.Session.{facts_now, refuse, reading_step, step, too_long}
use Rattle.client_session.specs.declared.command.ClientCommand.{ClientCommand}
use Rattle.client_session.specs.declared.command.ClientCommand.TheVariants.{Cap, Pass, Nick, User, Ping, Pong, Quit, Chathistory, Markread, Redact, Message, Other}
use Rattle.client_session.specs.declared.effect.Effect.{Effect}
use Rattle.client_session.specs.declared.effect.Effect.TheVariants.{Send, Put, Ask, Upstream, Close}
use Rattle.client_session.specs.declared.stage.Stage.{Stage}
use Rattle.client_session.specs.declared.stage.Stage.TheVariants as stage

-- what is known of a session may stand in its lines
pub record IsSoundFacts (f : Facts) : Type 0 where
  pub session : IsSoundSession f
  pub cluster : CanBeMiddle f.cluster
  pub network : is_name f.network ≡ true

-- a marker of a lawful buffer, of a time
abbrev pub IsTimedMark : Change → Type 0
IsTimedMark (Mark b t) = IsLawfulBuffer b × ((bytes : List ℕ) × (time_of bytes ≡ Some t))
IsTimedMark _ = ⊥

abbrev pub EffectStands : TagLimit → Effect → Type 0
EffectStands limit (Send bytes) = AreLines limit bytes
EffectStands limit (Put change) = IsTimedMark change
EffectStands limit (Ask line) = Unit {0}
EffectStands limit (Upstream bytes) = Unit {0}
EffectStands limit Close = Unit {0}

abbrev pub EffectsStand : TagLimit → List Effect → Type 0
EffectsStand limit effects = AllByRecursion (EffectStands limit) effects

-- registered, with facts that may stand in lines, or closed
abbrev pub IsSoundStage : Stage → Type 0
IsSoundStage (stage.Waiting w) = ⊥
IsSoundStage (stage.Registered f) = IsSoundFacts f
IsSoundStage stage.Closed = Unit {0}

pub record StepStands (limit : TagLimit) (s : Step) : Type 0 where
  pub effects : EffectsStand limit s.effects
  pub session : IsSoundStage s.session

-- the present nick of a network may stand in a line
abbrev pub NickStands : Option Entry → Type 0
NickStands None = Unit {0}
NickStands (Some entry) = IsWordTo target_limit entry.nick

-- ---- choices

either_effects : (limit : TagLimit) (b : Bool) (one two : List Effect) → (b ≡ true → EffectsStand limit one) → (b ≡ false → EffectsStand limit two) → EffectsStand limit (cond b one two)
either_effects limit true one two p q = p refl
either_effects limit false one two p q = q refl

pub effects-append : (limit : TagLimit) (one two : List Effect) → EffectsStand limit one → EffectsStand limit two → EffectsStand limit (one ++ two)
effects-append limit [] two p q = q
effects-append limit (effect ∷ one) two p q = (p.0, effects-append limit one two p.1 q)

-- ---- bytes

good_take : (n : ℕ) (text : List ℕ) → HasNoBadByte text → HasNoBadByte (take n text)
good_take n text good =
    (or_parts (list_any ends_line (take n text)) (list_any ends_line (drop n text)) (sym (list_any-append ends_line (take n text) (drop n text)) ∙ ap (list_any ends_line) (take-append-drop n text) ∙ good)).0

short_take : (n : ℕ) (text : List ℕ) → length (take n text) ≤ n
short_take n text = omega (arith, length-take n text)

good_joined : (words : List (List ℕ)) → AllByRecursion HasNoBadByte words → HasNoBadByte (joined words)
good_joined [] p = refl
good_joined (word ∷ []) p = p.0
good_joined (word ∷ other ∷ words) p = good_append word (32 ∷ joined (other ∷ words)) p.0 (good_joined (other ∷ words) p.1)

good_onto : (b : ℕ) (words : List (List ℕ)) → ends_line b ≡ false → AllByRecursion HasNoBadByte words → AllByRecursion HasNoBadByte (onto_first b words)
good_onto b [] e p = (ap (λ t. t || false) e, tt)
good_onto b (word ∷ words) e p = (ap (λ t. t || list_any ends_line word) e ∙ p.0, p.1)

good_split : (text : List ℕ) → HasNoBadByte text → AllByRecursion HasNoBadByte (slice_split (λ b. b == 32) text)
good_split [] good = (refl, tt)
good_split (b ∷ text) good =
    let both = or_parts (ends_line b) (list_any ends_line text) good in
    go (b == 32) (good_split text both.1) both.0 where
      go : (t : Bool) → AllByRecursion HasNoBadByte (slice_split (λ b. b == 32) text) → ends_line b ≡ false
          → AllByRecursion HasNoBadByte (cond t ([] ∷ slice_split (λ b. b == 32) text) (onto_first b (slice_split (λ b. b == 32) text)))
      go true p e = (refl, p)
      go false p e = good_onto b (slice_split (λ b. b == 32) text) e p

good_filter : (words : List (List ℕ)) → AllByRecursion HasNoBadByte words → AllByRecursion HasNoBadByte (filter is_word words)
good_filter [] p = tt
good_filter (word ∷ words) p = go (is_word word) (good_filter words p.1) where
  go : (t : Bool) → AllByRecursion HasNoBadByte (filter is_word words) → AllByRecursion HasNoBadByte (cond t (word ∷ filter is_word words) (filter is_word words))
  go true q = (p.0, q)
  go false q = q

good_words : (text : List ℕ) → HasNoBadByte text → AllByRecursion HasNoBadByte (words_of text)
good_words text good = good_filter (slice_split (λ b. b == 32) text) (good_split text good)

-- ---- names

above : (b : ℕ) → is_name_byte b ≡ true → 33 ≤ b
above b e = grind (arith, nat_tests)

all_above : (text : List ℕ) → list_all is_name_byte text ≡ true → AllByRecursion (λ b. 33 ≤ b) text
all_above [] e = tt
all_above (b ∷ text) e = (let both = and_parts (is_name_byte b) (list_all is_name_byte text) e in (above b both.0, all_above text both.1))

pub name_stands : (text : List ℕ) → is_name text ≡ true → HasNoBadByte text × (length text ≤ 32)
name_stands text e =
    let a = and_parts (has_length_to NAME_LIMIT text) (list_all is_name_byte text) e in
    let b = and_parts (nat_lt 0 (length text)) (nat_le (length text) NAME_LIMIT) a.0 in
    (no_bad_above text (all_above text a.1), leb-true (length text) NAME_LIMIT b.1)

-- the names of capabilities
capability_good : (c : Capability) → HasNoBadByte (name_of c) × (length (name_of c) ≤ 23)
capability_good Batch = (refl, lit≤ tt)
capability_good History = (refl, lit≤ tt)
capability_good MessageRedaction = (refl, lit≤ tt)
capability_good ReadMarker = (refl, lit≤ tt)
capability_good EchoMessage = (refl, lit≤ tt)
capability_good MessageTags = (refl, lit≤ tt)
capability_good ServerTime = (refl, lit≤ tt)

names_good : (cs : List Capability) → AllByRecursion HasNoBadByte (map name_of cs)
names_good [] = tt
names_good (c ∷ cs) = ((capability_good c).0, names_good cs)

names_short : (cs : List Capability) → length (joined (map name_of cs)) ≤ 24 * length cs
names_short [] = omega arith
names_short (c ∷ []) = (let short = (capability_good c).1 in omega arith)
names_short (c ∷ d ∷ cs) =
    let short = (capability_good c).1 in
    let rest = names_short (d ∷ cs) in
    let both = length-append (name_of c) (32 ∷ joined (map name_of (d ∷ cs))) in
    omega arith

few : (p : Capability → Bool) (cs : List Capability) → length (filter p cs) ≤ length cs
few p [] = omega arith
few p (c ∷ cs) = go (p c) (few p cs) where
  go : (t : Bool) → length (filter p cs) ≤ length cs → length (cond t (c ∷ filter p cs) (filter p cs)) ≤ length (c ∷ cs)
  go true h = omega arith
  go false h = omega arith

caps_good : (caps : CapSet) → HasNoBadByte (joined (names caps)) × (length (joined (names caps)) ≤ 168)
caps_good caps =
    let held = filter (λ c. holds caps c) capabilities in
    let short = names_short held in
    let seven : length held ≤ 7 = few (λ c. holds caps c) capabilities in
    (good_joined (names caps) (names_good held), omega arith)

-- ---- replies

module _ (limit : TagLimit) (cluster : List ℕ) (is : IsCluster cluster) where
  pub one_word : (command word text : List ℕ) → is_command command ≡ true → CanBeMiddle word → HasNoBadByte text → length command + (length word + length text) ≤ 442
      → AreLines limit (reply cluster command (word ∷ []) (Some text))
  one_word command word text c w t size =
      let a = length-append word [] in
      reply_line limit cluster is command (word ∷ []) (Some text) c (w, tt) t (lit≤ tt) (omega arith)

  two_words : (command word other text : List ℕ) → is_command command ≡ true → CanBeMiddle word → CanBeMiddle other → HasNoBadByte text
      → length command + (length word + (length other + length text)) ≤ 441 → AreLines limit (reply cluster command (word ∷ other ∷ []) (Some text))
  two_words command word other text c w o t size =
      let a = length-append word (32 ∷ (other ++ [])) in
      let b = length-append other [] in
      reply_line limit cluster is command (word ∷ other ∷ []) (Some text) c (w, (o, tt)) t (lit≤ tt) (omega arith)

  pong_line : CanBeMiddle cluster → (word : List ℕ) → HasNoBadByte word → AreLines limit (pong cluster word)
  pong_line middle word good =
      let few = is.1 in
      let short = short_take 300 word in
      one_word (codes "PONG") cluster (take 300 word) refl middle (good_take 300 word good) (omega arith)

  either_refusal : (b : Bool) (one two : Option (List ℕ)) → IfSome one (AreLines limit) → IfSome two (AreLines limit) → IfSome (cond b one two) (AreLines limit)
  either_refusal true one two p q = p
  either_refusal false one two p q = q

  module _ (nick : List ℕ) (n : IsWordTo target_limit nick) where
    pub need_more_line : (command : List ℕ) → CanBeMiddle command → length command ≤ 64 → AreLines limit (need_more_params cluster nick command)
    need_more_line command c short = (let long = n.1 in two_words (codes "461") nick command (codes "Not enough parameters") refl n.0 c refl (omega arith))

    no_nick_line : AreLines limit (no_nick_given cluster nick)
    no_nick_line = (let long = n.1 in one_word (codes "431") nick (codes "No nickname given") refl n.0 refl (omega arith))

    reregister_line : AreLines limit (may_not_reregister cluster nick)
    reregister_line = (let long = n.1 in one_word (codes "462") nick (codes "You may not reregister") refl n.0 refl (omega arith))

    erroneous_line : (given : List ℕ) → HasNoBadByte given → AreLines limit (erroneous_nick cluster nick given)
    erroneous_line given good =
        let long = n.1 in
        let word = echoed_word given good in
        let short = word.1 in
        two_words (codes "432") nick (echoed given) (codes "Erroneous nickname") refl n.0 word.0 refl (omega arith)

    not_connected_line : (network : List ℕ) → is_name network ≡ true → AreLines limit (not_connected cluster nick network)
    not_connected_line network e =
        let long = n.1 in
        let name = name_stands network e in
        let short = name.1 in
        let size = length-append (codes "Not connected to ") network in
        one_word (codes "NOTICE") nick (codes "Not connected to " ++ network) refl n.0 (good_append (codes "Not connected to ") network refl name.0) (omega arith)

    pub refusal_stands : (fault : LineFault) → EffectsStand limit (refusal cluster nick fault)
    refusal_stands Empty = tt
    refusal_stands TagsTooLong = (too_long_line limit cluster is nick n, tt)
    refusal_stands TooLong = (too_long_line limit cluster is nick n, tt)
    refusal_stands BadByte = (unknown_line limit cluster is nick (codes "*") n (middle_from (codes "*") refl, lit≤ tt), tt)
    refusal_stands NoCommand = (unknown_line limit cluster is nick (codes "*") n (middle_from (codes "*") refl, lit≤ tt), tt)

    pub nick_refusal_stands : (ps : List (List ℕ)) → AllByRecursion HasNoBadByte ps → IfSome (nick_refusal cluster nick ps) (AreLines limit)
    nick_refusal_stands [] p = no_nick_line
    nick_refusal_stands (given ∷ more) p =
        either_refusal (length given == 0) (Some (no_nick_given cluster nick)) _ no_nick_line
        (either_refusal (not (is_target given)) (Some (erroneous_nick cluster nick given)) None (erroneous_line given p.0) tt)

    pub ping_stands : CanBeMiddle cluster → (ps : List (List ℕ)) → AllByRecursion HasNoBadByte ps → EffectsStand limit (ping cluster nick ps)
    ping_stands middle [] p = (need_more_line (codes "PING") (middle_from (codes "PING") refl) (lit≤ tt), tt)
    ping_stands middle (word ∷ more) p = (pong_line middle word p.0, tt)

    -- ---- CAP

    cap_line_stands : (subcommand text : List ℕ) → CanBeMiddle subcommand → length subcommand ≤ 4 → HasNoBadByte text → length text ≤ 200 → AreLines limit (cap_line cluster nick subcommand text)
    cap_line_stands subcommand text s few t short = (let long = n.1 in two_words (codes "CAP") nick subcommand text refl n.0 s t (omega arith))

    abbrev IsTold : NegotiationStep → Type 0
    IsTold a = IfSome a.line (AreLines limit)

    either_told : (b : Bool) (one two : NegotiationStep) → (b ≡ true → IsTold one) → IsTold two → IsTold (cond b one two)
    either_told true one two p q = p refl
    either_told false one two p q = q

    names_told : (subcommand : List ℕ) (caps : CapSet) → CanBeMiddle subcommand → length subcommand ≤ 4 → AreLines limit (cap_line cluster nick subcommand (joined (names caps)))
    names_told subcommand caps s few =
        let good = caps_good caps in
        let short = good.1 in
        cap_line_stands subcommand (joined (names caps)) s few good.0 (omega arith)

    words_told : (m : Negotiation) (words : List (List ℕ)) → AllByRecursion HasNoBadByte words → IsTold (req_words cluster nick m words)
    words_told m words good =
        either_told (is_acknowledged words) (ack cluster nick m words) (nak cluster nick m (joined words))
        (λ e. cap_line_stands (codes "ACK") (joined words) (middle_from (codes "ACK") refl) (lit≤ tt) (good_joined words good)
        (leb-true (length (joined words)) list_limit (and_parts (nat_le (length (joined words)) list_limit) (list_all (λ word. is_some (wish_of word)) words) e).0))
        (cap_line_stands (codes "NAK") (take list_limit (joined words)) (middle_from (codes "NAK") refl) (lit≤ tt) (good_take list_limit (joined words) (good_joined words good)) (short_take list_limit (joined words)))

    list_good : (ps : List (List ℕ)) → AllByRecursion HasNoBadByte ps → HasNoBadByte (list_in ps)
    list_good [] p = refl
    list_good (text ∷ more) p = p.0

    invalid_told : (m : Negotiation) (subcommand : List ℕ) → HasNoBadByte subcommand → IsTold (invalid cluster nick m subcommand)
    invalid_told m subcommand good =
        let long = n.1 in
        let word = echoed_word subcommand good in
        let short = word.1 in
        two_words (codes "410") nick (echoed subcommand) (codes "Invalid CAP command") refl n.0 word.0 refl (omega arith)

    pub cap_told : (m : Negotiation) (ps : List (List ℕ)) → AllByRecursion HasNoBadByte ps → IsTold (cap_answer cluster nick m ps)
    cap_told m [] p = need_more_line (codes "CAP") (middle_from (codes "CAP") refl) (lit≤ tt)
    cap_told m (subcommand ∷ more) p =
        either_told (is_same_word subcommand (codes "LS")) (ls cluster nick m) _ (λ e. names_told (codes "LS") all_capabilities (middle_from (codes "LS") refl) (lit≤ tt))
        (either_told (is_same_word subcommand (codes "LIST")) (list cluster nick m) _ (λ e. names_told (codes "LIST") m.caps (middle_from (codes "LIST") refl) (lit≤ tt))
        (either_told (is_same_word subcommand (codes "REQ")) (req cluster nick m more) _ (λ e. words_told m (words_of (list_in more)) (good_words (list_in more) (list_good more p.1)))
        (either_told (is_same_word subcommand (codes "END")) (ended m) (invalid cluster nick m subcommand) (λ e. tt) (invalid_told m subcommand p.0))))

  plain_fail : (code text : List ℕ) → CanBeMiddle code → HasNoBadByte text → length code + length text ≤ 60 → AreLines limit (reply cluster (codes "FAIL") (codes "REDACT" ∷ code ∷ []) (Some text))
  plain_fail code text c t size = two_words (codes "FAIL") (codes "REDACT") code text refl (middle_from (codes "REDACT") refl) c t (omega arith)

  target_fail : (code target text : List ℕ) → CanBeMiddle code → is_target target ≡ true → HasNoBadByte text → length code + length text ≤ 60
      → AreLines limit (reply cluster (codes "FAIL") (codes "REDACT" ∷ code ∷ target ∷ []) (Some text))
  target_fail code target text c e t size =
      let word = target_word target e in
      let long = word.1 in
      let a = length-append code (32 ∷ (target ++ [])) in
      let b = length-append target [] in
      reply_line limit cluster is (codes "FAIL") (codes "REDACT" ∷ code ∷ target ∷ []) (Some text) refl (middle_from (codes "REDACT") refl, (c, (word.0, tt))) t (lit≤ tt) (omega arith)

pub closing_line : (limit : TagLimit) → AreLines limit closing_link
closing_line limit =
    one_line limit (record { tags = None; source = None; command = codes "ERROR"; middles = []; trailing = Some (codes "Closing link") })
    (record { tags = tt; source = tt; command = refl; middles = tt; trailing = refl; count = lit≤ tt; size = lit≤ tt })

-- ---- the table of commands

module _ (limit : TagLimit) (f : Facts) (sound : IsSoundFacts f) where
  unknown_stands : (command : List ℕ) → CanBeMiddle command → length command ≤ 64 → EffectsStand limit (answer (unknown_text f.cluster f.nick command))
  unknown_stands command c short = (unknown_line limit f.cluster sound.session.cluster f.nick command sound.session.nick (c, short), tt)

  capable : (has : Bool) (command : List ℕ) (effects : List Effect) → CanBeMiddle command → length command ≤ 64 → EffectsStand limit effects → EffectsStand limit (with_capability has f command effects)
  capable has command effects c short p = either_effects limit has effects _ (λ e. p) (λ e. unknown_stands command c short)

  upstream_stands : (entry : Option Entry) (line : List ℕ) → EffectsStand limit (upstream entry f line)
  upstream_stands entry line =
      either_effects limit (is_up entry) _ _ (λ e. (tt, tt)) (λ e. (not_connected_line limit f.cluster sound.session.cluster f.nick sound.session.nick f.network sound.network, tt))

  need_more_stands : (command : List ℕ) → CanBeMiddle command → length command ≤ 64 → EffectsStand limit (need_more f command)
  need_more_stands command c short = (need_more_line limit f.cluster sound.session.cluster f.nick sound.session.nick command c short, tt)

  reregister_stands : EffectsStand limit (answer (may_not_reregister f.cluster f.nick))
  reregister_stands = (reregister_line limit f.cluster sound.session.cluster f.nick sound.session.nick, tt)

  pass_stands : (ps : List (List ℕ)) → EffectsStand limit (pass f ps)
  pass_stands [] = need_more_stands (codes "PASS") (middle_from (codes "PASS") refl) (lit≤ tt)
  pass_stands (a ∷ more) = reregister_stands

  user_stands : (name : Option (List ℕ)) → EffectsStand limit (user_if f name)
  user_stands None = need_more_stands (codes "USER") (middle_from (codes "USER") refl) (lit≤ tt)
  user_stands (Some name) = reregister_stands

  nick_line_stands : (entry : Option Entry) (ps : List (List ℕ)) (refused : Option (List ℕ)) → IfSome refused (AreLines limit) → EffectsStand limit (nick_unless entry f ps refused)
  nick_line_stands entry ps None p = upstream_stands entry _
  nick_line_stands entry ps (Some line) p = (p, tt)

  -- ---- markers

  marker_stands : (target word : List ℕ) (at : Option ℕ) → moment_of word ≡ at → EffectsStand limit (marker_put f target at)
  marker_stands target word None e = tt
  marker_stands target word (Some at) e =
      either_effects limit (has_buffer f target) _ _ (λ is. ((lawful_of f.account f.network target is, (drop 10 word, timed (has_timestamp_key word) (timestamp_of word) at e)), tt)) (λ is. tt) where
        timed : (b : Bool) (o : Option ℕ) (at : ℕ) → cond b o None ≡ Some at → o ≡ Some at
        timed true o at e = e
        timed false o at e = cc

        lawful_of : (account network target : List ℕ) → (is_name account && is_name network && is_target target) ≡ true → IsLawfulBuffer (buffer_of account network target)
        lawful_of account network target is =
            let a = and_parts (is_name account && is_name network) (is_target target) is in
            lawful_buffer account network target (λ i. unless_lawful (a.0 i) BadName (unless_lawful (a.1 i) BadTarget None))

  put_stands : (ps : List (List ℕ)) → EffectsStand limit (markread_put f ps)
  put_stands [] = tt
  put_stands (target ∷ []) = tt
  put_stands (target ∷ word ∷ more) = marker_stands target word (moment_of word) refl

  -- ---- REDACT

  redact_named_stands : (entry : Option Entry) (shown : Bool) (target id : List ℕ) (reason : Option (List ℕ)) → EffectsStand limit (redact_named entry f shown target id reason)
  redact_named_stands entry shown target id reason =
      either_effects limit (not (has_buffer f target)) _ _
      (λ e. (plain_fail limit f.cluster sound.session.cluster (codes "INVALID_TARGET") (codes "Invalid target") (middle_from (codes "INVALID_TARGET") refl) refl (lit≤ tt), tt))
      (λ e.
      (let is : is_target target ≡ true = (and_parts (is_name f.account && is_name f.network) (is_target target) (is_not (has_buffer f target) e)).1 in
      either_effects limit (not (is_id id && shown)) _ _
      (λ e. (target_fail limit f.cluster sound.session.cluster (codes "UNKNOWN_MSGID") target (codes "No such message") (middle_from (codes "UNKNOWN_MSGID") refl) is refl (lit≤ tt), tt))
      (λ e.
      either_effects limit (not (takes_redact entry)) _ _
      (λ e. (target_fail limit f.cluster sound.session.cluster (codes "REDACT_FORBIDDEN") target (codes "Not allowed here") (middle_from (codes "REDACT_FORBIDDEN") refl) is refl (lit≤ tt), tt))
      (λ e. (tt, tt))))) where
        is_not : (b : Bool) → not b ≡ false → b ≡ true
        is_not true e = refl
        is_not false e = cc

  redact_stands : (entry : Option Entry) (shown : Bool) (ps : List (List ℕ)) → EffectsStand limit (redact_of entry f shown ps)
  redact_stands entry shown [] =
      (plain_fail limit f.cluster sound.session.cluster (codes "NEED_MORE_PARAMS") (codes "Missing parameters") (middle_from (codes "NEED_MORE_PARAMS") refl) refl (lit≤ tt), tt)
  redact_stands entry shown (target ∷ []) =
      (plain_fail limit f.cluster sound.session.cluster (codes "NEED_MORE_PARAMS") (codes "Missing parameters") (middle_from (codes "NEED_MORE_PARAMS") refl) refl (lit≤ tt), tt)
  redact_stands entry shown (target ∷ id ∷ more) = redact_named_stands entry shown target id (first_of more)

  -- ---- all of them

  told_stands : (line : Option (List ℕ)) → IfSome line (AreLines limit) → EffectsStand limit (answer_if line)
  told_stands None p = tt
  told_stands (Some line) p = (p, tt)

  with_caps : (caps : CapSet) → IsSoundFacts (record f { caps = caps })
  with_caps caps = record {
    session = record { cluster = sound.session.cluster; nick = sound.session.nick; reference = sound.session.reference };
    cluster = sound.cluster;
    network = sound.network;
  }

  on : (effects : List Effect) → EffectsStand limit effects → StepStands limit (stays f effects)
  on effects p = record { effects = p; session = sound }

  command_stands : (entry : Option Entry) (shown : Bool) (bytes : List ℕ) (command : ClientCommand) (line : Reading) → AllByRecursion HasNoBadByte line.parameters
      → StepStands limit (after_registration entry f shown bytes command line)
  command_stands entry shown bytes Cap line good = record {
    effects = told_stands _ (cap_told limit f.cluster sound.session.cluster f.nick sound.session.nick (registered f.caps) line.parameters good);
    session = with_caps (cap_answer f.cluster f.nick (registered f.caps) line.parameters).negotiation.caps;
  }
  command_stands entry shown bytes Quit line good = record { effects = (closing_line limit, (tt, tt)); session = tt }
  command_stands entry shown bytes Pong line good = on [] tt
  command_stands entry shown bytes Pass line good = on _ (pass_stands line.parameters)
  command_stands entry shown bytes User line good = on _ (user_stands (user_name line.parameters))
  command_stands entry shown bytes Ping line good = on _ (ping_stands limit f.cluster sound.session.cluster f.nick sound.session.nick sound.cluster line.parameters good)
  command_stands entry shown bytes Nick line good = on _ (nick_line_stands entry line.parameters (nick_refusal f.cluster f.nick line.parameters) (nick_refusal_stands limit f.cluster sound.session.cluster f.nick sound.session.nick line.parameters good))
  command_stands entry shown bytes Chathistory line good = on _ (capable f.caps.chathistory (codes "CHATHISTORY") (Ask bytes ∷ []) (middle_from (codes "CHATHISTORY") refl) (lit≤ tt) (tt, tt))
  command_stands entry shown bytes Markread line good =
      on _
      (capable f.caps.read_marker (codes "MARKREAD") (markread_put f line.parameters ++ Ask bytes ∷ []) (middle_from (codes "MARKREAD") refl) (lit≤ tt)
      (effects-append limit (markread_put f line.parameters) (Ask bytes ∷ []) (put_stands line.parameters) (tt, tt)))
  command_stands entry shown bytes Redact line good =
      on _ (capable f.caps.message_redaction (codes "REDACT") (redact_of entry f shown line.parameters) (middle_from (codes "REDACT") refl) (lit≤ tt) (redact_stands entry shown line.parameters))
  command_stands entry shown bytes Message line good = on _ (upstream_stands entry (tagged_line line.tags bytes))
  command_stands entry shown bytes Other line good = on _ (upstream_stands entry (passed_line bytes))

-- ---- steps

now_sound : (entry : Option Entry) (f : Facts) → IsSoundFacts f → NickStands entry → IsSoundFacts (with_nick_of entry f)
now_sound None f sound n = sound
now_sound (Some entry) f sound n = record {
  session = record { cluster = sound.session.cluster; nick = n; reference = sound.session.reference };
  cluster = sound.cluster;
  network = sound.network;
}

pub good_reading : (bytes : List ℕ) (r : Result Reading LineFault) → IfOk r (Reads Client bytes) → IfOk r (λ line. AllByRecursion HasNoBadByte line.parameters)
good_reading bytes (Ok line) reads = read_parameters_whole Client bytes line reads
good_reading bytes (Err fault) reads = tt

module _ (limit : TagLimit) (directory : Directory) where
  pub fault_stands : (f : Facts) (fault : LineFault) → IsSoundFacts f → NickStands (entry_in directory f.account f.network) → StepStands limit (refuse (facts_now directory f) fault)
  fault_stands f fault sound n =
      let now = now_sound (entry_in directory f.account f.network) f sound n in
      record { effects = refusal_stands limit (facts_now directory f).cluster now.session.cluster (facts_now directory f).nick now.session.nick fault; session = now }

  pub reading_stands : (shown : Bool) (f : Facts) (bytes : List ℕ) (r : Result Reading LineFault) → IfOk r (λ line. AllByRecursion HasNoBadByte line.parameters)
      → IsSoundFacts f → NickStands (entry_in directory f.account f.network) → StepStands limit (reading_step directory shown (stage.Registered f) bytes r)
  reading_stands shown f bytes (Err fault) good sound n = fault_stands f fault sound n
  reading_stands shown f bytes (Ok line) good sound n =
      command_stands limit (facts_now directory f) (now_sound (entry_in directory f.account f.network) f sound n) (entry_in directory f.account f.network) shown bytes (command_of line.command) line good

  closed_reading : (shown : Bool) (bytes : List ℕ) (r : Result Reading LineFault) → StepStands limit (reading_step directory shown stage.Closed bytes r)
  closed_reading shown bytes (Ok line) = record { effects = tt; session = tt }
  closed_reading shown bytes (Err fault) = record { effects = tt; session = tt }

  -- of a directory whose nicks may stand in lines
  pub step_stands : ((account network : List ℕ) → NickStands (entry_in directory account network)) → (shown : Bool) (session : Stage) (bytes : List ℕ) → IsSoundStage session
      → StepStands limit (step directory shown session bytes)
  unfolding step
  step_stands n shown (stage.Registered f) bytes sound = reading_stands shown f bytes (read Client bytes) (good_reading bytes (read Client bytes) (read_ok Client bytes)) sound (n f.account f.network)
  step_stands n shown stage.Closed bytes sound = closed_reading shown bytes (read Client bytes)
  step_stands n shown (stage.Waiting w) bytes sound = absurd sound

  pub too_long_stands : ((account network : List ℕ) → NickStands (entry_in directory account network)) → (session : Stage) → IsSoundStage session → StepStands limit (too_long directory session)
  too_long_stands n (stage.Registered f) sound = fault_stands f TooLong sound (n f.account f.network)
  too_long_stands n stage.Closed sound = record { effects = tt; session = tt }
  too_long_stands n (stage.Waiting w) sound = absurd sound
