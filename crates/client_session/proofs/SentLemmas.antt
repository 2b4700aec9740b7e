-- What a session sends is lines that read back, before its registration and after it.
use Rattle.std.proofs.Common.{◌≡◌, ℕ, ◌+◌, ◌≤◌, Bool, true, false, cond, List, [], ◌∷◌, ◌++◌, length, codes, Option, None, Some, Result, Ok, Err, refl, subst, sym, arith, length-append, lit≤}
use Rattle.std.specs.Prelude.{◌==◌, ◌&&◌, not, IfSome, IfOk}
use Rattle.std.specs.List.{AllByRecursion, list_any, list_all}
use Rattle.std.specs.Str.{bytes_eq}
use Rattle.std.specs.Fmt.{decimal}
use Rattle.std.proofs.lemmas.Bool.{and_parts, or_parts}
use Rattle.std.proofs.lemmas.Bool.Decides.{nat_tests}
use Rattle.std.proofs.lemmas.Slice.Eq.{bytes_eq-Decides}
use Rattle.byte_text.specs.Bytes.{ends_line}
use Rattle.irc_line.specs.declared.line.LineFault.{LineFault}
use Rattle.irc_line.specs.declared.line.LineFault.TheVariants.{TooLong}
use Rattle.irc_line.specs.declared.line.TagLimit.{TagLimit}
use Rattle.irc_line.specs.declared.line.TagLimit.TheVariants.{Client}
use Rattle.irc_line.specs.Line.{Reading}
use Rattle.irc_line.specs.Read.{read}
use Rattle.irc_line.specs.CanStand.{HasNoBadByte, CanBeMiddle}
use Rattle.irc_line.specs.Lines.{AreLines}
use Rattle.irc_line.proofs.CallerLemmas.{one_line, good_append, no_space_append, middle_from, no_space_from, read_ok}
use Rattle.irc_caps.specs.declared.CapSet.{CapSet}
use Rattle.irc_caps.specs.Negotiation.{is_held, cap_answer}
use Rattle.irc_reply.specs.Reply.{need_more_params}
use Rattle.irc_reply.specs.Standing.{IsWordTo, target_limit}
use Rattle.irc_reply.specs.ToClient.{no_nick, welcome, support, no_motd, tokens, not_registered, join_line, marker_question}
use Rattle.irc_reply.proofs.CallerLemmas.{reply_line}
use Rattle.chat_change.specs.Words.{is_name, is_target}
use Rattle.chat_query.specs.declared.facts.Answered.{Answered}
use Rattle.chat_query.specs.declared.facts.Answered.TheVariants.{Batch, Plain, NotAQuery}
use Rattle.chat_query.specs.Reference.{greatest_reference, after_reference, after_answer}
use Rattle.chat_query.proofs.CallerLemmas.{target_word, reference_stands}
use Rattle.cluster_directory.specs.Entry.{Entry}
use Rattle.cluster_directory.specs.Directory.{Network, Account, Directory, network_in, account_in, entry_if, entry_of, entry_of_account, entry_in, entry_if_secret, entry_by_secret}
use Rattle.client_session.specs.Command.{command_of}
use Rattle.client_session.specs.Step.{Step, answer, refusal}
use Rattle.client_session.specs.Registration.{waits, account_of, network_of, marker_questions, channels_lines, turn_away, let_in, let_in_if, register, settle_user, settle, answer_or_settle, cap, pass, nick_unless, user_name, user_if, before_registration}
use Rattle.client_session.specs.Session.{reading_step, step, session_after}
use Rattle.client_session.specs.Events.{ClientEvent, after, effects_of, run}
use Rattle.client_session.specs.Events as event
use Rattle.client_session.specs.Standing.{CanNameCluster, greatest_maximum, NetworkStands, AccountStands, DirectoryStands, EventStands, SendsLines}
use Rattle.client_session.specs.declared.command.ClientCommand.{ClientCommand}
use Rattle.client_session.specs.declared.command.ClientCommand.TheVariants.{Cap, Pass, Nick, User, Ping, Pong, Quit}
use Rattle.client_session.specs.declared.effect.Effect.{Effect}
use Rattle.client_session.specs.declared.effect.Effect.TheVariants.{Send, Put, Ask, Upstream, Close}
use Rattle.client_session.specs.declared.stage.Waiting.{Waiting}
use Rattle.client_session.specs.declared.stage.Stage.{Stage}
use Rattle.client_session.specs.declared.stage.Stage.TheVariants as stage
use Rattle.client_session.proofs.EventLemmas.{step_by, all_map}
use Rattle.client_session.proofs.LinesLemmas.{IsSoundFacts, EffectStands, EffectsStand, IsSoundStage, StepStands, NickStands, effects-append, name_stands, one_word, need_more_line, refusal_stands, nick_refusal_stands, ping_stands, cap_told, closing_line, good_reading, fault_stands, reading_stands}

-- ---- what stays so

pub record IsSoundWaiting (w : Waiting) : Type 0 where
  pub cluster : CanNameCluster w.cluster
  pub maximum : w.maximum ≤ greatest_maximum

-- whatever stands in the session's lines may stand there
abbrev pub IsSound : Stage → Type 0
IsSound (stage.Waiting w) = IsSoundWaiting w
IsSound (stage.Registered f) = IsSoundFacts f
IsSound stage.Closed = Unit {0}

pub record IsSent (limit : TagLimit) (s : Step) : Type 0 where
  pub effects : EffectsStand limit s.effects
  pub session : IsSound s.session

registered_sound : (session : Stage) → IsSoundStage session → IsSound session
registered_sound (stage.Waiting w) sound = absurd sound
registered_sound (stage.Registered f) sound = sound
registered_sound stage.Closed sound = tt

after_line : (limit : TagLimit) (s : Step) → StepStands limit s → IsSent limit s
after_line limit s stands = record { effects = stands.effects; session = registered_sound s.session stands.session }

-- ---- directories

found_account : (directory : Directory) (name : List ℕ) → DirectoryStands directory → IfSome (account_in directory name) AccountStands
found_account [] name all = tt
found_account (a ∷ directory) name all = go (bytes_eq a.name name) (found_account directory name all.1) where
  go : (b : Bool) → IfSome (account_in directory name) AccountStands → IfSome (cond b (Some a) (account_in directory name)) AccountStands
  go true rest = all.0
  go false rest = rest

-- an entry stands under that name
pub record EntryStands (network : List ℕ) (entry : Entry) : Type 0 where
  pub name : is_name network ≡ true
  pub nick : is_target entry.nick ≡ true
  pub channels : list_all is_target entry.channels ≡ true

found_network : (networks : List Network) (name : List ℕ) → AllByRecursion NetworkStands networks → IfSome (entry_if (network_in networks name)) (EntryStands name)
found_network [] name all = tt
found_network (n ∷ networks) name all = go (bytes_eq n.name name) refl (found_network networks name all.1) where
  go : (b : Bool) → bytes_eq n.name name ≡ b → IfSome (entry_if (network_in networks name)) (EntryStands name)
      → IfSome (entry_if (cond b (Some n) (network_in networks name))) (EntryStands name)
  go true e rest = record { name = subst (λ (x : List ℕ). is_name x ≡ true) ((bytes_eq-Decides n.name name).0 e) all.0.name; nick = all.0.nick; channels = all.0.channels }
  go false e rest = rest

entry_of_stands : (found : Option Account) (network : List ℕ) → IfSome found AccountStands → IfSome (entry_of_account found network) (EntryStands network)
entry_of_stands None network all = tt
entry_of_stands (Some a) network all = found_network a.networks network all

by_secret_stands : (found : Option Account) (network secret : List ℕ) → IfSome found AccountStands → IfSome (entry_if_secret found network secret) (EntryStands network)
by_secret_stands None network secret all = tt
by_secret_stands (Some a) network secret all = go (bytes_eq a.secret secret) where
  go : (b : Bool) → IfSome (cond b (entry_of a network) None) (EntryStands network)
  go true = found_network a.networks network all
  go false = tt

nick_of : (network : List ℕ) (found : Option Entry) → IfSome found (EntryStands network) → NickStands found
nick_of network None stands = tt
nick_of network (Some entry) stands = target_word entry.nick stands.nick

nicks_stand : (directory : Directory) → DirectoryStands directory → (account network : List ℕ) → NickStands (entry_in directory account network)
nicks_stand directory all account network =
    nick_of network (entry_in directory account network) (entry_of_stands (account_in directory account) network (found_account directory account all))

-- ---- the greeting

-- a maximum of 32 bits behind its key
maximum_token : (n : ℕ) → n ≤ greatest_maximum → CanBeMiddle (codes "CHATHISTORY=" ++ decimal n) × (length (codes "CHATHISTORY=" ++ decimal n) ≤ 44)
maximum_token n small =
    let is = reference_stands n small in
    let long = is.2 in
    let some = length-append (codes "CHATHISTORY=") (decimal n) in
    let behind = length-append (codes "r") (decimal n) in (
      (
        omega arith,
        refl,
        no_space_append (codes "CHATHISTORY=") (decimal n) (no_space_from (codes "CHATHISTORY=") refl) is.0.1,
        good_append (codes "CHATHISTORY=") (decimal n) refl (or_parts (ends_line 114) (list_any ends_line (decimal n)) is.1).1,
      ),
      omega arith,
    )

module _ (limit : TagLimit) (cluster : List ℕ) (can : CanNameCluster cluster) (nick : List ℕ) (n : IsWordTo target_limit nick) where
  welcome_line : (network : List ℕ) → is_name network ≡ true → AreLines limit (welcome cluster nick network)
  welcome_line network e =
      let long = n.1 in
      let name = name_stands network e in
      let short = name.1 in
      let size = length-append (codes "Welcome to ") network in
      one_word limit cluster can.source (codes "001") nick (codes "Welcome to " ++ network) refl n.0 (good_append (codes "Welcome to ") network refl name.0) (omega arith)

  support_line : (maximum : ℕ) → maximum ≤ greatest_maximum → AreLines limit (support cluster nick maximum)
  support_line maximum small =
      let long = n.1 in
      let token = maximum_token maximum small in
      let short = token.1 in
      let a = length-append nick (32 ∷ (codes "CASEMAPPING=ascii" ++ (32 ∷ ((codes "CHATHISTORY=" ++ decimal maximum) ++ (32 ∷ (codes "MSGREFTYPES=msgid,timestamp" ++ [])))))) in
      let b = length-append (codes "CHATHISTORY=" ++ decimal maximum) (32 ∷ (codes "MSGREFTYPES=msgid,timestamp" ++ [])) in
      reply_line limit cluster can.source (codes "005") (nick ∷ tokens maximum) (Some (codes "are supported by this server")) refl
      (n.0, (middle_from (codes "CASEMAPPING=ascii") refl, (token.0, (middle_from (codes "MSGREFTYPES=msgid,timestamp") refl, tt)))) refl (lit≤ tt) (omega arith)

  no_motd_line : AreLines limit (no_motd cluster nick)
  no_motd_line = (let long = n.1 in one_word limit cluster can.source (codes "422") nick (codes "MOTD File is missing") refl n.0 refl (omega arith))

join_stands : (limit : TagLimit) (nick channel : List ℕ) → IsWordTo target_limit nick → IsWordTo target_limit channel → AreLines limit (join_line nick channel)
join_stands limit nick channel n c =
    let long = n.1 in
    let short = c.1 in
    let a = length-append nick (32 ∷ []) in
    let b = length-append (58 ∷ (nick ++ 32 ∷ [])) (codes "JOIN" ++ ((32 ∷ (channel ++ [])) ++ [])) in
    let d = length-append (32 ∷ (channel ++ [])) [] in
    let e = length-append channel [] in
    one_line limit (record { tags = None; source = Some nick; command = codes "JOIN"; middles = channel ∷ []; trailing = None })
    (record { tags = tt; source = (n.0.0, n.0.2, n.0.3); command = refl; middles = (c.0, tt); trailing = tt; count = lit≤ tt; size = omega arith })

questions_stand : (limit : TagLimit) (caps : CapSet) (channel : List ℕ) → EffectsStand limit (marker_questions caps channel)
questions_stand limit caps channel = go caps.read_marker where
  go : (b : Bool) → EffectsStand limit (cond b (Ask (marker_question channel) ∷ []) [])
  go true = (tt, tt)
  go false = tt

channels_stand : (limit : TagLimit) (nick : List ℕ) (caps : CapSet) (channels : List (List ℕ)) → IsWordTo target_limit nick → list_all is_target channels ≡ true
    → EffectsStand limit (channels_lines nick caps channels)
channels_stand limit nick caps [] n e = tt
channels_stand limit nick caps (channel ∷ channels) n e =
    let both = and_parts (is_target channel) (list_all is_target channels) e in
    (join_stands limit nick channel n (target_word channel both.0), effects-append limit (marker_questions caps channel) (channels_lines nick caps channels) (questions_stand limit caps channel) (channels_stand limit nick caps channels n both.1))

-- ---- the table before registration

star : IsWordTo target_limit no_nick
star = (middle_from (codes "*") refl, lit≤ tt)

module _ (limit : TagLimit) (directory : Directory) (stands : DirectoryStands directory) where
  module _ (w : Waiting) (sound : IsSoundWaiting w) where
    on : (effects : List Effect) → EffectsStand limit effects → IsSent limit (waits w effects)
    on effects all = record { effects = all; session = sound }

    turned_away : IsSent limit (turn_away w)
    turned_away = record {
      effects = (one_word limit w.cluster sound.cluster.source (codes "464") no_nick (codes "Password incorrect") refl star.0 refl (lit≤ tt), (closing_line limit, (tt, tt)));
      session = tt;
    }

    entered : (user : List ℕ) (entry : Entry) → EntryStands (network_of user) entry → IsSent limit (let_in w user entry)
    entered user entry is =
        let n = target_word entry.nick is.nick in
        record {
          effects = (
            welcome_line limit w.cluster sound.cluster entry.nick n (network_of user) is.name,
            (
              support_line limit w.cluster sound.cluster entry.nick n w.maximum sound.maximum,
              (no_motd_line limit w.cluster sound.cluster entry.nick n, channels_stand limit entry.nick w.negotiation.caps entry.channels n is.channels),
            ),
          );
          session = record {
            session = record { cluster = sound.cluster.source; nick = n; reference = lit≤ tt };
            cluster = sound.cluster.parameter;
            network = is.name;
          };
        }

    entered_if : (user : List ℕ) (found : Option Entry) → IfSome found (EntryStands (network_of user)) → IsSent limit (let_in_if w user found)
    entered_if user None is = turned_away
    entered_if user (Some entry) is = entered user entry is

    registers : (user : List ℕ) → IsSent limit (register directory w user)
    registers user =
        entered_if user (entry_by_secret directory (account_of user) (network_of user) w.password)
        (by_secret_stands (account_in directory (account_of user)) (network_of user) w.password (found_account directory (account_of user) stands))

    settles_user : (user : Option (List ℕ)) → IsSent limit (settle_user directory w user)
    settles_user None = on [] tt
    settles_user (Some user) = go (w.has_nick && not (is_held w.negotiation.registration)) where
      go : (b : Bool) → IsSent limit (cond b (register directory w user) (waits w []))
      go true = registers user
      go false = on [] tt

    settles : IsSent limit (settle directory w)
    settles = settles_user w.user

    negotiates : (line : Option (List ℕ)) → IfSome line (AreLines limit) → IsSent limit (answer_or_settle directory w line)
    negotiates None is = settles
    negotiates (Some text) is = on (answer text) (is, tt)

    needs_more : (command : List ℕ) → CanBeMiddle command → length command ≤ 64 → AreLines limit (need_more_params w.cluster no_nick command)
    needs_more command c short = need_more_line limit w.cluster sound.cluster.source no_nick star command c short

    not_yet : IsSent limit (waits w (answer (not_registered w.cluster)))
    not_yet = on _ (one_word limit w.cluster sound.cluster.source (codes "451") no_nick (codes "You have not registered") refl star.0 refl (lit≤ tt), tt)

    refused : (fault : LineFault) → IsSent limit (waits w (refusal w.cluster no_nick fault))
    refused fault = on _ (refusal_stands limit w.cluster sound.cluster.source no_nick star fault)

  moved : (w v : Waiting) → IsSoundWaiting w → v.cluster ≡ w.cluster → v.maximum ≡ w.maximum → IsSoundWaiting v
  moved w v sound c m = record {
    cluster = subst (λ (x : List ℕ). CanNameCluster x) (sym c) sound.cluster;
    maximum = subst (λ (x : ℕ). x ≤ greatest_maximum) (sym m) sound.maximum;
  }

  module _ (w : Waiting) (sound : IsSoundWaiting w) where
    pass_sent : (ps : List (List ℕ)) → IsSent limit (pass w ps)
    pass_sent [] = on w sound _ (needs_more w sound (codes "PASS") (middle_from (codes "PASS") refl) (lit≤ tt), tt)
    pass_sent (password ∷ more) = on (record w { password = password }) (moved w _ sound refl refl) [] tt

    nick_sent : (told : Option (List ℕ)) → IfSome told (AreLines limit) → IsSent limit (nick_unless directory w told)
    nick_sent None is = settles (record w { has_nick = true }) (moved w _ sound refl refl)
    nick_sent (Some text) is = on w sound (answer text) (is, tt)

    user_sent : (name : Option (List ℕ)) → IsSent limit (user_if directory w name)
    user_sent None = on w sound _ (needs_more w sound (codes "USER") (middle_from (codes "USER") refl) (lit≤ tt), tt)
    user_sent (Some name) = settles (record w { user = Some name }) (moved w _ sound refl refl)

    cap_sent : (ps : List (List ℕ)) → AllByRecursion HasNoBadByte ps → IsSent limit (cap directory w ps)
    cap_sent ps good =
        let a = cap_answer w.cluster no_nick w.negotiation ps in
        negotiates (record w { negotiation = a.negotiation }) (moved w _ sound refl refl) a.line (cap_told limit w.cluster sound.cluster.source no_nick star w.negotiation ps good)

    row_sent : (command : ClientCommand) (ps : List (List ℕ)) → AllByRecursion HasNoBadByte ps → IsSent limit (before_registration directory w command ps)
    row_sent Cap ps good = cap_sent ps good
    row_sent Pass ps good = pass_sent ps
    row_sent Nick ps good = nick_sent _ (nick_refusal_stands limit w.cluster sound.cluster.source no_nick star ps good)
    row_sent User ps good = user_sent (user_name ps)
    row_sent Ping ps good = on w sound _ (ping_stands limit w.cluster sound.cluster.source no_nick star sound.cluster.parameter ps good)
    row_sent Pong ps good = on w sound [] tt
    row_sent Quit ps good = record { effects = (closing_line limit, (tt, tt)); session = tt }
    row_sent _ ps good = not_yet w sound

  reading_sent : (shown : Bool) (session : Stage) (bytes : List ℕ) (r : Result Reading LineFault) → IfOk r (λ line. AllByRecursion HasNoBadByte line.parameters)
      → IsSound session → IsSent limit (reading_step directory shown session bytes r)
  reading_sent shown (stage.Waiting w) bytes (Ok line) good sound = row_sent w sound (command_of line.command) line.parameters good
  reading_sent shown (stage.Waiting w) bytes (Err fault) good sound = refused w sound fault
  reading_sent shown (stage.Registered f) bytes r good sound =
      after_line limit _ (reading_stands limit directory shown f bytes r good sound (nicks_stand directory stands f.account f.network))
  reading_sent shown stage.Closed bytes (Ok line) good sound = record { effects = tt; session = tt }
  reading_sent shown stage.Closed bytes (Err fault) good sound = record { effects = tt; session = tt }

-- ---- answers

next_within : (n : ℕ) → n ≤ greatest_reference → after_reference n ≤ greatest_reference
next_within n h = go (n == greatest_reference) refl where
  go : (b : Bool) → (n == greatest_reference) ≡ b → cond b 1 (n + 1) ≤ greatest_reference
  go true e = omega arith
  go false e = grind (arith, nat_tests)

answer_within : (a : Answered) (n : ℕ) → n ≤ greatest_reference → after_answer a n ≤ greatest_reference
answer_within Batch n h = next_within n h
answer_within Plain n h = h
answer_within NotAQuery n h = h

answered_sound : (session : Stage) (a : Answered) → IsSound session → IsSound (session_after session a)
answered_sound (stage.Waiting w) a sound = sound
answered_sound (stage.Registered f) a sound = record {
  session = record { cluster = sound.session.cluster; nick = sound.session.nick; reference = answer_within a f.reference sound.session.reference };
  cluster = sound.cluster;
  network = sound.network;
}
answered_sound stage.Closed a sound = tt

-- ---- events

event_sent : (limit : TagLimit) (session : Stage) (e : ClientEvent) → EventStands e → IsSound session → IsSent limit (step_by session e)
unfolding step
event_sent limit session (event.Line directory shown bytes) stands sound =
    reading_sent limit directory stands shown session bytes (read Client bytes) (good_reading bytes (read Client bytes) (read_ok Client bytes)) sound
event_sent limit (stage.Waiting w) (event.CutLine directory) stands sound = refused limit directory stands w sound TooLong
event_sent limit (stage.Registered f) (event.CutLine directory) stands sound =
    after_line limit _ (fault_stands limit directory f TooLong sound (nicks_stand directory stands f.account f.network))
event_sent limit stage.Closed (event.CutLine directory) stands sound = record { effects = tt; session = tt }
event_sent limit session (event.Answer a) stands sound = record { effects = tt; session = answered_sound session a sound }

run_sound : (limit : TagLimit) (session : Stage) (events : List ClientEvent) → AllByRecursion EventStands events → IsSound session → IsSound (run session events)
run_sound limit session [] all sound = sound
run_sound limit session (e ∷ events) all sound = run_sound limit (after session e) events all.1 (event_sent limit session e all.0 sound).session

sends_lines : (limit : TagLimit) (effect : Effect) → EffectStands limit effect → SendsLines limit effect
sends_lines limit (Send bytes) h = h
sends_lines limit (Put change) h = tt
sends_lines limit (Ask line) h = tt
sends_lines limit (Upstream bytes) h = tt
sends_lines limit Close h = tt

pub sent_lines : (limit : TagLimit) (session : Stage) (events : List ClientEvent) (e : ClientEvent) → IsSound session → AllByRecursion EventStands events → EventStands e
    → AllByRecursion (SendsLines limit) (effects_of (run session events) e)
sent_lines limit session events e sound all last =
    all_map (sends_lines limit) (effects_of (run session events) e) (event_sent limit (run session events) e last (run_sound limit session events all sound)).effects
