-- What is so of the connections to a network's server.
use Rattle.std.proofs.Common.{◌≡◌, ◌<◌, ◌+◌, ℕ, List, [], ◌∷◌, ◌++◌, Option, Some, None, refl, sym, ap, ◌∙◌, subst, arith, length, append_assoc, append-nil, length-append}
use Rattle.std.specs.Prelude.{slice_get}
use Rattle.irc_line.specs.Stream.{Item, items, line as whole_line}
use Rattle.cluster_directory.specs.declared.config.SessionConfig.{SessionConfig}
use Rattle.client_session.specs.declared.effect.Effect.{Effect}
use Rattle.client_session.specs.declared.effect.Effect.TheVariants.{Upstream}
use Rattle.upstream_session.specs.declared.connection.ServerSession.{ServerSession}
use Rattle.upstream_session.specs.declared.effect.UpEffect.{UpEffect}
use Rattle.upstream_session.specs.declared.effect.UpEffect.TheVariants.{Send, Put, Relay, Close}
use Rattle.upstream_session.specs.Events.{ServerEvent, Line, Saying, after, all_effects, effects_of, run}
use Rattle.upstream_session.specs.Session.{start, step, say, joined}
use Rattle.network_log.specs.Facts.{NodeFacts}
use Rattle.network_log.specs.Guest.{next_item}
use Rattle.network_log.specs.Host.{BatchEntry, Host, entries_by, host_after, new_host, one_heard, sends_of}
use Rattle.network_log.specs.Log.{with_bytes, with_line_skipped}
use Rattle.network_log.specs.Truth.{IsSkipped, IsTrueOfHost, MayBeLeftOut, MayBeSkipped}
use Rattle.network_log.specs.declared.origin.Origin.TheVariants.{NetworkDialed}
use Rattle.network_log.proofs.CallerLemmas.{items-more}
use Rattle.network_laws.specs.Acts.{Act, AreAmong, AreOnce, IsActOf}
use Rattle.network_laws.specs.Heard.{Nothing, IsLeftOut, IsHeard, IsSaid}
use Rattle.network_laws.specs.Streams.{IsPart, Stream, AreByClock, AreStreams, IsStream, all_entries, begun, entries_by_event, entries_of, line_in, lines_by, said_of, sayings_of, serial_after, told_over}
use Rattle.network_laws.proofs.HeardLemmas.{next-is}
use Rattle.network_laws.proofs.PartLemmas.{part-both, part-first}
use Rattle.network_laws.proofs.ServerLemmas.{run-more}

-- the server's connection is that one
pub record IsLive (facts : NodeFacts) (place : ℕ) (config : SessionConfig) (h : Host) (s : Stream) : Type 0 where
  pub is_network : h.network ≡ place
  pub is_serial : s.serial ≡ h.serial
  pub is_received : s.received ≡ h.received
  pub is_count : length s.heard ≡ h.heard
  pub came_to : run (begun facts config s) s.events ≡ h.session
  pub is_told : h.told ≡ told_over facts config s

-- the server's connection is the latest; where none is there, the next session goes on from that serial number
abbrev pub IsServed : NodeFacts → ℕ → SessionConfig → ℕ → Option Host → List Stream → Type 0
IsServed facts place config serial None streams = serial ≡ serial_after facts config streams
IsServed facts place config serial (Some h) [] = ⊥
IsServed facts place config serial (Some h) (s ∷ streams) = IsLive facts place config h s

-- What was put and then the batch are some of all that came of the connections, in order, and those have said something to them.
pub record Serving (facts : NodeFacts) (place : ℕ) (config : SessionConfig) (joins serial : ℕ) (o : Option Host) (batch taken : List BatchEntry) (acts : List Act) : Type 0 where
  pub streams : List Stream
  pub are_streams : AreStreams facts place config joins streams
  pub is_served : IsServed facts place config serial o streams
  pub is_all : IsPart (taken ++ batch) (entries_of facts config streams)
  pub are_said : said_of streams ≡ acts
  pub are_once : AreOnce acts

-- ---- lists

sends-both : (effects more : List UpEffect) → sends_of (effects ++ more) ≡ sends_of effects ++ sends_of more
sends-both [] more = refl
sends-both (Send text ∷ effects) more =
    ap (λ (l : List ℕ). text ++ l) (sends-both effects more) ∙ sym (append_assoc text (sends_of effects) (sends_of more))
sends-both (Put change ∷ effects) more = sends-both effects more
sends-both (Relay text to ∷ effects) more = sends-both effects more
sends-both (Close ∷ effects) more = sends-both effects more

effects-more : (u : ServerSession) (events : List ServerEvent) (event : ServerEvent)
    → all_effects u (events ++ event ∷ []) ≡ all_effects u events ++ effects_of (run u events) event
effects-more u [] event = append-nil (effects_of u event)
effects-more u (e ∷ events) event =
    ap (λ (l : List UpEffect). effects_of u e ++ l) (effects-more (after u e) events event)
    ∙ sym (append_assoc (effects_of u e) (all_effects (after u e) events) (effects_of (run (after u e) events) event))

entries-more : (u : ServerSession) (events : List ServerEvent) (event : ServerEvent)
    → all_entries u (events ++ event ∷ []) ≡ all_entries u events ++ entries_by_event (run u events) event
entries-more u [] event = append-nil (entries_by_event u event)
entries-more u (e ∷ events) event =
    ap (λ (l : List BatchEntry). entries_by_event u e ++ l) (entries-more (after u e) events event)
    ∙ sym (append_assoc (entries_by_event u e) (all_entries (after u e) events) (entries_by_event (run (after u e) events) event))

sayings-line : (events : List ServerEvent) (now : ℕ) (bytes : List ℕ) → sayings_of (events ++ Line now bytes ∷ []) ≡ sayings_of events
sayings-line [] now bytes = refl
sayings-line (Line at text ∷ events) now bytes = sayings-line events now bytes
sayings-line (Saying at text ∷ events) now bytes = ap (λ (l : List (List ℕ)). text ∷ l) (sayings-line events now bytes)

sayings-said : (events : List ServerEvent) (now : ℕ) (bytes : List ℕ) → sayings_of (events ++ Saying now bytes ∷ []) ≡ sayings_of events ++ bytes ∷ []
sayings-said [] now bytes = refl
sayings-said (Line at text ∷ events) now bytes = sayings-said events now bytes
sayings-said (Saying at text ∷ events) now bytes = ap (λ (l : List (List ℕ)). text ∷ l) (sayings-said events now bytes)

by-line : (facts : NodeFacts) (events : List ServerEvent) (now : ℕ) (bytes : List ℕ) → facts.clock now → AreByClock facts events → AreByClock facts (events ++ Line now bytes ∷ [])
by-line facts [] now bytes clock k = (clock, tt)
by-line facts (Line at text ∷ events) now bytes clock k = (k.0, by-line facts events now bytes clock k.1)
by-line facts (Saying at text ∷ events) now bytes clock k = (k.0, by-line facts events now bytes clock k.1)

by-said : (facts : NodeFacts) (events : List ServerEvent) (now : ℕ) (bytes : List ℕ) → facts.clock now → AreByClock facts events → AreByClock facts (events ++ Saying now bytes ∷ [])
by-said facts [] now bytes clock k = (clock, tt)
by-said facts (Line at text ∷ events) now bytes clock k = (k.0, by-said facts events now bytes clock k.1)
by-said facts (Saying at text ∷ events) now bytes clock k = (k.0, by-said facts events now bytes clock k.1)

-- ---- the session goes on by an event

came-more : (facts : NodeFacts) (place : ℕ) (config : SessionConfig) (h : Host) (s : Stream) (event : ServerEvent) → IsLive facts place config h s
    → run (begun facts config s) (s.events ++ event ∷ []) ≡ after h.session event
came-more facts place config h s event l =
    run-more (begun facts config s) s.events event ∙ ap (λ (u : ServerSession). after u event) l.came_to

told-more : (facts : NodeFacts) (place : ℕ) (config : SessionConfig) (h : Host) (s : Stream) (event : ServerEvent) → IsLive facts place config h s
    → h.told ++ sends_of (effects_of h.session event)
    ≡ sends_of (start (begun facts config s)) ++ sends_of (all_effects (begun facts config s) (s.events ++ event ∷ []))
told-more facts place config h s event l =
    let u : ServerSession = begun facts config s in
    let next : List UpEffect = effects_of (run u s.events) event in
    let all : sends_of (all_effects u (s.events ++ event ∷ [])) ≡ sends_of (all_effects u s.events) ++ sends_of next =
    ap sends_of (effects-more u s.events event) ∙ sends-both (all_effects u s.events) next in
    ap (λ (t : List ℕ). t ++ sends_of (effects_of h.session event)) l.is_told
    ∙ ap (λ (v : ServerSession). told_over facts config s ++ sends_of (effects_of v event)) (sym l.came_to)
    ∙ append_assoc (sends_of (start u)) (sends_of (all_effects u s.events)) (sends_of next)
    ∙ ap (λ (t : List ℕ). sends_of (start u) ++ t) (sym all)

all-more : (facts : NodeFacts) (place : ℕ) (config : SessionConfig) (h : Host) (s : Stream) (streams : List Stream) (event : ServerEvent) (batch taken : List BatchEntry)
    → IsLive facts place config h s → IsPart (taken ++ batch) (entries_of facts config (s ∷ streams))
    → IsPart (taken ++ (batch ++ entries_by_event h.session event)) (entries_of facts config streams ++ all_entries (begun facts config s) (s.events ++ event ∷ []))
all-more facts place config h s streams event batch taken l p =
    let u : ServerSession = begun facts config s in
    let now : List BatchEntry = entries_by_event (run u s.events) event in
    let before : List BatchEntry = entries_of facts config streams in
    let all : (before ++ all_entries u s.events) ++ now ≡ before ++ all_entries u (s.events ++ event ∷ []) =
    append_assoc before (all_entries u s.events) now ∙ ap (λ (t : List BatchEntry). before ++ t) (sym (entries-more u s.events event)) in
    let some : (taken ++ batch) ++ now ≡ taken ++ (batch ++ entries_by_event h.session event) =
    append_assoc taken batch now ∙ ap (λ (v : ServerSession). taken ++ (batch ++ entries_by_event v event)) l.came_to in
    let P : List BatchEntry → Type 0 = λ t. IsPart t (before ++ all_entries u (s.events ++ event ∷ [])) in
    let Q : List BatchEntry → Type 0 = λ t. IsPart ((taken ++ batch) ++ now) t in
    subst P some (subst Q all (part-both (taken ++ batch) (before ++ all_entries u s.events) now p))

-- ---- a connection comes, and bytes

pub serving-comes : (facts : NodeFacts) (place : ℕ) (config : SessionConfig) (joins serial : ℕ) (o : Option Host) (batch taken : List BatchEntry) (acts : List Act)
    (number : ℕ) → o ≡ None → facts.came (NetworkDialed place) number [] → facts.joined number place joins
    → Serving facts place config joins serial o batch taken acts
    → Serving facts place config (joins + 1) serial (Some (new_host facts place config number serial)) batch taken acts
serving-comes facts place config joins serial o batch taken acts number none t j k =
    let s : Stream = record { serial = number; joins = joins; received = []; heard = []; first = serial; events = []; said = [] } in
    let A : List BatchEntry → Type 0 = λ t. IsPart (taken ++ batch) t in
    let on : serial ≡ serial_after facts config k.streams =
    subst (λ (v : Option Host). IsServed facts place config serial v k.streams) none k.is_served in
    record {
      streams = s ∷ k.streams;
      are_streams = (
        (
          record {
            later = items [];
            it_came = t;
            it_joined = j;
            are_first = refl;
            are_heard = Nothing;
            are_by_clock = tt;
            are_said = refl;
            are_spoken = tt;
          },
          omega arith,
          on,
        ),
        k.are_streams,
      );
      is_served = record {
        is_network = refl;
        is_serial = refl;
        is_received = refl;
        is_count = refl;
        came_to = refl;
        is_told = sym (append-nil (sends_of (start (begun facts config s))));
      };
      is_all = subst A (sym (append-nil (entries_of facts config k.streams))) k.is_all;
      are_said = k.are_said;
      are_once = k.are_once;
    }

bound-more : (facts : NodeFacts) (place : ℕ) (config : SessionConfig) (bound : ℕ) (streams : List Stream)
    → AreStreams facts place config bound streams → AreStreams facts place config (bound + 1) streams
bound-more facts place config bound [] k = tt
bound-more facts place config bound (s ∷ streams) k =
    let l : s.joins < bound = k.0.1 in ((k.0.0, omega (arith, l), k.0.2), k.1)

-- another connection joins
pub serving-joined : (facts : NodeFacts) (place : ℕ) (config : SessionConfig) (joins serial : ℕ) (o : Option Host) (batch taken : List BatchEntry) (acts : List Act)
    → Serving facts place config joins serial o batch taken acts → Serving facts place config (joins + 1) serial o batch taken acts
serving-joined facts place config joins serial o batch taken acts k = record {
  streams = k.streams;
  are_streams = bound-more facts place config joins k.streams k.are_streams;
  is_served = k.is_served;
  is_all = k.is_all;
  are_said = k.are_said;
  are_once = k.are_once;
}

got-more : (facts : NodeFacts) (place : ℕ) (config : SessionConfig) (joins serial : ℕ) (h : Host) (batch taken : List BatchEntry) (acts : List Act) (bytes : List ℕ)
    → IsTrueOfHost facts bytes (Some h)
    → (streams : List Stream) → AreStreams facts place config joins streams → IsServed facts place config serial (Some h) streams
    → IsPart (taken ++ batch) (entries_of facts config streams) → said_of streams ≡ acts → AreOnce acts
    → Serving facts place config joins serial (with_bytes bytes (Some h)) batch taken acts
got-more facts place config joins serial h batch taken acts bytes t [] are l all said once = absurd l
got-more facts place config joins serial h batch taken acts bytes t (s ∷ streams) are l all said once =
    let st : IsStream facts place config s = are.0.0 in
    let N : ℕ → Type 0 = λ n. facts.came (NetworkDialed n) h.serial (h.received ++ bytes) in
    let S : ℕ → Type 0 = λ n. facts.came (NetworkDialed place) n (h.received ++ bytes) in
    let V : List ℕ → Type 0 = λ r. facts.came (NetworkDialed place) s.serial (r ++ bytes) in
    let m : (more : List Item) × (items (s.received ++ bytes) ≡ items s.received ++ more) = items-more s.received bytes in
    record {
      streams = record s { received = s.received ++ bytes } ∷ streams;
      are_streams = (
        (
          record {
            later = st.later ++ m.0;
            it_came = subst V (sym l.is_received) (subst S (sym l.is_serial) (subst N l.is_network t));
            it_joined = st.it_joined;
            are_first = m.1 ∙ ap (λ (i : List Item). i ++ m.0) st.are_first ∙ append_assoc s.heard st.later m.0;
            are_heard = st.are_heard;
            are_by_clock = st.are_by_clock;
            are_said = st.are_said;
            are_spoken = st.are_spoken;
          },
          are.0.1,
          are.0.2,
        ),
        are.1,
      );
      is_served = record {
        is_network = l.is_network;
        is_serial = l.is_serial;
        is_received = ap (λ (b : List ℕ). b ++ bytes) l.is_received;
        is_count = l.is_count;
        came_to = l.came_to;
        is_told = l.is_told;
      };
      is_all = all;
      are_said = said;
      are_once = once;
    }

pub serving-got : (facts : NodeFacts) (place : ℕ) (config : SessionConfig) (joins serial : ℕ) (o : Option Host) (batch taken : List BatchEntry) (acts : List Act)
    (bytes : List ℕ) → IsTrueOfHost facts bytes o
    → Serving facts place config joins serial o batch taken acts → Serving facts place config joins serial (with_bytes bytes o) batch taken acts
serving-got facts place config joins serial None batch taken acts bytes t k = k
serving-got facts place config joins serial (Some h) batch taken acts bytes t k =
    got-more facts place config joins serial h batch taken acts bytes t k.streams k.are_streams k.is_served k.is_all k.are_said k.are_once

-- ---- a line of the server

record IsNext (facts : NodeFacts) (place : ℕ) (config : SessionConfig) (h : Host) (s : Stream) (item : Item) : Type 0 where
  rest : List Item
  is_next : items s.received ≡ (s.heard ++ item ∷ []) ++ rest
  is_more : length (s.heard ++ item ∷ []) ≡ h.heard + 1

next-so : (facts : NodeFacts) (place : ℕ) (config : SessionConfig) (h : Host) (s : Stream) (item : Item) → IsLive facts place config h s
    → IsStream facts place config s → next_item h.received h.heard ≡ Some item → IsNext facts place config h s item
next-so facts place config h s item l st e =
    let R : List ℕ → Type 0 = λ r. slice_get (items r) h.heard ≡ Some item in
    let P : List Item → Type 0 = λ all. slice_get all h.heard ≡ Some item in
    let Q : ℕ → Type 0 = λ n. slice_get (s.heard ++ st.later) n ≡ Some item in
    let n : (rest : List Item) × (st.later ≡ item ∷ rest) =
    next-is s.heard st.later item (subst Q (sym l.is_count) (subst P st.are_first (subst R (sym l.is_received) e))) in
    let more : length (s.heard ++ item ∷ []) ≡ _ = length-append s.heard (item ∷ []) in
    record {
      rest = n.0;
      is_next = st.are_first ∙ ap (λ (i : List Item). s.heard ++ i) n.1 ∙ sym (append_assoc s.heard (item ∷ []) n.0);
      is_more = more ∙ ap (λ c. c + 1) l.is_count;
    }

left-more : (facts : NodeFacts) (place : ℕ) (config : SessionConfig) (joins serial : ℕ) (h : Host) (batch taken : List BatchEntry) (acts : List Act) (item : Item)
    → next_item h.received h.heard ≡ Some item → MayBeLeftOut item
    → (streams : List Stream) → AreStreams facts place config joins streams → IsServed facts place config serial (Some h) streams
    → IsPart (taken ++ batch) (entries_of facts config streams) → said_of streams ≡ acts → AreOnce acts
    → Serving facts place config joins serial (Some (one_heard h)) batch taken acts
left-more facts place config joins serial h batch taken acts item e may [] are l all said once = absurd l
left-more facts place config joins serial h batch taken acts item e may (s ∷ streams) are l all said once =
    let st : IsStream facts place config s = are.0.0 in
    let n : IsNext facts place config h s item = next-so facts place config h s item l st e in
    record {
      streams = record s { heard = s.heard ++ item ∷ [] } ∷ streams;
      are_streams = (
        (
          record {
            later = n.rest;
            it_came = st.it_came;
            it_joined = st.it_joined;
            are_first = n.is_next;
            are_heard = IsLeftOut item may st.are_heard;
            are_by_clock = st.are_by_clock;
            are_said = st.are_said;
            are_spoken = st.are_spoken;
          },
          are.0.1,
          are.0.2,
        ),
        are.1,
      );
      is_served = record {
        is_network = l.is_network;
        is_serial = l.is_serial;
        is_received = l.is_received;
        is_count = n.is_more;
        came_to = l.came_to;
        is_told = l.is_told;
      };
      is_all = all;
      are_said = said;
      are_once = once;
    }

pub serving-left-out : (facts : NodeFacts) (place : ℕ) (config : SessionConfig) (joins serial : ℕ) (h : Host) (batch taken : List BatchEntry) (acts : List Act) (item : Item)
    → next_item h.received h.heard ≡ Some item → MayBeLeftOut item
    → Serving facts place config joins serial (Some h) batch taken acts → Serving facts place config joins serial (Some (one_heard h)) batch taken acts
serving-left-out facts place config joins serial h batch taken acts item e may k =
    left-more facts place config joins serial h batch taken acts item e may k.streams k.are_streams k.is_served k.is_all k.are_said k.are_once

skipped-item : (facts : NodeFacts) (place : ℕ) (config : SessionConfig) (joins serial : ℕ) (h : Host) (batch taken : List BatchEntry) (acts : List Act) (o : Option Item)
    → next_item h.received h.heard ≡ o → MayBeSkipped o
    → Serving facts place config joins serial (Some h) batch taken acts → Serving facts place config joins serial (Some (one_heard h)) batch taken acts
skipped-item facts place config joins serial h batch taken acts None e may k = absurd may
skipped-item facts place config joins serial h batch taken acts (Some item) e may k =
    serving-left-out facts place config joins serial h batch taken acts item e may k

pub serving-skipped : (facts : NodeFacts) (place : ℕ) (config : SessionConfig) (joins serial : ℕ) (o : Option Host) (batch taken : List BatchEntry) (acts : List Act)
    → IsSkipped o
    → Serving facts place config joins serial o batch taken acts → Serving facts place config joins serial (with_line_skipped o) batch taken acts
serving-skipped facts place config joins serial None batch taken acts may k = k
serving-skipped facts place config joins serial (Some h) batch taken acts may k =
    skipped-item facts place config joins serial h batch taken acts (next_item h.received h.heard) refl may k

line-more : (facts : NodeFacts) (place : ℕ) (config : SessionConfig) (joins serial : ℕ) (h : Host) (batch taken : List BatchEntry) (acts : List Act) (now : ℕ) (bytes : List ℕ)
    → facts.clock now → next_item h.received h.heard ≡ Some (whole_line bytes)
    → (streams : List Stream) → AreStreams facts place config joins streams → IsServed facts place config serial (Some h) streams
    → IsPart (taken ++ batch) (entries_of facts config streams) → said_of streams ≡ acts → AreOnce acts
    → Serving facts place config joins serial (Some (host_after (step h.session now bytes) (one_heard h)))
    (batch ++ entries_by h.session (step h.session now bytes) (joined h.session bytes)) taken acts
line-more facts place config joins serial h batch taken acts now bytes clock e [] are l all said once = absurd l
line-more facts place config joins serial h batch taken acts now bytes clock e (s ∷ streams) are l all said once =
    let st : IsStream facts place config s = are.0.0 in
    let n : IsNext facts place config h s (whole_line bytes) = next-so facts place config h s (whole_line bytes) l st e in
    let event : ServerEvent = Line now bytes in
    record {
      streams = record s { heard = s.heard ++ whole_line bytes ∷ []; events = s.events ++ event ∷ [] } ∷ streams;
      are_streams = (
        (
          record {
            later = n.rest;
            it_came = st.it_came;
            it_joined = st.it_joined;
            are_first = n.is_next;
            are_heard = IsHeard now bytes st.are_heard;
            are_by_clock = by-line facts s.events now bytes clock st.are_by_clock;
            are_said = sayings-line s.events now bytes ∙ st.are_said;
            are_spoken = st.are_spoken;
          },
          are.0.1,
          are.0.2,
        ),
        are.1,
      );
      is_served = record {
        is_network = l.is_network;
        is_serial = l.is_serial;
        is_received = l.is_received;
        is_count = n.is_more;
        came_to = came-more facts place config h s event l;
        is_told = told-more facts place config h s event l;
      };
      is_all = all-more facts place config h s streams event batch taken l all;
      are_said = said;
      are_once = once;
    }

pub serving-line : (facts : NodeFacts) (place : ℕ) (config : SessionConfig) (joins serial : ℕ) (h : Host) (batch taken : List BatchEntry) (acts : List Act) (now : ℕ) (bytes : List ℕ)
    → facts.clock now → next_item h.received h.heard ≡ Some (whole_line bytes)
    → Serving facts place config joins serial (Some h) batch taken acts
    → Serving facts place config joins serial (Some (host_after (step h.session now bytes) (one_heard h)))
    (batch ++ entries_by h.session (step h.session now bytes) (joined h.session bytes)) taken acts
serving-line facts place config joins serial h batch taken acts now bytes clock e k =
    line-more facts place config joins serial h batch taken acts now bytes clock e k.streams k.are_streams k.is_served k.is_all k.are_said k.are_once

-- ---- a line is said to it

says-more : (facts : NodeFacts) (place : ℕ) (config : SessionConfig) (joins serial : ℕ) (h : Host) (batch taken : List BatchEntry) (acts : List Act) (now : ℕ) (text : List ℕ) (a : Act)
    → facts.clock now → a.effect ≡ Upstream text → IsActOf facts place config a → AreAmong a.joins a.before acts
    → (streams : List Stream) → AreStreams facts place config joins streams → IsServed facts place config serial (Some h) streams
    → IsPart (taken ++ batch) (entries_of facts config streams) → said_of streams ≡ acts → AreOnce acts
    → Serving facts place config joins serial (Some (host_after (say h.session now text) h))
    (batch ++ entries_by h.session (say h.session now text) None) taken (a ∷ acts)
says-more facts place config joins serial h batch taken acts now text a clock is own before [] are l all said once = absurd l
says-more facts place config joins serial h batch taken acts now text a clock is own before (s ∷ streams) are l all said once =
    let st : IsStream facts place config s = are.0.0 in
    let event : ServerEvent = Saying now text in
    let lines : lines_by s.said ++ line_in a.effect ≡ lines_by s.said ++ text ∷ [] = ap (λ (e : Effect). lines_by s.said ++ line_in e) is in
    record {
      streams = record s { events = s.events ++ event ∷ []; said = a ∷ s.said } ∷ streams;
      are_streams = (
        (
          record {
            later = st.later;
            it_came = st.it_came;
            it_joined = st.it_joined;
            are_first = st.are_first;
            are_heard = IsSaid now text st.are_heard;
            are_by_clock = by-said facts s.events now text clock st.are_by_clock;
            are_said = sayings-said s.events now text ∙ ap (λ (t : List (List ℕ)). t ++ text ∷ []) st.are_said ∙ sym lines;
            are_spoken = (own, st.are_spoken);
          },
          are.0.1,
          are.0.2,
        ),
        are.1,
      );
      is_served = record {
        is_network = l.is_network;
        is_serial = l.is_serial;
        is_received = l.is_received;
        is_count = l.is_count;
        came_to = came-more facts place config h s event l;
        is_told = told-more facts place config h s event l;
      };
      is_all = all-more facts place config h s streams event batch taken l all;
      are_said = ap (λ (t : List Act). a ∷ t) said;
      are_once = (before, once);
    }

pub serving-says : (facts : NodeFacts) (place : ℕ) (config : SessionConfig) (joins serial : ℕ) (h : Host) (batch taken : List BatchEntry) (acts : List Act) (now : ℕ) (text : List ℕ) (a : Act)
    → facts.clock now → a.effect ≡ Upstream text → IsActOf facts place config a → AreAmong a.joins a.before acts
    → Serving facts place config joins serial (Some h) batch taken acts
    → Serving facts place config joins serial (Some (host_after (say h.session now text) h))
    (batch ++ entries_by h.session (say h.session now text) None) taken (a ∷ acts)
serving-says facts place config joins serial h batch taken acts now text a clock is own before k =
    says-more facts place config joins serial h batch taken acts now text a clock is own before k.streams k.are_streams k.is_served k.is_all k.are_said k.are_once

-- ---- the connection goes, and the batch

goes-more : (facts : NodeFacts) (place : ℕ) (config : SessionConfig) (serial : ℕ) (h : Host) (streams : List Stream) → IsServed facts place config serial (Some h) streams
    → h.session.serial ≡ serial_after facts config streams
goes-more facts place config serial h [] l = absurd l
goes-more facts place config serial h (s ∷ streams) l = ap (λ (u : ServerSession). u.serial) (sym l.came_to)

pub serving-goes : (facts : NodeFacts) (place : ℕ) (config : SessionConfig) (joins serial : ℕ) (h : Host) (batch taken : List BatchEntry) (acts : List Act)
    → Serving facts place config joins serial (Some h) batch taken acts → Serving facts place config joins h.session.serial None batch taken acts
serving-goes facts place config joins serial h batch taken acts k = record {
  streams = k.streams;
  are_streams = k.are_streams;
  is_served = goes-more facts place config serial h k.streams k.is_served;
  is_all = k.is_all;
  are_said = k.are_said;
  are_once = k.are_once;
}

-- the first entries of the batch are put, and the others are let go
pub serving-put : (facts : NodeFacts) (place : ℕ) (config : SessionConfig) (joins serial : ℕ) (o : Option Host) (batch taken first rest : List BatchEntry) (acts : List Act)
    → batch ≡ first ++ rest
    → Serving facts place config joins serial o batch taken acts → Serving facts place config joins serial o [] (taken ++ first) acts
serving-put facts place config joins serial o batch taken first rest acts e k =
    let all : List BatchEntry = entries_of facts config k.streams in
    let P : List BatchEntry → Type 0 = λ t. IsPart t all in
    let some : taken ++ batch ≡ (taken ++ first) ++ rest =
    ap (λ (t : List BatchEntry). taken ++ t) e ∙ sym (append_assoc taken first rest) in
    record {
      streams = k.streams;
      are_streams = k.are_streams;
      is_served = k.is_served;
      is_all = subst P (sym (append-nil (taken ++ first))) (part-first (taken ++ first) rest all (subst P some k.is_all));
      are_said = k.are_said;
      are_once = k.are_once;
    }
