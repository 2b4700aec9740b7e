-- Each server is heard over its own connection.
use Rattle.std.proofs.Common.{◌≡◌, ◌+◌, ◌==◌, Bool, true, false, ℕ, List, [], ◌∷◌, ◌++◌, Option, Some, None, refl, sym, ap, ◌∙◌, subst, length, append_assoc, length-append, if◌then◌else◌}
use Rattle.std.specs.Prelude.{slice_get}
use Rattle.irc_line.specs.Stream.{Item, items, line as whole_line, too_long as cut_line}
use Rattle.chat_change.specs.declared.change.Change.{Change}
use Rattle.chat_change.specs.declared.change.Change.TheVariants.{Post, Redact, Mark, Floor, AccountFloor}
use Rattle.cluster_directory.specs.declared.config.SessionConfig.{SessionConfig}
use Rattle.client_session.specs.declared.effect.Effect.{Effect}
use Rattle.client_session.specs.declared.effect.Effect.TheVariants.{Send, Put, Ask, Upstream, Close}
use Rattle.upstream_session.specs.declared.connection.ServerSession.{ServerSession}
use Rattle.upstream_session.specs.Events.{ServerEvent, Line, Saying, run, after}
use Rattle.network_log.specs.Facts.{NodeFacts}
use Rattle.network_log.specs.Guest.{Guest, next_item}
use Rattle.network_log.specs.Host.{Host, new_host, one_heard, session_begun}
use Rattle.network_log.specs.NetworkState.{NetworkState, beginning, changes_of}
use Rattle.network_log.specs.Log.{NetworkEvent, ServerComes, ServerGets, ServerSays, ServerSkips, ServerGoes, Others, Puts, PutsFirst, Loses, Comes, Has, Speaks, Marks, MarkWaits, Informs, Leaves, step, run as run_log, with_bytes, with_line_skipped, without_server, after_server_item, after_server_line, after_saying_to, after_speaking, after_speaking_of, after_marking, after_marking_of, after_waiting_mark, after_waiting_mark_of, after_put_of_first}
use Rattle.network_log.specs.Truth.{AreTrue, IsReached, IsSkipped, IsTrueEvent, IsTrueOfHost, MayBeLeftOut, MayBeSkipped}
use Rattle.network_log.specs.declared.origin.Origin.TheVariants.{NetworkDialed}
use Rattle.network_log.proofs.CallerLemmas.{items-more}
use Rattle.network_laws.specs.Heard.{ServerIsHeardOverItsConnection, AreHeard, Nothing, IsLeftOut, IsHeard, IsSaid}
use Rattle.network_laws.proofs.HeardLemmas.{next-is}
use Rattle.network_laws.proofs.StepLemmas.{IsLater, step-later}

-- what is so of a server that is there
record IsServerSo (facts : NodeFacts) (place : ℕ) (config : SessionConfig) (h : Host) : Type 0 where
  joins : ℕ
  first : ℕ
  heard : List Item
  later : List Item
  events : List ServerEvent
  is_network : h.network ≡ place
  it_came : facts.came (NetworkDialed place) h.serial h.received
  it_joined : facts.joined h.serial place joins
  are_first : items h.received ≡ heard ++ later
  is_count : length heard ≡ h.heard
  are_heard : AreHeard heard events
  came_to : run (session_begun facts config first) events ≡ h.session

-- the same of a network's server, if one is there
abbrev IsServedSo : NodeFacts → NetworkState → Option Host → Type 0
IsServedSo facts w None = Unit {0}
IsServedSo facts w (Some h) = IsServerSo facts w.place w.config h

pub run-more : (u : ServerSession) (events : List ServerEvent) (event : ServerEvent) → run u (events ++ event ∷ []) ≡ after (run u events) event
run-more u [] event = refl
run-more u (e ∷ events) event = run-more (after u e) events event

-- ---- the server alone

new-so : (facts : NodeFacts) (w : NetworkState) (serial : ℕ) → facts.came (NetworkDialed w.place) serial [] → facts.joined serial w.place w.joins
    → IsServerSo facts w.place w.config (new_host facts w.place w.config serial w.serial)
new-so facts w serial t j = record {
  joins = w.joins;
  first = w.serial;
  heard = [];
  later = items [];
  events = [];
  is_network = refl;
  it_came = t;
  it_joined = j;
  are_first = refl;
  is_count = refl;
  are_heard = Nothing;
  came_to = refl;
}

got-so : (facts : NodeFacts) (w : NetworkState) (bytes : List ℕ) (o : Option Host) → IsTrueOfHost facts bytes o
    → IsServedSo facts w o → IsServedSo facts w (with_bytes bytes o)
got-so facts w bytes None t k = tt
got-so facts w bytes (Some h) t k =
    let m : (more : List Item) × (items (h.received ++ bytes) ≡ items h.received ++ more) = items-more h.received bytes in
    let P : ℕ → Type 0 = λ n. facts.came (NetworkDialed n) h.serial (h.received ++ bytes) in
    record {
      joins = k.joins;
      first = k.first;
      heard = k.heard;
      later = k.later ++ m.0;
      events = k.events;
      is_network = k.is_network;
      it_came = subst P k.is_network t;
      it_joined = k.it_joined;
      are_first = m.1 ∙ ap (λ (l : List Item). l ++ m.0) k.are_first ∙ append_assoc k.heard k.later m.0;
      is_count = k.is_count;
      are_heard = k.are_heard;
      came_to = k.came_to;
    }

-- one line more is behind the first ones
record IsNext (facts : NodeFacts) (w : NetworkState) (h : Host) (k : IsServerSo facts w.place w.config h) (item : Item) : Type 0 where
  rest : List Item
  is_next : items h.received ≡ (k.heard ++ item ∷ []) ++ rest
  is_more : length (k.heard ++ item ∷ []) ≡ h.heard + 1

next-so : (facts : NodeFacts) (w : NetworkState) (h : Host) (k : IsServerSo facts w.place w.config h) (item : Item)
    → next_item h.received h.heard ≡ Some item → IsNext facts w h k item
next-so facts w h k item e =
    let P : List Item → Type 0 = λ all. slice_get all h.heard ≡ Some item in
    let Q : ℕ → Type 0 = λ n. slice_get (k.heard ++ k.later) n ≡ Some item in
    let n : (rest : List Item) × (k.later ≡ item ∷ rest) = next-is k.heard k.later item (subst Q (sym k.is_count) (subst P k.are_first e)) in
    let more : length (k.heard ++ item ∷ []) ≡ _ = length-append k.heard (item ∷ []) in
    record {
      rest = n.0;
      is_next = k.are_first ∙ ap (λ (l : List Item). k.heard ++ l) n.1 ∙ sym (append_assoc k.heard (item ∷ []) n.0);
      is_more = more ∙ ap (λ c. c + 1) k.is_count;
    }

left-out-so : (facts : NodeFacts) (w : NetworkState) (h : Host) (k : IsServerSo facts w.place w.config h) (item : Item)
    → IsNext facts w h k item → MayBeLeftOut item → IsServerSo facts w.place w.config (one_heard h)
left-out-so facts w h k item n may = record {
  joins = k.joins;
  first = k.first;
  heard = k.heard ++ item ∷ [];
  later = n.rest;
  events = k.events;
  is_network = k.is_network;
  it_came = k.it_came;
  it_joined = k.it_joined;
  are_first = n.is_next;
  is_count = n.is_more;
  are_heard = IsLeftOut item may k.are_heard;
  came_to = k.came_to;
}

-- its session goes on by a line of the server, or by one that is said to it
goes-on : (facts : NodeFacts) (w : NetworkState) (h : Host) (k : IsServerSo facts w.place w.config h) (event : ServerEvent)
    → run (session_begun facts w.config k.first) (k.events ++ event ∷ []) ≡ after h.session event
goes-on facts w h k event =
    run-more (session_begun facts w.config k.first) k.events event ∙ ap (λ (u : ServerSession). after u event) k.came_to

item-so : (facts : NodeFacts) (w : NetworkState) (h : Host) (now : ℕ) (o : Option Item) → w.server ≡ Some h → next_item h.received h.heard ≡ o
    → IsServerSo facts w.place w.config h → IsServedSo facts w (after_server_item w h now o).server
item-so facts w h now None s e k = subst (λ (o : Option Host). IsServedSo facts w o) (sym s) k
item-so facts w h now (Some (whole_line bytes)) s e k =
    let n : IsNext facts w h k (whole_line bytes) = next-so facts w h k (whole_line bytes) e in
    record {
      joins = k.joins;
      first = k.first;
      heard = k.heard ++ whole_line bytes ∷ [];
      later = n.rest;
      events = k.events ++ Line now bytes ∷ [];
      is_network = k.is_network;
      it_came = k.it_came;
      it_joined = k.it_joined;
      are_first = n.is_next;
      is_count = n.is_more;
      are_heard = IsHeard now bytes k.are_heard;
      came_to = goes-on facts w h k (Line now bytes);
    }
item-so facts w h now (Some cut_line) s e k = left-out-so facts w h k cut_line (next-so facts w h k cut_line e) tt

line-so : (facts : NodeFacts) (w : NetworkState) (now : ℕ) (o : Option Host) → w.server ≡ o → IsServedSo facts w o
    → IsServedSo facts w (after_server_line w now o).server
line-so facts w now None s k = subst (λ (o : Option Host). IsServedSo facts w o) (sym s) k
line-so facts w now (Some h) s k = item-so facts w h now (next_item h.received h.heard) s refl k

skipped-item : (facts : NodeFacts) (w : NetworkState) (h : Host) (o : Option Item) → next_item h.received h.heard ≡ o → MayBeSkipped o
    → IsServerSo facts w.place w.config h → IsServerSo facts w.place w.config (one_heard h)
skipped-item facts w h None e m k = absurd m
skipped-item facts w h (Some item) e m k = left-out-so facts w h k item (next-so facts w h k item e) m

skipped-so : (facts : NodeFacts) (w : NetworkState) (o : Option Host) → IsSkipped o → IsServedSo facts w o → IsServedSo facts w (with_line_skipped o)
skipped-so facts w None t k = tt
skipped-so facts w (Some h) t k = skipped-item facts w h (next_item h.received h.heard) refl t k

said-so : (facts : NodeFacts) (w : NetworkState) (now : ℕ) (text : List ℕ) (o : Option Host) → w.server ≡ o → IsServedSo facts w o
    → IsServedSo facts w (after_saying_to w now text o).server
said-so facts w now text None s k = subst (λ (o : Option Host). IsServedSo facts w o) (sym s) k
said-so facts w now text (Some h) s k = record {
  joins = k.joins;
  first = k.first;
  heard = k.heard;
  later = k.later;
  events = k.events ++ Saying now text ∷ [];
  is_network = k.is_network;
  it_came = k.it_came;
  it_joined = k.it_joined;
  are_first = k.are_first;
  is_count = k.is_count;
  are_heard = IsSaid now text k.are_heard;
  came_to = goes-on facts w h k (Saying now text);
}

-- ---- the server in its network

gone-so : (facts : NodeFacts) (w v : NetworkState) (o : Option Host) → v.server ≡ o → IsServedSo facts w o → IsServedSo facts w (without_server o v).server
gone-so facts w v None s k = subst (λ (o : Option Host). IsServedSo facts w o) (sym s) k
gone-so facts w v (Some h) s k = tt

first-put-so : (facts : NodeFacts) (w : NetworkState) (count : ℕ) (fits : List Bool) (is_all : Bool) → IsServedSo facts w w.server
    → IsServedSo facts w (if is_all then after_put_of_first count fits w else without_server w.server (after_put_of_first count fits w)).server
first-put-so facts w count fits true k = k
first-put-so facts w count fits false k = gone-so facts w (after_put_of_first count fits w) w.server refl k

spoken-so : (facts : NodeFacts) (w : NetworkState) (at now : ℕ) (g : Guest) (todo : List Effect) → IsServedSo facts w w.server
    → IsServedSo facts w (after_speaking w at now g todo).server
spoken-so facts w at now g [] k = k
spoken-so facts w at now g (Send text ∷ more) k = k
spoken-so facts w at now g (Put change ∷ more) k = k
spoken-so facts w at now g (Ask question ∷ more) k = k
spoken-so facts w at now g (Upstream text ∷ more) k = said-so facts w now text w.server refl k
spoken-so facts w at now g (Close ∷ more) k = k

speaks-so : (facts : NodeFacts) (w : NetworkState) (at now : ℕ) (o : Option Guest) → IsServedSo facts w w.server
    → IsServedSo facts w (after_speaking_of w at now o).server
speaks-so facts w at now None k = k
speaks-so facts w at now (Some g) k = spoken-so facts w at now g g.todo k

marked-so : (facts : NodeFacts) (w : NetworkState) (at : ℕ) (later : List Change) (fits : List Bool) (g : Guest) (todo : List Effect) → IsServedSo facts w w.server
    → IsServedSo facts w (after_marking w at later fits g todo).server
marked-so facts w at later fits g [] k = k
marked-so facts w at later fits g (Send text ∷ more) k = k
marked-so facts w at later fits g (Put (Post r) ∷ more) k = k
marked-so facts w at later fits g (Put (Redact buffer id moment) ∷ more) k = k
marked-so facts w at later fits g (Put (Mark buffer moment) ∷ more) k = k
marked-so facts w at later fits g (Put (Floor buffer moment) ∷ more) k = k
marked-so facts w at later fits g (Put (AccountFloor account moment) ∷ more) k = k
marked-so facts w at later fits g (Ask question ∷ more) k = k
marked-so facts w at later fits g (Upstream text ∷ more) k = k
marked-so facts w at later fits g (Close ∷ more) k = k

marks-so : (facts : NodeFacts) (w : NetworkState) (at : ℕ) (later : List Change) (fits : List Bool) (o : Option Guest) → IsServedSo facts w w.server
    → IsServedSo facts w (after_marking_of w at later fits o).server
marks-so facts w at later fits None k = k
marks-so facts w at later fits (Some g) k = marked-so facts w at later fits g g.todo k

waited-so : (facts : NodeFacts) (w : NetworkState) (at : ℕ) (g : Guest) (todo : List Effect) → IsServedSo facts w w.server
    → IsServedSo facts w (after_waiting_mark w at g todo).server
waited-so facts w at g [] k = k
waited-so facts w at g (Send text ∷ more) k = k
waited-so facts w at g (Put change ∷ more) k = k
waited-so facts w at g (Ask question ∷ more) k = k
waited-so facts w at g (Upstream text ∷ more) k = k
waited-so facts w at g (Close ∷ more) k = k

waits-so : (facts : NodeFacts) (w : NetworkState) (at : ℕ) (o : Option Guest) → IsServedSo facts w w.server
    → IsServedSo facts w (after_waiting_mark_of w at o).server
waits-so facts w at None k = k
waits-so facts w at (Some g) k = waited-so facts w at g g.todo k

step-so : (facts : NodeFacts) (event : NetworkEvent) (w : NetworkState) → IsTrueEvent facts w event → IsServedSo facts w w.server
    → IsServedSo facts w (step facts event w).server
step-so facts (ServerComes serial) w t k = new-so facts w serial t.1 t.2
step-so facts (ServerGets bytes) w t k = got-so facts w bytes w.server t k
step-so facts (ServerSays now) w t k = line-so facts w now w.server refl k
step-so facts ServerSkips w t k = skipped-so facts w w.server t k
step-so facts ServerGoes w t k = gone-so facts w w w.server refl k
step-so facts (Others changes) w t k = k
step-so facts (Puts later fits) w t k = k
step-so facts (PutsFirst count fits) w t k = first-put-so facts w count fits (count == length (changes_of w.batch)) k
step-so facts Loses w t k = gone-so facts w (record w { batch = [] }) w.server refl k
step-so facts (Comes guest) w t k = k
step-so facts (Has at event) w t k = k
step-so facts (Speaks at now) w t k = speaks-so facts w at now (slice_get w.guests at) k
step-so facts (Marks at later fits) w t k = marks-so facts w at later fits (slice_get w.guests at) k
step-so facts (MarkWaits at) w t k = waits-so facts w at (slice_get w.guests at) k
step-so facts (Informs target fits) w t k = k
step-so facts (Leaves at) w t k = k

-- the network stays the same
stays-so : (facts : NodeFacts) (old new : NetworkState) (o : Option Host) → IsLater old new → IsServedSo facts old o → IsServedSo facts new o
stays-so facts old new None l k = tt
stays-so facts old new (Some h) l k =
    subst (λ p. IsServerSo facts p new.config h) (sym l.place) (subst (λ (c : SessionConfig). IsServerSo facts old.place c h) (sym l.config) k)

run-so : (facts : NodeFacts) (log : List NetworkEvent) (w : NetworkState) → AreTrue facts w log → IsServedSo facts w w.server
    → IsServedSo facts (run_log facts log w) (run_log facts log w).server
run-so facts [] w t k = k
run-so facts (event ∷ log) w t k =
    let next : NetworkState = step facts event w in
    run-so facts log next t.1 (stays-so facts w next next.server (step-later facts event w) (step-so facts event w t.0 k))

pub server-heard : (facts : NodeFacts) (w : NetworkState) (h : Host) → IsReached facts w → w.server ≡ Some h → ServerIsHeardOverItsConnection facts w h
server-heard facts w h r e =
    let first : NetworkState = beginning r.place r.config r.held in
    let P : NetworkState → Type 0 = λ v. IsServedSo facts v v.server in
    let Q : Option Host → Type 0 = λ o. IsServedSo facts w o in
    let k : IsServerSo facts w.place w.config h = subst Q e (subst P (sym r.leads.is_run) (run-so facts r.leads.log first r.leads.is_true tt)) in
    record {
      joins = k.joins;
      first = k.first;
      heard = k.heard;
      later = k.later;
      events = k.events;
      is_network = k.is_network;
      it_came = k.it_came;
      it_joined = k.it_joined;
      are_first = k.are_first;
      is_count = k.is_count;
      are_heard = k.are_heard;
      came_to = k.came_to;
    }
