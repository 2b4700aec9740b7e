-- What is so of each network that is reached: where all that its clients and its server were told comes from, and all that was put for it.
use Rattle.std.proofs.Common.{◌≡◌, ◌<◌, ◌+◌, ◌==◌, Bool, true, false, ℕ, zero, suc, List, [], ◌∷◌, ◌++◌, Option, Some, None, refl, sym, ap, ◌∙◌, subst, arith, length, take, append_assoc, append-nil, if◌then◌else◌}
use Rattle.std.specs.Prelude.{slice_get}
use Rattle.irc_line.specs.Stream.{Item, line as whole_line, too_long as cut_line}
use Rattle.chat_change.specs.Buffer.{Buffer}
use Rattle.chat_change.specs.declared.change.Change.{Change}
use Rattle.chat_change.specs.declared.change.Change.TheVariants.{Post, Redact, Mark, Floor, AccountFloor}
use Rattle.cluster_directory.specs.Directory.{Directory}
use Rattle.cluster_directory.specs.declared.config.SessionConfig.{SessionConfig}
use Rattle.client_session.specs.declared.effect.Effect.{Effect}
use Rattle.client_session.specs.declared.effect.Effect.TheVariants.{Send, Put, Ask, Upstream, Close}
use Rattle.client_session.specs.Session.{facts_in}
use Rattle.network_log.specs.Accounts.{directory_at}
use Rattle.network_log.specs.Facts.{NodeFacts}
use Rattle.network_log.specs.Guest.{Guest, GuestEvent, next_item, guest_step}
use Rattle.network_log.specs.Host.{BatchEntry, Posted, PassedOn, Renamed, Entered, Host}
use Rattle.network_log.specs.Share.{hears_batch, hears_marker}
use Rattle.network_log.specs.NetworkState.{NetworkState, beginning, changes_of, entry_of, first_entries, told_by}
use Rattle.network_log.specs.Log.{NetworkEvent, ServerComes, ServerGets, ServerSays, ServerSkips, ServerGoes, Others, Puts, PutsFirst, Loses, Comes, Has, Speaks, Marks, MarkWaits, Informs, Leaves, step, run, guests_after, with_guest, without_server, after_server_item, after_server_line, after_saying_to, after_speaking, after_speaking_of, after_marking, after_marking_of, after_waiting_mark, after_waiting_mark_of, after_put_of_first}
use Rattle.network_log.specs.Truth.{AreHeldBehind, ArePut, AreTrue, AtMoment, IsDirectory, IsMarkHeld, IsMarkPut, IsReached, IsThere, IsTrueEvent, IsTrueOfGuest, IsTrueOfOption}
use Rattle.network_laws.specs.Acts.{Act, AreActsOf, AreAmong, AreOnce, IsActOf}
use Rattle.network_laws.specs.Puts.{ArePutOf, Nothing as NothingPut, OfServer, OfClient}
use Rattle.network_laws.specs.Streams.{Nothing as NoPart}
use Rattle.network_laws.proofs.OrderLemmas.{AreInOrder, number, order-act, order-bound, order-fits, order-get, order-join, order-leave, order-set, order-told, told-at}
use Rattle.network_laws.proofs.StreamLemmas.{Serving, serving-comes, serving-goes, serving-got, serving-joined, serving-left-out, serving-line, serving-put, serving-says, serving-skipped}
use Rattle.network_laws.proofs.MemberLemmas.{Laws, IsClientSo, act_of, client-arrives, client-done, client-drops, client-event, client-falls, client-hears, client-informed, client-marked, client-said, batch-same, event-joined, is-act, marker-same, other-marked, other-said}

-- ---- all who have done something have joined

abbrev AreBelow : ℕ → List Act → Type 0
AreBelow bound [] = Unit {0}
AreBelow bound (a ∷ acts) = a.joins < bound × AreBelow bound acts

below-more : (bound : ℕ) (acts : List Act) → AreBelow bound acts → AreBelow (bound + 1) acts
below-more bound [] k = tt
below-more bound (a ∷ acts) k = let l : a.joins < bound = k.0 in (omega (arith, l), below-more bound acts k.1)

below-before : (bound : ℕ) (did : List Effect) (acts : List Act) → AreBelow bound acts → AreAmong bound did acts
below-before bound did [] k = tt
below-before bound did (a ∷ acts) k =
    ((λ e. let l : a.joins < bound = k.0 in absurd (omega (arith, e, l))), below-before bound did acts k.1)

-- ---- what is put

pub record Putting (facts : NodeFacts) (place : ℕ) (config : SessionConfig) (taken : List BatchEntry) (marks : List Act) (puts : List Change) : Type 0 where
  pub are_put : ArePutOf taken marks puts
  pub are_acts : AreActsOf facts place config marks
  pub are_once : AreOnce marks

changes-more : (entry : BatchEntry) (batch : List BatchEntry) → changes_of (entry ∷ batch) ≡ changes_of (entry ∷ []) ++ changes_of batch
changes-more (Posted change is_own) batch = refl
changes-more (PassedOn text to) batch = refl
changes-more (Renamed nick is_passed_on) batch = refl
changes-more (Entered channel) batch = refl

-- the changes of a batch are put
pub putting-batch : (facts : NodeFacts) (place : ℕ) (config : SessionConfig) (batch taken : List BatchEntry) (marks : List Act) (puts : List Change)
    → Putting facts place config taken marks puts → Putting facts place config (taken ++ batch) marks (puts ++ changes_of batch)
putting-batch facts place config [] taken marks puts k =
    let P : List BatchEntry → Type 0 = λ v. Putting facts place config v marks (puts ++ []) in
    let Q : List Change → Type 0 = λ v. Putting facts place config taken marks v in
    subst P (sym (append-nil taken)) (subst Q (sym (append-nil puts)) k)
putting-batch facts place config (entry ∷ batch) taken marks puts k =
    let now : List Change = changes_of (entry ∷ []) in
    let P : List BatchEntry → Type 0 = λ v. Putting facts place config v marks (puts ++ changes_of (entry ∷ batch)) in
    let Q : List Change → Type 0 = λ v. Putting facts place config ((taken ++ entry ∷ []) ++ batch) marks v in
    let all : (puts ++ now) ++ changes_of batch ≡ puts ++ changes_of (entry ∷ batch) =
    append_assoc puts now (changes_of batch) ∙ ap (λ (l : List Change). puts ++ l) (sym (changes-more entry batch)) in
    subst P (append_assoc taken (entry ∷ []) batch)
    (subst Q all
    (putting-batch facts place config batch (taken ++ entry ∷ []) marks (puts ++ now)
    (record { are_put = OfServer entry k.are_put; are_acts = k.are_acts; are_once = k.are_once })))

-- a client puts something
pub putting-mark : (facts : NodeFacts) (place : ℕ) (config : SessionConfig) (taken : List BatchEntry) (marks : List Act) (puts : List Change) (change : Change) (a : Act)
    → a.effect ≡ Put change → IsActOf facts place config a → AreAmong a.joins a.before marks
    → Putting facts place config taken marks puts → Putting facts place config taken (a ∷ marks) (puts ++ change ∷ [])
putting-mark facts place config taken marks puts change a is own before k = record {
  are_put = OfClient change a is k.are_put;
  are_acts = (own, k.are_acts);
  are_once = (before, k.are_once);
}

-- the first entries of a batch, and what is behind them
first-rest : (count : ℕ) (batch : List BatchEntry) → (rest : List BatchEntry) × (batch ≡ first_entries count batch ++ rest) × (changes_of (first_entries count batch) ≡ take count (changes_of batch))
first-rest zero [] = ([], refl, refl)
first-rest (suc count) [] = ([], refl, refl)
first-rest zero (Posted change is_own ∷ batch) = (Posted change is_own ∷ batch, refl, refl)
first-rest (suc count) (Posted change is_own ∷ batch) =
    let r : _ = first-rest count batch in
    (r.0, ap (λ (l : List BatchEntry). Posted change is_own ∷ l) r.1, ap (λ (l : List Change). change ∷ l) r.2)
first-rest zero (PassedOn text to ∷ batch) =
    let r : _ = first-rest zero batch in (r.0, ap (λ (l : List BatchEntry). PassedOn text to ∷ l) r.1, r.2)
first-rest (suc count) (PassedOn text to ∷ batch) =
    let r : _ = first-rest (suc count) batch in (r.0, ap (λ (l : List BatchEntry). PassedOn text to ∷ l) r.1, r.2)
first-rest zero (Renamed nick is_passed_on ∷ batch) =
    let r : _ = first-rest zero batch in (r.0, ap (λ (l : List BatchEntry). Renamed nick is_passed_on ∷ l) r.1, r.2)
first-rest (suc count) (Renamed nick is_passed_on ∷ batch) =
    let r : _ = first-rest (suc count) batch in (r.0, ap (λ (l : List BatchEntry). Renamed nick is_passed_on ∷ l) r.1, r.2)
first-rest zero (Entered channel ∷ batch) =
    let r : _ = first-rest zero batch in (r.0, ap (λ (l : List BatchEntry). Entered channel ∷ l) r.1, r.2)
first-rest (suc count) (Entered channel ∷ batch) =
    let r : _ = first-rest (suc count) batch in (r.0, ap (λ (l : List BatchEntry). Entered channel ∷ l) r.1, r.2)

-- ---- the network

pub record Story (facts : NodeFacts) (w : NetworkState) : Type 0 where
  pub taken : List BatchEntry
  pub said : List Act
  pub marks : List Act
  pub is_configured : slice_get facts.accounts.networks w.place ≡ Some w.config
  pub is_held : facts.held w.held
  pub serving : Serving facts w.place w.config w.joins w.serial w.server w.batch taken said
  pub putting : Putting facts w.place w.config taken marks w.puts
  pub said_below : AreBelow w.joins said
  pub marks_below : AreBelow w.joins marks
  pub clients : AreInOrder (IsClientSo facts w.place w.config taken said marks) 0 w.joins w.guests

-- what changes with the server and the batch alone
with-serving : {facts : NodeFacts} {w : NetworkState} (serial : ℕ) (nick : List ℕ) (o : Option Host) (batch : List BatchEntry) (k : Story facts w)
    → Serving facts w.place w.config w.joins serial o batch k.taken k.said
    → Story facts (record w { serial = serial; nick = nick; server = o; batch = batch })
with-serving serial nick o batch k s = record {
  taken = k.taken;
  said = k.said;
  marks = k.marks;
  is_configured = k.is_configured;
  is_held = k.is_held;
  serving = s;
  putting = k.putting;
  said_below = k.said_below;
  marks_below = k.marks_below;
  clients = k.clients;
}

item-story : (facts : NodeFacts) (w : NetworkState) (h : Host) (now : ℕ) (o : Option Item) → facts.clock now → w.server ≡ Some h → next_item h.received h.heard ≡ o
    → Story facts w → Story facts (after_server_item w h now o)
item-story facts w h now None clock s e k = k
item-story facts w h now (Some (whole_line bytes)) clock s e k =
    let P : Option Host → Type 0 = λ v. Serving facts w.place w.config w.joins w.serial v w.batch k.taken k.said in
    with-serving w.serial w.nick _ _ k
    (serving-line facts w.place w.config w.joins w.serial h w.batch k.taken k.said now bytes clock e (subst P s k.serving))
item-story facts w h now (Some cut_line) clock s e k =
    let P : Option Host → Type 0 = λ v. Serving facts w.place w.config w.joins w.serial v w.batch k.taken k.said in
    with-serving w.serial w.nick _ _ k
    (serving-left-out facts w.place w.config w.joins w.serial h w.batch k.taken k.said cut_line e tt (subst P s k.serving))

line-story : (facts : NodeFacts) (w : NetworkState) (now : ℕ) (o : Option Host) → facts.clock now → w.server ≡ o → Story facts w → Story facts (after_server_line w now o)
line-story facts w now None clock s k = k
line-story facts w now (Some h) clock s k = item-story facts w h now (next_item h.received h.heard) clock s refl k

goes-story : (facts : NodeFacts) (w : NetworkState) (o : Option Host) → w.server ≡ o → Story facts w → Story facts (without_server o w)
goes-story facts w None s k = k
goes-story facts w (Some h) s k =
    let P : Option Host → Type 0 = λ v. Serving facts w.place w.config w.joins w.serial v w.batch k.taken k.said in
    with-serving h.session.serial h.session.entry.nick None w.batch k
    (serving-goes facts w.place w.config w.joins w.serial h w.batch k.taken k.said (subst P s k.serving))

-- the batch is let go
lost-story : (facts : NodeFacts) (w : NetworkState) → Story facts w → Story facts (record w { batch = [] })
lost-story facts w k =
    let taken : k.taken ++ [] ≡ k.taken = append-nil k.taken in
    let S : List BatchEntry → Type 0 = λ l. Serving facts w.place w.config w.joins w.serial w.server [] l k.said in
    record {
      taken = k.taken;
      said = k.said;
      marks = k.marks;
      is_configured = k.is_configured;
      is_held = k.is_held;
      serving = subst S taken (serving-put facts w.place w.config w.joins w.serial w.server w.batch k.taken [] w.batch k.said refl k.serving);
      putting = k.putting;
      said_below = k.said_below;
      marks_below = k.marks_below;
      clients = k.clients;
    }

hears-joined : (held : List Change) (batch : List BatchEntry) (g : Guest) → number g.joined ≡ number (hears_batch held batch g).joined
hears-joined held batch g = let s : _ = batch-same held batch g (facts_in g.session) in ap number (sym s.0)

informed-joined : (held : List Change) (target : List ℕ) (g : Guest) → number g.joined ≡ number (hears_marker held target g).joined
informed-joined held target g = let s : _ = marker-same held target g (facts_in g.session) in ap number (sym s.0)

-- the node held them, and these behind them
held-put : (facts : NodeFacts) (place : ℕ) (puts held changes : List Change) → facts.held held → ArePut facts place puts held changes → facts.held (held ++ changes)
held-put facts place puts held [] h t = subst (λ (v : List Change). facts.held v) (sym (append-nil held)) h
held-put facts place puts held (change ∷ changes) h t = t.1

held-behind : (facts : NodeFacts) (held later : List Change) → facts.held held → AreHeldBehind facts held later → facts.held (held ++ later)
held-behind facts held [] h t = subst (λ (v : List Change). facts.held v) (sym (append-nil held)) h
held-behind facts held (change ∷ later) h t = t

-- a first part of the batch is told
told-clients : (facts : NodeFacts) (w : NetworkState) (k : Story facts w) (held : List Change) (fits : List Bool) (first : List BatchEntry)
    → facts.held held → length fits ≡ length w.guests
    → AreInOrder (IsClientSo facts w.place w.config (k.taken ++ first) k.said k.marks) 0 w.joins (told_by (hears_batch held first) fits w.guests)
told-clients facts w k held fits first h n =
    let Q : List BatchEntry → Guest → Type 0 = λ taken. IsClientSo facts w.place w.config taken k.said k.marks in
    order-told (Q k.taken) (Q (k.taken ++ first)) (hears_batch held first)
    (λ g c. client-hears facts w.place w.config k.taken first k.said k.marks held g h c)
    (λ g c. client-falls facts w.place w.config k.taken first k.said k.marks g c)
    (hears-joined held first) 0 w.joins fits w.guests n k.clients

put-story : (facts : NodeFacts) (w : NetworkState) (later : List Change) (fits : List Bool) → length fits ≡ length w.guests
    → ArePut facts w.place w.puts w.held (changes_of w.batch) → AreHeldBehind facts (w.held ++ changes_of w.batch) later
    → Story facts w → Story facts (step facts (Puts later fits) w)
put-story facts w later fits n put behind k =
    let held : List Change = (w.held ++ changes_of w.batch) ++ later in
    let h : facts.held held =
    held-behind facts (w.held ++ changes_of w.batch) later (held-put facts w.place w.puts w.held (changes_of w.batch) k.is_held put) behind in
    record {
      taken = k.taken ++ w.batch;
      said = k.said;
      marks = k.marks;
      is_configured = k.is_configured;
      is_held = h;
      serving = serving-put facts w.place w.config w.joins w.serial w.server w.batch k.taken w.batch [] k.said (sym (append-nil w.batch)) k.serving;
      putting = putting-batch facts w.place w.config w.batch k.taken k.marks w.puts k.putting;
      said_below = k.said_below;
      marks_below = k.marks_below;
      clients = told-clients facts w k held fits w.batch h n;
    }

first-story : (facts : NodeFacts) (w : NetworkState) (count : ℕ) (fits : List Bool) → length fits ≡ length w.guests
    → Story facts w → Story facts (after_put_of_first count fits w)
first-story facts w count fits n k =
    let r : _ = first-rest count w.batch in
    let first : List BatchEntry = first_entries count w.batch in
    let Q : List Change → Type 0 = λ l. Putting facts w.place w.config (k.taken ++ first) k.marks (w.puts ++ l) in
    record {
      taken = k.taken ++ first;
      said = k.said;
      marks = k.marks;
      is_configured = k.is_configured;
      is_held = k.is_held;
      serving = serving-put facts w.place w.config w.joins w.serial w.server w.batch k.taken first r.0 k.said r.1 k.serving;
      putting = subst Q r.2 (putting-batch facts w.place w.config first k.taken k.marks w.puts k.putting);
      said_below = k.said_below;
      marks_below = k.marks_below;
      clients = told-clients facts w k w.held fits first k.is_held n;
    }

first-or-goes : (facts : NodeFacts) (w : NetworkState) (count : ℕ) (fits : List Bool) (is_all : Bool) → length fits ≡ length w.guests
    → Story facts w → Story facts (if is_all then after_put_of_first count fits w else without_server w.server (after_put_of_first count fits w))
first-or-goes facts w count fits true n k = first-story facts w count fits n k
first-or-goes facts w count fits false n k = goes-story facts (after_put_of_first count fits w) w.server refl (first-story facts w count fits n k)

-- ---- clients do something

spoken-story : (facts : NodeFacts) (w : NetworkState) (at now : ℕ) (g : Guest) (text : List ℕ) (more : List Effect) (o : Option Host)
    → facts.clock now → slice_get w.guests at ≡ Some g → g.is_gone ≡ false → g.todo ≡ Upstream text ∷ more → w.server ≡ o
    → Story facts w → Story facts (with_guest at g more (after_saying_to w now text o))
spoken-story facts w at now g text more None clock e there t s k =
    let P : Guest → Type 0 = IsClientSo facts w.place w.config k.taken k.said k.marks in
    let c : IsClientSo facts w.place w.config k.taken k.said k.marks g = order-get P 0 w.joins w.guests at g e k.clients in
    record {
      taken = k.taken;
      said = k.said;
      marks = k.marks;
      is_configured = k.is_configured;
      is_held = k.is_held;
      serving = k.serving;
      putting = k.putting;
      said_below = k.said_below;
      marks_below = k.marks_below;
      clients = order-set P 0 w.joins w.guests at g (record g { todo = more }) e refl
          (client-done facts w.place w.config k.taken k.said k.marks g (Upstream text) more there t tt c) k.clients;
    }
spoken-story facts w at now g text more (Some h) clock e there t s k =
    let P : Guest → Type 0 = IsClientSo facts w.place w.config k.taken k.said k.marks in
    let c : IsClientSo facts w.place w.config k.taken k.said k.marks g = order-get P 0 w.joins w.guests at g e k.clients in
    let a : Act = act_of g.serial c.joins c.did (Upstream text) in
    let S : Option Host → Type 0 = λ v. Serving facts w.place w.config w.joins w.serial v w.batch k.taken k.said in
    let is : number g.joined ≡ c.joins = ap number c.is_joined in
    let fits : number g.joined < w.joins = order-fits P 0 w.joins w.guests at g e k.clients in
    record {
      taken = k.taken;
      said = a ∷ k.said;
      marks = k.marks;
      is_configured = k.is_configured;
      is_held = k.is_held;
      serving = serving-says facts w.place w.config w.joins w.serial h w.batch k.taken k.said now text a clock refl
          (is-act facts w.place w.config k.taken k.said k.marks g (Upstream text) more there t c) c.before_said (subst S s k.serving);
      putting = k.putting;
      said_below = (omega (arith, is, fits), k.said_below);
      marks_below = k.marks_below;
      clients = order-act P (IsClientSo facts w.place w.config k.taken (a ∷ k.said) k.marks) c.joins
          (λ o not p. other-said facts w.place w.config k.taken k.said k.marks a o not p)
          0 w.joins w.guests at g (record g { todo = more }) e refl (sym is)
          (client-said facts w.place w.config k.taken k.said k.marks g (Upstream text) more there t tt c) k.clients;
    }

speaking-story : (facts : NodeFacts) (w : NetworkState) (at now : ℕ) (g : Guest) (todo : List Effect) → facts.clock now → slice_get w.guests at ≡ Some g → g.is_gone ≡ false → g.todo ≡ todo
    → Story facts w → Story facts (after_speaking w at now g todo)
speaking-story facts w at now g [] clock e there t k = k
speaking-story facts w at now g (Send text ∷ more) clock e there t k = k
speaking-story facts w at now g (Put change ∷ more) clock e there t k = k
speaking-story facts w at now g (Ask question ∷ more) clock e there t k = k
speaking-story facts w at now g (Upstream text ∷ more) clock e there t k = spoken-story facts w at now g text more w.server clock e there t refl k
speaking-story facts w at now g (Close ∷ more) clock e there t k = k

speaks-story : (facts : NodeFacts) (w : NetworkState) (at now : ℕ) (o : Option Guest) → facts.clock now → slice_get w.guests at ≡ o → IsTrueOfOption IsThere o
    → Story facts w → Story facts (after_speaking_of w at now o)
speaks-story facts w at now None clock e there k = k
speaks-story facts w at now (Some g) clock e there k = speaking-story facts w at now g g.todo clock e there refl k

-- a marker is put, and all are told; the one that put it knows it
mark-story : (facts : NodeFacts) (w : NetworkState) (at : ℕ) (later : List Change) (fits : List Bool) (g : Guest) (buffer : Buffer) (moment : ℕ) (more : List Effect)
    → slice_get w.guests at ≡ Some g → g.is_gone ≡ false → g.todo ≡ Put (Mark buffer moment) ∷ more → length fits ≡ length w.guests
    → facts.held (w.held ++ Mark buffer moment ∷ []) → AreHeldBehind facts (w.held ++ Mark buffer moment ∷ []) later
    → Story facts w → Story facts (after_marking w at later fits g (Put (Mark buffer moment) ∷ more))
mark-story facts w at later fits g buffer moment more e there t n held behind k =
    let change : Change = Mark buffer moment in
    let now : List Change = (w.held ++ change ∷ []) ++ later in
    let h : facts.held now = held-behind facts (w.held ++ change ∷ []) later held behind in
    let P : Guest → Type 0 = IsClientSo facts w.place w.config k.taken k.said k.marks in
    let c : IsClientSo facts w.place w.config k.taken k.said k.marks g = order-get P 0 w.joins w.guests at g e k.clients in
    let a : Act = act_of g.serial c.joins c.did (Put change) in
    let is : number g.joined ≡ c.joins = ap number c.is_joined in
    let lower : number g.joined < w.joins = order-fits P 0 w.joins w.guests at g e k.clients in
    let hears : Guest → Guest = hears_marker now buffer.target in
    let informed : AreInOrder P 0 w.joins (told_by hears fits w.guests) =
    order-told P P hears
    (λ o p. client-informed facts w.place w.config k.taken k.said k.marks now buffer.target o h p)
    (λ o p. client-drops facts w.place w.config k.taken k.said k.marks o p)
    (informed-joined now buffer.target) 0 w.joins fits w.guests n k.clients in
    let own : (new : Guest) × (slice_get (told_by hears fits w.guests) at ≡ Some new) × (number new.joined ≡ number g.joined) =
    told-at hears (informed-joined now buffer.target) fits w.guests at g e in
    record {
      taken = k.taken;
      said = k.said;
      marks = a ∷ k.marks;
      is_configured = k.is_configured;
      is_held = h;
      serving = k.serving;
      putting = putting-mark facts w.place w.config k.taken k.marks w.puts change a refl
          (is-act facts w.place w.config k.taken k.said k.marks g (Put change) more there t c) c.before_marks k.putting;
      said_below = k.said_below;
      marks_below = (omega (arith, is, lower), k.marks_below);
      clients = order-act P (IsClientSo facts w.place w.config k.taken k.said (a ∷ k.marks)) c.joins
          (λ o not p. other-marked facts w.place w.config k.taken k.said k.marks a o not p)
          0 w.joins (told_by hears fits w.guests) at own.0 (record g { todo = more }) own.1 (sym own.2) (sym is ∙ sym own.2)
          (client-marked facts w.place w.config k.taken k.said k.marks g (Put change) more there t tt c) informed;
    }

marking-story : (facts : NodeFacts) (w : NetworkState) (at : ℕ) (later : List Change) (fits : List Bool) (g : Guest) (todo : List Effect)
    → slice_get w.guests at ≡ Some g → g.is_gone ≡ false → g.todo ≡ todo → length fits ≡ length w.guests → IsMarkHeld facts w later todo
    → Story facts w → Story facts (after_marking w at later fits g todo)
marking-story facts w at later fits g [] e there t n held k = k
marking-story facts w at later fits g (Send text ∷ more) e there t n held k = k
marking-story facts w at later fits g (Put (Post r) ∷ more) e there t n held k = k
marking-story facts w at later fits g (Put (Redact buffer id moment) ∷ more) e there t n held k = k
marking-story facts w at later fits g (Put (Mark buffer moment) ∷ more) e there t n held k =
    mark-story facts w at later fits g buffer moment more e there t n held.0 held.1 k
marking-story facts w at later fits g (Put (Floor buffer moment) ∷ more) e there t n held k = k
marking-story facts w at later fits g (Put (AccountFloor account moment) ∷ more) e there t n held k = k
marking-story facts w at later fits g (Ask question ∷ more) e there t n held k = k
marking-story facts w at later fits g (Upstream text ∷ more) e there t n held k = k
marking-story facts w at later fits g (Close ∷ more) e there t n held k = k

marks-story : (facts : NodeFacts) (w : NetworkState) (at : ℕ) (later : List Change) (fits : List Bool) (o : Option Guest) → slice_get w.guests at ≡ o
    → length fits ≡ length w.guests
    → IsTrueOfOption (λ g. IsThere g × IsMarkPut facts w g.todo × IsMarkHeld facts w later g.todo) o
    → Story facts w → Story facts (after_marking_of w at later fits o)
marks-story facts w at later fits None e n t k = k
marks-story facts w at later fits (Some g) e n t k = marking-story facts w at later fits g g.todo e t.0 refl n t.2 k

-- it is put, and waits
waiting-story : (facts : NodeFacts) (w : NetworkState) (at : ℕ) (g : Guest) (change : Change) (more : List Effect)
    → slice_get w.guests at ≡ Some g → g.is_gone ≡ false → g.todo ≡ Put change ∷ more
    → Story facts w → Story facts (after_waiting_mark w at g (Put change ∷ more))
waiting-story facts w at g change more e there t k =
    let P : Guest → Type 0 = IsClientSo facts w.place w.config k.taken k.said k.marks in
    let c : IsClientSo facts w.place w.config k.taken k.said k.marks g = order-get P 0 w.joins w.guests at g e k.clients in
    let a : Act = act_of g.serial c.joins c.did (Put change) in
    let is : number g.joined ≡ c.joins = ap number c.is_joined in
    let lower : number g.joined < w.joins = order-fits P 0 w.joins w.guests at g e k.clients in
    record {
      taken = k.taken;
      said = k.said;
      marks = a ∷ k.marks;
      is_configured = k.is_configured;
      is_held = k.is_held;
      serving = k.serving;
      putting = putting-mark facts w.place w.config k.taken k.marks w.puts change a refl
          (is-act facts w.place w.config k.taken k.said k.marks g (Put change) more there t c) c.before_marks k.putting;
      said_below = k.said_below;
      marks_below = (omega (arith, is, lower), k.marks_below);
      clients = order-act P (IsClientSo facts w.place w.config k.taken k.said (a ∷ k.marks)) c.joins
          (λ o not p. other-marked facts w.place w.config k.taken k.said k.marks a o not p)
          0 w.joins w.guests at g (record g { todo = more }) e refl (sym is)
          (client-marked facts w.place w.config k.taken k.said k.marks g (Put change) more there t tt c) k.clients;
    }

waited-story : (facts : NodeFacts) (w : NetworkState) (at : ℕ) (g : Guest) (todo : List Effect) → slice_get w.guests at ≡ Some g → g.is_gone ≡ false → g.todo ≡ todo
    → Story facts w → Story facts (after_waiting_mark w at g todo)
waited-story facts w at g [] e there t k = k
waited-story facts w at g (Send text ∷ more) e there t k = k
waited-story facts w at g (Put change ∷ more) e there t k = waiting-story facts w at g change more e there t k
waited-story facts w at g (Ask question ∷ more) e there t k = k
waited-story facts w at g (Upstream text ∷ more) e there t k = k
waited-story facts w at g (Close ∷ more) e there t k = k

waits-story : (facts : NodeFacts) (w : NetworkState) (at : ℕ) (o : Option Guest) → slice_get w.guests at ≡ o
    → IsTrueOfOption (λ g. IsThere g × IsMarkPut facts w g.todo) o
    → Story facts w → Story facts (after_waiting_mark_of w at o)
waits-story facts w at None e t k = k
waits-story facts w at (Some g) e t k = waited-story facts w at g g.todo e t.0 refl k

-- ---- an event of one client, and clients that come and leave

has-order : (facts : NodeFacts) (laws : Laws) (place : ℕ) (config : SessionConfig) (taken : List BatchEntry) (said marks : List Act) (joins : ℕ)
    (held : List Change) (Stands : Directory → Type 0) (at : ℕ) (event : GuestEvent) (guests : List Guest) (o : Option Guest)
    → ((directory : Directory) → Stands directory → IsDirectory facts directory) → facts.held held
    → slice_get guests at ≡ o → IsTrueOfOption (IsTrueOfGuest facts held Stands event) o
    → AreInOrder (IsClientSo facts place config taken said marks) 0 joins guests
    → AreInOrder (IsClientSo facts place config taken said marks) 0 joins (guests_after held at event guests o)
has-order facts laws place config taken said marks joins held Stands at event guests None own h e t k = k
has-order facts laws place config taken said marks joins held Stands at event guests (Some g) own h e t k =
    let P : Guest → Type 0 = IsClientSo facts place config taken said marks in
    let same : _ = event-joined held event g in
    order-set P 0 joins guests at g (guest_step held event g) e (ap number same.0)
    (client-event facts laws place config taken said marks held Stands event g own h t (order-get P 0 joins guests at g e k)) k

-- ---- all events

step-story : (facts : NodeFacts) → Laws → (event : NetworkEvent) (w : NetworkState) → IsTrueEvent facts w event → Story facts w → Story facts (step facts event w)
step-story facts laws (ServerComes serial) w t k = record {
  taken = k.taken;
  said = k.said;
  marks = k.marks;
  is_configured = k.is_configured;
  is_held = k.is_held;
  serving = serving-comes facts w.place w.config w.joins w.serial w.server w.batch k.taken k.said serial t.0 t.1 t.2 k.serving;
  putting = k.putting;
  said_below = below-more w.joins k.said k.said_below;
  marks_below = below-more w.joins k.marks k.marks_below;
  clients = order-bound (IsClientSo facts w.place w.config k.taken k.said k.marks) 0 w.joins w.guests k.clients;
}
step-story facts laws (ServerGets bytes) w t k =
    with-serving w.serial w.nick _ _ k (serving-got facts w.place w.config w.joins w.serial w.server w.batch k.taken k.said bytes t k.serving)
step-story facts laws (ServerSays now) w t k = line-story facts w now w.server t refl k
step-story facts laws ServerSkips w t k =
    with-serving w.serial w.nick _ _ k (serving-skipped facts w.place w.config w.joins w.serial w.server w.batch k.taken k.said t k.serving)
step-story facts laws ServerGoes w t k = goes-story facts w w.server refl k
step-story facts laws (Others changes) w t k = record {
  taken = k.taken;
  said = k.said;
  marks = k.marks;
  is_configured = k.is_configured;
  is_held = t;
  serving = k.serving;
  putting = k.putting;
  said_below = k.said_below;
  marks_below = k.marks_below;
  clients = k.clients;
}
step-story facts laws (Puts later fits) w t k = put-story facts w later fits t.0 t.1 t.2 k
step-story facts laws (PutsFirst count fits) w t k = first-or-goes facts w count fits (count == length (changes_of w.batch)) t.0 k
step-story facts laws Loses w t k = goes-story facts (record w { batch = [] }) w.server refl (lost-story facts w k)
step-story facts laws (Comes guest) w t k = record {
  taken = k.taken;
  said = k.said;
  marks = k.marks;
  is_configured = k.is_configured;
  is_held = k.is_held;
  serving = serving-joined facts w.place w.config w.joins w.serial w.server w.batch k.taken k.said k.serving;
  putting = k.putting;
  said_below = below-more w.joins k.said k.said_below;
  marks_below = below-more w.joins k.marks k.marks_below;
  clients = order-join (IsClientSo facts w.place w.config k.taken k.said k.marks) 0 w.joins (record guest { joined = Some w.joins }) w.guests refl
      (client-arrives facts laws w.place w.config k.taken k.said k.marks (entry_of w) guest w.joins k.is_configured t.0 t.1
      (below-before w.joins [] k.said k.said_below) (below-before w.joins [] k.marks k.marks_below)) k.clients;
}
step-story facts laws (Has at event) w t k = record {
  taken = k.taken;
  said = k.said;
  marks = k.marks;
  is_configured = k.is_configured;
  is_held = k.is_held;
  serving = k.serving;
  putting = k.putting;
  said_below = k.said_below;
  marks_below = k.marks_below;
  clients = has-order facts laws w.place w.config k.taken k.said k.marks w.joins w.held
      (λ directory. directory ≡ directory_at facts.accounts w.config (entry_of w)) at event w.guests (slice_get w.guests at)
      (λ directory e. subst (λ (d : Directory). IsDirectory facts d) (sym e) (AtMoment w.place w.config (entry_of w) k.is_configured))
      k.is_held refl t k.clients;
}
step-story facts laws (Speaks at now) w t k = speaks-story facts w at now (slice_get w.guests at) t.1 refl t.0 k
step-story facts laws (Marks at later fits) w t k = marks-story facts w at later fits (slice_get w.guests at) refl t.0 t.1 k
step-story facts laws (MarkWaits at) w t k = waits-story facts w at (slice_get w.guests at) refl t k
step-story facts laws (Informs target fits) w t k =
    let P : Guest → Type 0 = IsClientSo facts w.place w.config k.taken k.said k.marks in
    record {
      taken = k.taken;
      said = k.said;
      marks = k.marks;
      is_configured = k.is_configured;
      is_held = k.is_held;
      serving = k.serving;
      putting = k.putting;
      said_below = k.said_below;
      marks_below = k.marks_below;
      clients = order-told P P (hears_marker w.held target)
          (λ o p. client-informed facts w.place w.config k.taken k.said k.marks w.held target o k.is_held p)
          (λ o p. client-drops facts w.place w.config k.taken k.said k.marks o p)
          (informed-joined w.held target) 0 w.joins fits w.guests t.0 k.clients;
    }
step-story facts laws (Leaves at) w t k = record {
  taken = k.taken;
  said = k.said;
  marks = k.marks;
  is_configured = k.is_configured;
  is_held = k.is_held;
  serving = k.serving;
  putting = k.putting;
  said_below = k.said_below;
  marks_below = k.marks_below;
  clients = order-leave (IsClientSo facts w.place w.config k.taken k.said k.marks) 0 w.joins at w.guests k.clients;
}

run-story : (facts : NodeFacts) → Laws → (log : List NetworkEvent) (w : NetworkState) → AreTrue facts w log → Story facts w → Story facts (run facts log w)
run-story facts laws [] w t k = k
run-story facts laws (event ∷ log) w t k = run-story facts laws log (step facts event w) t.1 (step-story facts laws event w t.0 k)

pub story : (facts : NodeFacts) → Laws → (w : NetworkState) → IsReached facts w → Story facts w
story facts laws w r =
    let first : NetworkState = beginning r.place r.config r.held in
    let begins : Story facts first = record {
      taken = [];
      said = [];
      marks = [];
      is_configured = r.is_there;
      is_held = r.is_held;
      serving = record { streams = []; are_streams = tt; is_served = refl; is_all = NoPart; are_said = refl; are_once = tt };
      putting = record { are_put = NothingPut; are_acts = tt; are_once = tt };
      said_below = tt;
      marks_below = tt;
      clients = omega arith;
    } in
    subst (Story facts) (sym r.leads.is_run) (run-story facts laws r.leads.log first r.leads.is_true begins)
