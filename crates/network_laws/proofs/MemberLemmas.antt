-- What is so of a client of a network.
use Rattle.std.proofs.Common.{append_assoc, ◌≡◌, Bool, true, false, ℕ, List, [], ◌∷◌, ◌++◌, Option, Some, None, refl, sym, ap, ◌∙◌, subst, if◌then◌else◌}
use Rattle.std.specs.List.{AllByRecursion}
use mathlib.Core.List.{IsPrefix}
use Rattle.std.specs.Prelude.{slice_get}
use Rattle.irc_line.specs.Stream.{Item, line as whole_line, too_long as cut_line}
use Rattle.chat_change.specs.declared.change.Change.{Change}
use Rattle.chat_change.specs.declared.change.Change.TheVariants.{Post, Redact, Mark, Floor, AccountFloor}
use Rattle.chat_query.specs.Answers.{Answer}
use Rattle.chat_query.specs.declared.facts.Facts.{Facts}
use Rattle.cluster_directory.specs.Directory.{Directory}
use Rattle.cluster_directory.specs.Entry.{Entry}
use Rattle.cluster_directory.specs.declared.config.SessionConfig.{SessionConfig}
use Rattle.client_session.specs.declared.effect.Effect.{Effect}
use Rattle.client_session.specs.declared.effect.Effect.TheVariants.{Send, Put, Ask, Upstream, Close}
use Rattle.client_session.specs.declared.stage.Stage.{Stage}
use Rattle.client_session.specs.declared.stage.Stage.TheVariants.{Waiting, Registered, Closed}
use Rattle.client_session.specs.Events.{ClientEvent, IsOwnChange, IsOwnEffect, Line, CutLine, effects_of}
use Rattle.client_session.specs.Session.{facts_in, session_after}
use Rattle.network_log.specs.Accounts.{directory_at}
use Rattle.network_log.specs.Facts.{NodeFacts}
use Rattle.network_log.specs.Guest.{Guest, GuestEvent, Gets, Hears, Says, Asks, Closes, Offers, Falls, next_item, guest_step, step_of, fallen, after_item, after_saying, after_asking, after_answer, after_closing, answer_to}
use Rattle.network_log.specs.Host.{BatchEntry}
use Rattle.network_log.specs.Share.{hears_batch, hears_marker, with_batch, with_text, marker_text, told_to, nick_by_all}
use Rattle.network_log.specs.Truth.{AtMoment, IsArrived, IsDirectory, IsTrueOfGuest}
use Rattle.network_laws.specs.Acts.{Act, AreAmong, IsActOf, all_effects}
use Rattle.network_laws.specs.LetIn.{HasLoggedIn, IsOfNetwork}
use Rattle.network_laws.specs.Own.{IsMarkIn, PutsOwnMark}
use Rattle.network_laws.specs.Told.{AreLatestOf, IsNoWord}
use Rattle.network_laws.proofs.ClientLemmas.{Goes, GuestHas, IsGuestSo, KnowsOwn, acts-so, batch-so, event-so, fallen-so, joined-so, let-in-so, marker-so, newcomer-knows, newcomer-outside, newcomer-so, prefix-same, prefix-trans, since-gone, since-more, since-now, start}
use Rattle.network_laws.proofs.LetInLemmas.{NobodyEnters, arrived-logged, event-logged, like}
use Rattle.network_laws.proofs.OrderLemmas.{number}
use Rattle.network_laws.proofs.OwnLemmas.{NeverChange, StaysClosed, own-arrived, own-event}

-- what the session's laws say
pub record Laws : Type 0 where
  pub enters : NobodyEnters
  pub never_change : NeverChange
  pub stays_closed : StaysClosed
  pub puts : (session : Stage) (event : ClientEvent) → AllByRecursion (IsOwnEffect session) (effects_of session event)

-- ---- a client of the network

-- It was let in to that network, was told of these entries at most, and so much is done of what its session had to do: behind what is done of it
-- among those that have said something and those that have put something.
pub record IsClientSo (facts : NodeFacts) (place : ℕ) (config : SessionConfig) (taken : List BatchEntry) (said marks : List Act) (g : Guest) : Type 0 where
  pub joins : ℕ
  pub is_joined : g.joined ≡ Some joins
  pub it_joined : facts.joined g.serial place joins
  pub has_logged_in : HasLoggedIn facts config g
  pub is_of : IsOfNetwork config g.session
  pub are_own : AllByRecursion (PutsOwnMark config) g.todo
  pub did : List Effect
  pub has : GuestHas facts config taken did g
  pub before_said : AreAmong joins did said
  pub before_marks : AreAmong joins did marks

pub before-more : (joins : ℕ) (did more : List Effect) (acts : List Act) → IsPrefix did more → AreAmong joins did acts → AreAmong joins more acts
before-more joins did more [] h k = tt
before-more joins did more (a ∷ acts) h k =
    ((λ e. prefix-trans (a.before ++ a.effect ∷ []) did more (k.0 e) h), before-more joins did more acts h k.1)

pub knows : (facts : NodeFacts) (config : SessionConfig) (held : List Change) (g : Guest) → facts.held held → IsOfNetwork config g.session → KnowsOwn facts config held g
knows facts config held g h own = λ f e. (h, own)

-- ---- the markers that it puts

-- a session of that network puts markers of it
own-mark : (config : SessionConfig) (f : Facts) (change : Change) → (f.account ≡ config.account) × (f.network ≡ config.network)
    → IsOwnChange (Registered f) change → IsMarkIn config change
own-mark config f (Post r) own h = absurd h
own-mark config f (Redact buffer id at) own h = absurd h
own-mark config f (Mark buffer at) own h = (h.0 ∙ own.0, h.1 ∙ own.1)
own-mark config f (Floor buffer at) own h = absurd h
own-mark config f (AccountFloor account at) own h = absurd h

marks-own : (config : SessionConfig) (session : Stage) → IsOfNetwork config session → (change : Change) → IsOwnChange session change → IsMarkIn config change
marks-own config (Waiting w) own change h = absurd h
marks-own config (Registered f) own change h = own-mark config f change own h
marks-own config Closed own change h = absurd h

-- one that knows nothing puts nothing
marks-none : (config : SessionConfig) (session : Stage) → facts_in session ≡ None → (change : Change) → IsOwnChange session change → IsMarkIn config change
marks-none config (Waiting w) e change h = absurd h
marks-none config (Registered f) e change h = absurd (cc e)
marks-none config Closed e change h = absurd h

own-effects : (config : SessionConfig) (session : Stage) → ((change : Change) → IsOwnChange session change → IsMarkIn config change) → (effects : List Effect)
    → AllByRecursion (IsOwnEffect session) effects → AllByRecursion (PutsOwnMark config) effects
own-effects config session own [] k = tt
own-effects config session own (Send text ∷ effects) k = (tt, own-effects config session own effects k.1)
own-effects config session own (Put change ∷ effects) k = (own change k.0, own-effects config session own effects k.1)
own-effects config session own (Ask question ∷ effects) k = (tt, own-effects config session own effects k.1)
own-effects config session own (Upstream text ∷ effects) k = (tt, own-effects config session own effects k.1)
own-effects config session own (Close ∷ effects) k = (tt, own-effects config session own effects k.1)

own-item : Laws → (config : SessionConfig) (directory : Directory) (shown : Bool) (g : Guest) (o : Option Item)
    → ((change : Change) → IsOwnChange g.session change → IsMarkIn config change)
    → AllByRecursion (PutsOwnMark config) g.todo → AllByRecursion (PutsOwnMark config) (after_item directory shown g o).todo
own-item laws config directory shown g None own k = k
own-item laws config directory shown g (Some (whole_line bytes)) own k =
    own-effects config g.session own (effects_of g.session (Line directory shown bytes)) (laws.puts g.session (Line directory shown bytes))
own-item laws config directory shown g (Some cut_line) own k =
    own-effects config g.session own (effects_of g.session (CutLine directory)) (laws.puts g.session (CutLine directory))

own-said : (config : SessionConfig) (g : Guest) (todo : List Effect) → AllByRecursion (PutsOwnMark config) g.todo → AllByRecursion (PutsOwnMark config) todo
    → AllByRecursion (PutsOwnMark config) (after_saying g todo).todo
own-said config g [] k n = k
own-said config g (Send text ∷ more) k n = n.1
own-said config g (Put change ∷ more) k n = k
own-said config g (Ask question ∷ more) k n = k
own-said config g (Upstream text ∷ more) k n = k
own-said config g (Close ∷ more) k n = k

own-answer : (config : SessionConfig) (g : Guest) (more : List Effect) (o : Option Answer) → AllByRecursion (PutsOwnMark config) more
    → AllByRecursion (PutsOwnMark config) (after_answer g more o).todo
own-answer config g more None n = n
own-answer config g more (Some answer) n = n

own-asked : (config : SessionConfig) (held : List Change) (g : Guest) (todo : List Effect) → AllByRecursion (PutsOwnMark config) g.todo → AllByRecursion (PutsOwnMark config) todo
    → AllByRecursion (PutsOwnMark config) (after_asking held g todo).todo
own-asked config held g [] k n = k
own-asked config held g (Send text ∷ more) k n = k
own-asked config held g (Put change ∷ more) k n = k
own-asked config held g (Ask question ∷ more) k n = own-answer config g more (answer_to held (facts_in g.session) question) n.1
own-asked config held g (Upstream text ∷ more) k n = k
own-asked config held g (Close ∷ more) k n = k

own-closed : (config : SessionConfig) (g : Guest) (todo : List Effect) → AllByRecursion (PutsOwnMark config) g.todo → AllByRecursion (PutsOwnMark config) todo
    → AllByRecursion (PutsOwnMark config) (after_closing g todo).todo
own-closed config g [] k n = k
own-closed config g (Send text ∷ more) k n = k
own-closed config g (Put change ∷ more) k n = k
own-closed config g (Ask question ∷ more) k n = k
own-closed config g (Upstream text ∷ more) k n = k
own-closed config g (Close ∷ more) k n = n.1

own-todo : Laws → (config : SessionConfig) (held : List Change) (event : GuestEvent) (g : Guest)
    → ((change : Change) → IsOwnChange g.session change → IsMarkIn config change)
    → AllByRecursion (PutsOwnMark config) g.todo → AllByRecursion (PutsOwnMark config) (guest_step held event g).todo
own-todo laws config held (Gets bytes) g own k = k
own-todo laws config held (Hears directory shown) g own k = own-item laws config directory shown g (next_item g.received g.heard) own k
own-todo laws config held Says g own k = own-said config g g.todo k k
own-todo laws config held Asks g own k = own-asked config held g g.todo k k
own-todo laws config held Closes g own k = own-closed config g g.todo k k
own-todo laws config held (Offers count) g own k = k
own-todo laws config held Falls g own k = tt

-- ---- what stays the same of it

item-joined : (directory : Directory) (shown : Bool) (g : Guest) (o : Option Item) → ((after_item directory shown g o).joined ≡ g.joined) × ((after_item directory shown g o).serial ≡ g.serial)
item-joined directory shown g None = (refl, refl)
item-joined directory shown g (Some item) = (refl, refl)

said-joined : (g : Guest) (todo : List Effect) → ((after_saying g todo).joined ≡ g.joined) × ((after_saying g todo).serial ≡ g.serial)
said-joined g [] = (refl, refl)
said-joined g (Send text ∷ more) = (refl, refl)
said-joined g (Put change ∷ more) = (refl, refl)
said-joined g (Ask question ∷ more) = (refl, refl)
said-joined g (Upstream text ∷ more) = (refl, refl)
said-joined g (Close ∷ more) = (refl, refl)

answer-joined : (g : Guest) (more : List Effect) (o : Option Answer) → ((after_answer g more o).joined ≡ g.joined) × ((after_answer g more o).serial ≡ g.serial)
answer-joined g more None = (refl, refl)
answer-joined g more (Some answer) = (refl, refl)

asked-joined : (held : List Change) (g : Guest) (todo : List Effect) → ((after_asking held g todo).joined ≡ g.joined) × ((after_asking held g todo).serial ≡ g.serial)
asked-joined held g [] = (refl, refl)
asked-joined held g (Send text ∷ more) = (refl, refl)
asked-joined held g (Put change ∷ more) = (refl, refl)
asked-joined held g (Ask question ∷ more) = answer-joined g more (answer_to held (facts_in g.session) question)
asked-joined held g (Upstream text ∷ more) = (refl, refl)
asked-joined held g (Close ∷ more) = (refl, refl)

closed-joined : (g : Guest) (todo : List Effect) → ((after_closing g todo).joined ≡ g.joined) × ((after_closing g todo).serial ≡ g.serial)
closed-joined g [] = (refl, refl)
closed-joined g (Send text ∷ more) = (refl, refl)
closed-joined g (Put change ∷ more) = (refl, refl)
closed-joined g (Ask question ∷ more) = (refl, refl)
closed-joined g (Upstream text ∷ more) = (refl, refl)
closed-joined g (Close ∷ more) = (refl, refl)

pub event-joined : (held : List Change) (event : GuestEvent) (g : Guest) → ((guest_step held event g).joined ≡ g.joined) × ((guest_step held event g).serial ≡ g.serial)
event-joined held (Gets bytes) g = (refl, refl)
event-joined held (Hears directory shown) g = item-joined directory shown g (next_item g.received g.heard)
event-joined held Says g = said-joined g g.todo
event-joined held Asks g = asked-joined held g g.todo
event-joined held Closes g = closed-joined g g.todo
event-joined held (Offers count) g = (refl, refl)
event-joined held Falls g = (refl, refl)

pub batch-same : (held : List Change) (batch : List BatchEntry) (g : Guest) (o : Option Facts)
    → ((with_batch held batch g o).joined ≡ g.joined) × ((with_batch held batch g o).serial ≡ g.serial) × ((with_batch held batch g o).received ≡ g.received) × ((with_batch held batch g o).session ≡ g.session) × ((with_batch held batch g o).todo ≡ g.todo)
batch-same held batch g None = (refl, refl, refl, refl, refl)
batch-same held batch g (Some f) =
    elim (g.is_gone) as (λ b. let n : Guest = if b then g else record g { told = g.told ++ told_to held f g.nick batch; nick = nick_by_all g.nick batch } in
    (n.joined ≡ g.joined) × (n.serial ≡ g.serial) × (n.received ≡ g.received) × (n.session ≡ g.session) × (n.todo ≡ g.todo)) [
      | true ↦ (refl, refl, refl, refl, refl)
      | false ↦ (refl, refl, refl, refl, refl)
    ]

pub marker-same : (held : List Change) (target : List ℕ) (g : Guest) (o : Option Facts) → let n : Guest = with_text (λ f. marker_text held f target) g o in
    (n.joined ≡ g.joined) × (n.serial ≡ g.serial) × (n.received ≡ g.received) × (n.session ≡ g.session) × (n.todo ≡ g.todo)
marker-same held target g None = (refl, refl, refl, refl, refl)
marker-same held target g (Some f) =
    elim (g.is_gone) as (λ b. let n : Guest = if b then g else record g { told = g.told ++ marker_text held f target } in
    (n.joined ≡ g.joined) × (n.serial ≡ g.serial) × (n.received ≡ g.received) × (n.session ≡ g.session) × (n.todo ≡ g.todo)) [
      | true ↦ (refl, refl, refl, refl, refl)
      | false ↦ (refl, refl, refl, refl, refl)
    ]

-- ---- whether it is there

closed-item : Laws → (directory : Directory) (shown : Bool) (g : Guest) (o : Option Item) → g.session ≡ Closed → (after_item directory shown g o).session ≡ Closed
closed-item laws directory shown g None e = e
closed-item laws directory shown g (Some (whole_line bytes)) e =
    ap (λ (s : Stage). (step_of directory shown s (whole_line bytes)).session) e ∙ laws.stays_closed (Line directory shown bytes ∷ [])
closed-item laws directory shown g (Some cut_line) e =
    ap (λ (s : Stage). (step_of directory shown s cut_line).session) e ∙ laws.stays_closed (CutLine directory ∷ [])

closed-said : (g : Guest) (todo : List Effect) → g.session ≡ Closed → (after_saying g todo).session ≡ Closed
closed-said g [] e = e
closed-said g (Send text ∷ more) e = e
closed-said g (Put change ∷ more) e = e
closed-said g (Ask question ∷ more) e = e
closed-said g (Upstream text ∷ more) e = e
closed-said g (Close ∷ more) e = e

closed-answer : (g : Guest) (more : List Effect) (o : Option Answer) → g.session ≡ Closed → (after_answer g more o).session ≡ Closed
closed-answer g more None e = e
closed-answer g more (Some answer) e = ap (λ (s : Stage). session_after s answer.answered) e

closed-asked : (held : List Change) (g : Guest) (todo : List Effect) → g.session ≡ Closed → (after_asking held g todo).session ≡ Closed
closed-asked held g [] e = e
closed-asked held g (Send text ∷ more) e = e
closed-asked held g (Put change ∷ more) e = e
closed-asked held g (Ask question ∷ more) e = closed-answer g more (answer_to held (facts_in g.session) question) e
closed-asked held g (Upstream text ∷ more) e = e
closed-asked held g (Close ∷ more) e = e

closed-closed : (g : Guest) (todo : List Effect) → g.session ≡ Closed → (after_closing g todo).session ≡ Closed
closed-closed g [] e = e
closed-closed g (Send text ∷ more) e = e
closed-closed g (Put change ∷ more) e = e
closed-closed g (Ask question ∷ more) e = e
closed-closed g (Upstream text ∷ more) e = e
closed-closed g (Close ∷ more) e = e

closed-event : Laws → (held : List Change) (event : GuestEvent) (g : Guest) → g.session ≡ Closed → (guest_step held event g).session ≡ Closed
closed-event laws held (Gets bytes) g e = e
closed-event laws held (Hears directory shown) g e = closed-item laws directory shown g (next_item g.received g.heard) e
closed-event laws held Says g e = closed-said g g.todo e
closed-event laws held Asks g e = closed-asked held g g.todo e
closed-event laws held Closes g e = closed-closed g g.todo e
closed-event laws held (Offers count) g e = e
closed-event laws held Falls g e = e

-- one of a network that is registered was registered before
known-before : Laws → (config : SessionConfig) (held : List Change) (event : GuestEvent) (g : Guest) (f : Facts) (session : Stage) → g.session ≡ session
    → IsOfNetwork config session → facts_in (guest_step held event g).session ≡ Some f → (o : Facts) × (facts_in g.session ≡ Some o)
known-before laws config held event g f (Waiting w) e own known = absurd own
known-before laws config held event g f (Registered o) e own known = (o, ap facts_in e)
known-before laws config held event g f Closed e own known =
    let none : facts_in (guest_step held event g).session ≡ None = ap facts_in (closed-event laws held event g e) in
    let both : None ≡ Some f = sym none ∙ known in
    absurd (cc both)

-- one that is there was there before
there-before : (facts : NodeFacts) (held : List Change) (Stands : Directory → Type 0) (event : GuestEvent) (g : Guest) → IsTrueOfGuest facts held Stands event g
    → (guest_step held event g).is_gone ≡ false → g.is_gone ≡ false
there-before facts held Stands (Gets bytes) g t e = t.0
there-before facts held Stands (Hears directory shown) g t e = t.0
there-before facts held Stands Says g t e = t
there-before facts held Stands Asks g t e = t
there-before facts held Stands Closes g t e = t
there-before facts held Stands (Offers count) g t e = t.0
there-before facts held Stands Falls g t e = absurd (cc e)

since-event : (facts : NodeFacts) → Laws → (config : SessionConfig) (put heard : List BatchEntry) (held : List Change) (Stands : Directory → Type 0) (event : GuestEvent) (g : Guest)
    → IsTrueOfGuest facts held Stands event g → IsOfNetwork config g.session
    → AreLatestOf put heard g.is_gone g.session → AreLatestOf put heard (guest_step held event g).is_gone (guest_step held event g).session
since-event facts laws config put heard held Stands event g t own k = record {
  before = k.before;
  missed = k.missed;
  is_all = k.is_all;
  is_latest = λ f there known.
      let was : (o : Facts) × (facts_in g.session ≡ Some o) = known-before laws config held event g f g.session refl own known in
      k.is_latest was.0 (there-before facts held Stands event g t there) was.1;
}

-- ---- what happens to it

-- another value of it, which joined as it did
again : {facts : NodeFacts} {place : ℕ} {config : SessionConfig} {taken all : List BatchEntry} {said marks : List Act} {g new : Guest} (did : List Effect)
    → new.joined ≡ g.joined → new.serial ≡ g.serial → HasLoggedIn facts config new → IsOfNetwork config new.session → AllByRecursion (PutsOwnMark config) new.todo
    → (k : IsClientSo facts place config taken said marks g) → IsPrefix k.did did → GuestHas facts config all did new
    → IsClientSo facts place config all said marks new
again {facts} {place} {config} {taken} {all} {said} {marks} {g} {new} did j s login own todo k less has = record {
  joins = k.joins;
  is_joined = j ∙ k.is_joined;
  it_joined = subst (λ n. facts.joined n place k.joins) (sym s) k.it_joined;
  has_logged_in = login;
  is_of = own;
  are_own = todo;
  did = did;
  has = has;
  before_said = before-more k.joins k.did did said less k.before_said;
  before_marks = before-more k.joins k.did did marks less k.before_marks;
}

pub client-event : (facts : NodeFacts) (laws : Laws) (place : ℕ) (config : SessionConfig) (taken : List BatchEntry) (said marks : List Act)
    (held : List Change) (Stands : Directory → Type 0) (event : GuestEvent) (g : Guest)
    → ((directory : Directory) → Stands directory → IsDirectory facts directory) → facts.held held
    → IsTrueOfGuest facts held Stands event g
    → IsClientSo facts place config taken said marks g → IsClientSo facts place config taken said marks (guest_step held event g)
client-event facts laws place config taken said marks held Stands event g own h t k =
    let went : Goes facts config false k.has.0 k.did (guest_step held event g) =
    event-so facts config false k.has.0 k.did held Stands event g own (knows facts config held g h k.is_of) (λ e. absurd (cc e)) t k.has.2 in
    let same : _ = event-joined held event g in
    again went.0 same.0 same.1 (event-logged held event g k.has_logged_in)
    (own-event laws.never_change laws.stays_closed config held event g k.is_of)
    (own-todo laws config held event g (marks-own config g.session k.is_of) k.are_own) k went.1
    (k.has.0, since-event facts laws config taken k.has.0 held Stands event g t k.is_of k.has.1, went.2)

-- it may be told of more, or falls
pub client-falls : (facts : NodeFacts) (place : ℕ) (config : SessionConfig) (taken batch : List BatchEntry) (said marks : List Act) (g : Guest)
    → IsClientSo facts place config taken said marks g → IsClientSo facts place config (taken ++ batch) said marks (fallen g)
client-falls facts place config taken batch said marks g k =
    again k.did refl refl (like refl k.has_logged_in) k.is_of tt k (prefix-same k.did)
    (k.has.0, since-more taken batch k.has.0 true g.session (λ f e known. absurd (cc e)) (since-gone taken k.has.0 g.is_gone g.session k.has.1), fallen-so facts config false k.has.0 k.did g k.has.2)

pub client-drops : (facts : NodeFacts) (place : ℕ) (config : SessionConfig) (taken : List BatchEntry) (said marks : List Act) (g : Guest)
    → IsClientSo facts place config taken said marks g → IsClientSo facts place config taken said marks (fallen g)
client-drops facts place config taken said marks g k =
    again k.did refl refl (like refl k.has_logged_in) k.is_of tt k (prefix-same k.did)
    (k.has.0, since-gone taken k.has.0 g.is_gone g.session k.has.1, fallen-so facts config false k.has.0 k.did g k.has.2)

pub client-hears : (facts : NodeFacts) (place : ℕ) (config : SessionConfig) (taken batch : List BatchEntry) (said marks : List Act) (held : List Change) (g : Guest)
    → facts.held held
    → IsClientSo facts place config taken said marks g → IsClientSo facts place config (taken ++ batch) said marks (hears_batch held batch g)
client-hears facts place config taken batch said marks held g h k =
    let same : _ = batch-same held batch g (facts_in g.session) in
    again k.did same.0 same.1 (like same.2 k.has_logged_in) (subst (IsOfNetwork config) (sym same.3) k.is_of)
    (subst (λ (l : List Effect). AllByRecursion (PutsOwnMark config) l) (sym same.4) k.are_own) k (prefix-same k.did)
    (batch-so facts config held batch taken k.did g (knows facts config held g h k.is_of) k.has)

pub client-informed : (facts : NodeFacts) (place : ℕ) (config : SessionConfig) (taken : List BatchEntry) (said marks : List Act) (held : List Change) (target : List ℕ) (g : Guest)
    → facts.held held
    → IsClientSo facts place config taken said marks g → IsClientSo facts place config taken said marks (hears_marker held target g)
client-informed facts place config taken said marks held target g h k =
    let same : _ = marker-same held target g (facts_in g.session) in
    again k.did same.0 same.1 (like same.2 k.has_logged_in) (subst (IsOfNetwork config) (sym same.3) k.is_of)
    (subst (λ (l : List Effect). AllByRecursion (PutsOwnMark config) l) (sym same.4) k.are_own) k (prefix-same k.did)
    (marker-so facts config held target taken k.did g (knows facts config held g h k.is_of) k.has)

arrived-own : (facts : NodeFacts) → Laws → (config : SessionConfig) (entry : Entry) (g : Guest) (a : IsArrived facts config entry g) → facts_in a.before.session ≡ None
    → AllByRecursion (PutsOwnMark config) g.todo
arrived-own facts laws config entry g a none =
    let O : Guest → Type 0 = λ v. AllByRecursion (PutsOwnMark config) v.todo in
    let L : List Effect → Type 0 = λ l. AllByRecursion (PutsOwnMark config) l in
    subst O (sym a.is_after)
    (own-todo laws config [] (Hears (directory_at facts.accounts config entry) a.shown) a.before
    (marks-none config a.before.session none) (subst L (sym a.is_true.1) tt))

pub client-arrives : (facts : NodeFacts) (laws : Laws) (place : ℕ) (config : SessionConfig) (taken : List BatchEntry) (said marks : List Act) (entry : Entry) (g : Guest) (joins : ℕ)
    → slice_get facts.accounts.networks place ≡ Some config → IsArrived facts config entry g → facts.joined g.serial place joins
    → AreAmong joins [] said → AreAmong joins [] marks
    → IsClientSo facts place config taken said marks (record g { joined = Some joins })
client-arrives facts laws place config taken said marks entry g joins there a j s m =
    let directory : Directory = directory_at facts.accounts config entry in
    let new : Goes facts config true [] [] a.before = newcomer-so facts config a.before a.is_newcomer in
    let old : IsGuestSo facts config false [] new.0 a.before = let-in-so facts config [] new.0 a.before new.2 in
    let in_now : Goes facts config false [] new.0 g =
    subst (λ (v : Guest). Goes facts config false [] new.0 v) (sym a.is_after)
    (event-so facts config false [] new.0 [] (λ d. d ≡ directory) (Hears directory a.shown) a.before
    (λ d e. subst (λ (v : Directory). IsDirectory facts v) (sym e) (AtMoment place config entry there))
    (newcomer-knows facts config [] new.0 [] a.before new.2) (λ e. absurd (cc e)) a.is_true old) in
    record {
      joins = joins;
      is_joined = refl;
      it_joined = j;
      has_logged_in = like refl (arrived-logged facts laws.enters place config entry g there a);
      is_of = own-arrived config g.session a.f a.is_registered a.is_account a.is_network;
      are_own = arrived-own facts laws config entry g a (newcomer-outside facts config [] new.0 a.before new.2);
      did = in_now.0;
      has = ([], since-now taken g.is_gone g.session, joined-so facts config false [] in_now.0 (Some joins) g in_now.2);
      before_said = before-more joins [] in_now.0 said (in_now.0, refl) s;
      before_marks = before-more joins [] in_now.0 marks (in_now.0, refl) m;
    }

own-next : (g : Guest) (config : SessionConfig) (effect : Effect) (more : List Effect) → g.todo ≡ effect ∷ more → AllByRecursion (PutsOwnMark config) g.todo
    → PutsOwnMark config effect × AllByRecursion (PutsOwnMark config) more
own-next g config effect more t k = subst (λ (l : List Effect). AllByRecursion (PutsOwnMark config) l) t k

own-rest : (g : Guest) (config : SessionConfig) (effect : Effect) (more : List Effect) → g.todo ≡ effect ∷ more → AllByRecursion (PutsOwnMark config) g.todo
    → AllByRecursion (PutsOwnMark config) more
own-rest g config effect more t k = (own-next g config effect more t k).1

-- what it does next is an act of its own
abbrev pub act_of : ℕ → ℕ → List Effect → Effect → Act
act_of serial joins before effect = record { serial = serial; joins = joins; before = before; effect = effect }

pub is-act : (facts : NodeFacts) (place : ℕ) (config : SessionConfig) (taken : List BatchEntry) (said marks : List Act) (g : Guest) (effect : Effect) (more : List Effect)
    → g.is_gone ≡ false → g.todo ≡ effect ∷ more
    → (k : IsClientSo facts place config taken said marks g) → IsActOf facts place config (act_of g.serial k.joins k.did effect)
is-act facts place config taken said marks g effect more there t k =
    let so : IsGuestSo facts config false k.has.0 k.did g = k.has.2 in
    let all : all_effects (start facts) so.events ≡ so.done ++ effect ∷ more =
    so.all ∙ ap (λ (l : List Effect). so.done ++ l) (so.is_todo there ∙ t) in
    let first : so.done ++ effect ∷ more ≡ (k.did ++ effect ∷ []) ++ more =
    ap (λ (l : List Effect). l ++ effect ∷ more) so.is_done ∙ sym (append_assoc k.did (effect ∷ []) more) in
    record {
      client = g;
      is_heard = record {
        joins = k.joins;
        events = so.events;
        later = so.later;
        it_came = so.it_came;
        is_joined = k.is_joined;
        it_joined = k.it_joined;
        are_first = so.are_first;
        is_count = so.is_count;
        are_by_accounts = so.are_by_accounts;
        are_seen = so.are_seen;
        came_to = so.came_to;
      };
      has_logged_in = k.has_logged_in;
      is_serial = refl;
      is_joins = refl;
      is_there = (more, sym first ∙ sym all);
      is_own = (own-next g config effect more t k.are_own).0;
    }

-- it has done it, and that is among what was said, or put
pub client-done : (facts : NodeFacts) (place : ℕ) (config : SessionConfig) (taken : List BatchEntry) (said marks : List Act) (g : Guest) (effect : Effect) (more : List Effect)
    → g.is_gone ≡ false → g.todo ≡ effect ∷ more → IsNoWord effect
    → IsClientSo facts place config taken said marks g → IsClientSo facts place config taken said marks (record g { todo = more })
client-done facts place config taken said marks g effect more there t silent k =
    again (k.did ++ effect ∷ []) refl refl (like refl k.has_logged_in) k.is_of (own-rest g config effect more t k.are_own) k (effect ∷ [], refl)
    (k.has.0, k.has.1, acts-so facts config false k.has.0 k.did g effect more there t silent k.has.2)

pub client-said : (facts : NodeFacts) (place : ℕ) (config : SessionConfig) (taken : List BatchEntry) (said marks : List Act) (g : Guest) (effect : Effect) (more : List Effect)
    → g.is_gone ≡ false → g.todo ≡ effect ∷ more → IsNoWord effect
    → (k : IsClientSo facts place config taken said marks g)
    → IsClientSo facts place config taken (act_of g.serial k.joins k.did effect ∷ said) marks (record g { todo = more })
client-said facts place config taken said marks g effect more there t silent k =
    record {
      joins = k.joins;
      is_joined = k.is_joined;
      it_joined = k.it_joined;
      has_logged_in = like refl k.has_logged_in;
      is_of = k.is_of;
      are_own = own-rest g config effect more t k.are_own;
      did = k.did ++ effect ∷ [];
      has = (k.has.0, k.has.1, acts-so facts config false k.has.0 k.did g effect more there t silent k.has.2);
      before_said = ((λ _. prefix-same (k.did ++ effect ∷ [])), before-more k.joins k.did (k.did ++ effect ∷ []) said (effect ∷ [], refl) k.before_said);
      before_marks = before-more k.joins k.did (k.did ++ effect ∷ []) marks (effect ∷ [], refl) k.before_marks;
    }

pub client-marked : (facts : NodeFacts) (place : ℕ) (config : SessionConfig) (taken : List BatchEntry) (said marks : List Act) (g : Guest) (effect : Effect) (more : List Effect)
    → g.is_gone ≡ false → g.todo ≡ effect ∷ more → IsNoWord effect
    → (k : IsClientSo facts place config taken said marks g)
    → IsClientSo facts place config taken said (act_of g.serial k.joins k.did effect ∷ marks) (record g { todo = more })
client-marked facts place config taken said marks g effect more there t silent k =
    record {
      joins = k.joins;
      is_joined = k.is_joined;
      it_joined = k.it_joined;
      has_logged_in = like refl k.has_logged_in;
      is_of = k.is_of;
      are_own = own-rest g config effect more t k.are_own;
      did = k.did ++ effect ∷ [];
      has = (k.has.0, k.has.1, acts-so facts config false k.has.0 k.did g effect more there t silent k.has.2);
      before_said = before-more k.joins k.did (k.did ++ effect ∷ []) said (effect ∷ [], refl) k.before_said;
      before_marks = ((λ _. prefix-same (k.did ++ effect ∷ [])), before-more k.joins k.did (k.did ++ effect ∷ []) marks (effect ∷ [], refl) k.before_marks);
    }

-- another has said or put something
pub other-said : (facts : NodeFacts) (place : ℕ) (config : SessionConfig) (taken : List BatchEntry) (said marks : List Act) (a : Act) (g : Guest)
    → (a.joins ≡ number g.joined → ⊥)
    → IsClientSo facts place config taken said marks g → IsClientSo facts place config taken (a ∷ said) marks g
other-said facts place config taken said marks a g not k =
    record {
      joins = k.joins;
      is_joined = k.is_joined;
      it_joined = k.it_joined;
      has_logged_in = k.has_logged_in;
      is_of = k.is_of;
      are_own = k.are_own;
      did = k.did;
      has = k.has;
      before_said = ((λ e. absurd (not (e ∙ sym (ap number k.is_joined)))), k.before_said);
      before_marks = k.before_marks;
    }

pub other-marked : (facts : NodeFacts) (place : ℕ) (config : SessionConfig) (taken : List BatchEntry) (said marks : List Act) (a : Act) (g : Guest)
    → (a.joins ≡ number g.joined → ⊥)
    → IsClientSo facts place config taken said marks g → IsClientSo facts place config taken said (a ∷ marks) g
other-marked facts place config taken said marks a g not k =
    record {
      joins = k.joins;
      is_joined = k.is_joined;
      it_joined = k.it_joined;
      has_logged_in = k.has_logged_in;
      is_of = k.is_of;
      are_own = k.are_own;
      did = k.did;
      has = k.has;
      before_said = k.before_said;
      before_marks = ((λ e. absurd (not (e ∙ sym (ap number k.is_joined)))), k.before_marks);
    }
