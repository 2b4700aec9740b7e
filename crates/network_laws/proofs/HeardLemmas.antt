-- Each client is heard over its own connection.
use Rattle.std.proofs.Common.{◌≡◌, ◌+◌, Bool, ℕ, List, [], ◌∷◌, ◌++◌, Option, Some, None, refl, sym, ap, ◌∙◌, subst, arith, length, append_assoc, length-append}
use Rattle.std.specs.Prelude.{slice_get}
use Rattle.std.proofs.lemmas.Option.{same_Some}
use Rattle.irc_line.specs.Stream.{Item, items, line as whole_line, too_long as cut_line}
use Rattle.chat_change.specs.declared.change.Change.{Change}
use Rattle.chat_query.specs.Answers.{Answer}
use Rattle.cluster_directory.specs.Directory.{Directory}
use Rattle.cluster_directory.specs.Entry.{Entry}
use Rattle.cluster_directory.specs.declared.config.SessionConfig.{SessionConfig}
use Rattle.client_session.specs.declared.effect.Effect.{Effect}
use Rattle.client_session.specs.declared.effect.Effect.TheVariants.{Send, Put, Ask, Upstream, Close}
use Rattle.client_session.specs.declared.stage.Stage.{Stage}
use Rattle.client_session.specs.Events.{ClientEvent, Line, CutLine, Answer as Answered, run, after}
use Rattle.client_session.specs.Session.{new, facts_in}
use Rattle.network_log.specs.Accounts.{directory_at}
use Rattle.network_log.specs.Facts.{NodeFacts}
use Rattle.network_log.specs.Guest.{Guest, GuestEvent, Gets, Hears, Says, Asks, Closes, Offers, Falls, new_guest, next_item, guest_step, guest_run, after_item, after_step, step_of, after_saying, after_asking, after_answer, after_closing, answer_to}
use Rattle.network_log.specs.Truth.{AreTrueOfGuest, AtMoment, IsArrived, IsDirectory, IsNewcomer, IsTrueOfGuest}
use Rattle.network_log.specs.declared.origin.Origin.TheVariants.{ClientCame}
use Rattle.network_log.proofs.CallerLemmas.{items-more}
use Rattle.network_laws.specs.Heard.{AreByAccounts, IsByAccounts, lines_in}

-- it joined that network behind so many others, if it did
abbrev pub HasJoined : NodeFacts → ℕ → ℕ → Option ℕ → Type 0
HasJoined facts place serial None = Unit {0}
HasJoined facts place serial (Some joins) = facts.joined serial place joins

-- the session came to this by the first of the lines that came, those that it has heard
pub record IsHeardSo (facts : NodeFacts) (place : ℕ) (joins : Option ℕ) (g : Guest) : Type 0 where
  pub is_joined : g.joined ≡ joins
  pub it_joined : HasJoined facts place g.serial joins
  pub events : List ClientEvent
  pub later : List Item
  pub it_came : facts.came ClientCame g.serial g.received
  pub are_first : items g.received ≡ lines_in events ++ later
  pub is_count : length (lines_in events) ≡ g.heard
  pub are_by_accounts : AreByAccounts facts events
  pub came_to : run (new facts.cluster facts.maximum) events ≡ g.session

-- ---- lists of events

pub by-more : (facts : NodeFacts) (events : List ClientEvent) (event : ClientEvent) → AreByAccounts facts events → IsByAccounts facts event
    → AreByAccounts facts (events ++ event ∷ [])
by-more facts [] event are is = (is, tt)
by-more facts (e ∷ events) event are is = (are.0, by-more facts events event are.1 is)

pub run-more : (session : Stage) (events : List ClientEvent) (event : ClientEvent) → run session (events ++ event ∷ []) ≡ after (run session events) event
run-more session [] event = refl
run-more session (e ∷ events) event = run-more (after session e) events event

pub lines-more : (events : List ClientEvent) (event : ClientEvent) → lines_in (events ++ event ∷ []) ≡ lines_in events ++ lines_in (event ∷ [])
lines-more [] event = refl
lines-more (Line directory shown bytes ∷ events) event = ap (λ (l : List Item). whole_line bytes ∷ l) (lines-more events event)
lines-more (CutLine directory ∷ events) event = ap (λ (l : List Item). cut_line ∷ l) (lines-more events event)
lines-more (Answered answered ∷ events) event = lines-more events event

-- what stands behind the first ones is next
pub next-is : (first later : List Item) (item : Item) → slice_get (first ++ later) (length first) ≡ Some item → (rest : List Item) × (later ≡ item ∷ rest)
next-is [] [] item h = absurd (cc h)
next-is [] (i ∷ later) item h = (later, ap (λ (x : Item). x ∷ later) (same_Some i item h))
next-is (o ∷ first) later item h = next-is first later item h

-- ---- one client

so-same : {facts : NodeFacts} {place : ℕ} {joins : Option ℕ} {g next : Guest} → next.joined ≡ g.joined → next.serial ≡ g.serial → next.received ≡ g.received → next.heard ≡ g.heard → next.session ≡ g.session
    → IsHeardSo facts place joins g → IsHeardSo facts place joins next
so-same {facts} {place} {joins} {g} {next} j s r h e k =
    let P : ℕ → List ℕ → Type 0 = λ serial received. facts.came ClientCame serial received in
    record {
      is_joined = j ∙ k.is_joined;
      it_joined = subst (λ n. HasJoined facts place n joins) (sym s) k.it_joined;
      events = k.events;
      later = k.later;
      it_came = subst (λ n. P n next.received) (sym s) (subst (λ b. P g.serial b) (sym r) k.it_came);
      are_first = ap items r ∙ k.are_first;
      is_count = k.is_count ∙ sym h;
      are_by_accounts = k.are_by_accounts;
      came_to = k.came_to ∙ sym e;
    }

-- one event more of its session, by a line or by none
so-more : {facts : NodeFacts} {place : ℕ} {joins : Option ℕ} {g next : Guest} (event : ClientEvent) (k : IsHeardSo facts place joins g) (rest : List Item)
    → IsByAccounts facts event → k.later ≡ lines_in (event ∷ []) ++ rest → next.joined ≡ g.joined → next.serial ≡ g.serial → next.received ≡ g.received
    → next.heard ≡ g.heard + length (lines_in (event ∷ [])) → next.session ≡ after g.session event
    → IsHeardSo facts place joins next
so-more {facts} {place} {joins} {g} {next} event k rest by l j s r h e =
    let P : ℕ → List ℕ → Type 0 = λ serial received. facts.came ClientCame serial received in
    let lines : List Item = lines_in (event ∷ []) in
    let all : lines_in (k.events ++ event ∷ []) ≡ lines_in k.events ++ lines = lines-more k.events event in
    let more : length (lines_in k.events ++ lines) ≡ _ = length-append (lines_in k.events) lines in
    record {
      is_joined = j ∙ k.is_joined;
      it_joined = subst (λ n. HasJoined facts place n joins) (sym s) k.it_joined;
      events = k.events ++ event ∷ [];
      later = rest;
      it_came = subst (λ n. P n next.received) (sym s) (subst (λ b. P g.serial b) (sym r) k.it_came);
      are_first = ap items r ∙ k.are_first ∙ ap (λ (t : List Item). lines_in k.events ++ t) l
          ∙ sym (append_assoc (lines_in k.events) lines rest) ∙ ap (λ (t : List Item). t ++ rest) (sym all);
      is_count = ap length all ∙ more ∙ ap (λ n. n + length lines) k.is_count ∙ sym h;
      are_by_accounts = by-more facts k.events event k.are_by_accounts by;
      came_to = run-more (new facts.cluster facts.maximum) k.events event ∙ ap (λ (t : Stage). after t event) k.came_to ∙ sym e;
    }

got-so : {facts : NodeFacts} {place : ℕ} {joins : Option ℕ} (bytes : List ℕ) (g : Guest) → facts.came ClientCame g.serial (g.received ++ bytes)
    → IsHeardSo facts place joins g → IsHeardSo facts place joins (record g { received = g.received ++ bytes })
got-so bytes g t k =
    let m : (more : List Item) × (items (g.received ++ bytes) ≡ items g.received ++ more) = items-more g.received bytes in
    record {
      is_joined = k.is_joined;
      it_joined = k.it_joined;
      events = k.events;
      later = k.later ++ m.0;
      it_came = t;
      are_first = m.1 ∙ ap (λ (l : List Item). l ++ m.0) k.are_first ∙ append_assoc (lines_in k.events) k.later m.0;
      is_count = k.is_count;
      are_by_accounts = k.are_by_accounts;
      came_to = k.came_to;
    }

kind-so : {facts : NodeFacts} {place : ℕ} {joins : Option ℕ} (directory : Directory) (shown : Bool) (g : Guest) (item : Item)
    (k : IsHeardSo facts place joins g) (rest : List Item) → IsDirectory facts directory → k.later ≡ item ∷ rest
    → IsHeardSo facts place joins (after_step (step_of directory shown g.session item) g)
kind-so directory shown g (whole_line bytes) k rest by l = so-more (Line directory shown bytes) k rest by l refl refl refl refl refl
kind-so directory shown g cut_line k rest by l = so-more (CutLine directory) k rest by l refl refl refl refl refl

item-so : {facts : NodeFacts} {place : ℕ} {joins : Option ℕ} (directory : Directory) (shown : Bool) (g : Guest) (o : Option Item)
    → IsDirectory facts directory → next_item g.received g.heard ≡ o
    → IsHeardSo facts place joins g → IsHeardSo facts place joins (after_item directory shown g o)
item-so directory shown g None by e k = k
item-so directory shown g (Some item) by e k =
    let P : List Item → Type 0 = λ all. slice_get all g.heard ≡ Some item in
    let Q : ℕ → Type 0 = λ n. slice_get (lines_in k.events ++ k.later) n ≡ Some item in
    let n : (rest : List Item) × (k.later ≡ item ∷ rest) =
    next-is (lines_in k.events) k.later item (subst Q (sym k.is_count) (subst P k.are_first e)) in
    kind-so directory shown g item k n.0 by n.1

said-so : {facts : NodeFacts} {place : ℕ} {joins : Option ℕ} (g : Guest) (todo : List Effect) → IsHeardSo facts place joins g → IsHeardSo facts place joins (after_saying g todo)
said-so g [] k = k
said-so g (Send text ∷ more) k = so-same refl refl refl refl refl k
said-so g (Put change ∷ more) k = k
said-so g (Ask question ∷ more) k = k
said-so g (Upstream text ∷ more) k = k
said-so g (Close ∷ more) k = k

answered-so : {facts : NodeFacts} {place : ℕ} {joins : Option ℕ} (g : Guest) (more : List Effect) (o : Option Answer) → IsHeardSo facts place joins g → IsHeardSo facts place joins (after_answer g more o)
answered-so g more None k = so-same refl refl refl refl refl k
answered-so g more (Some answer) k = so-more (Answered answer.answered) k k.later tt refl refl refl refl (omega arith) refl

asked-so : {facts : NodeFacts} {place : ℕ} {joins : Option ℕ} (held : List Change) (g : Guest) (todo : List Effect) → IsHeardSo facts place joins g → IsHeardSo facts place joins (after_asking held g todo)
asked-so held g [] k = k
asked-so held g (Send text ∷ more) k = k
asked-so held g (Put change ∷ more) k = k
asked-so held g (Ask question ∷ more) k = answered-so g more (answer_to held (facts_in g.session) question) k
asked-so held g (Upstream text ∷ more) k = k
asked-so held g (Close ∷ more) k = k

closed-so : {facts : NodeFacts} {place : ℕ} {joins : Option ℕ} (g : Guest) (todo : List Effect) → IsHeardSo facts place joins g → IsHeardSo facts place joins (after_closing g todo)
closed-so g [] k = k
closed-so g (Send text ∷ more) k = k
closed-so g (Put change ∷ more) k = k
closed-so g (Ask question ∷ more) k = k
closed-so g (Upstream text ∷ more) k = k
closed-so g (Close ∷ more) k = so-same refl refl refl refl refl k

event-so : {facts : NodeFacts} {place : ℕ} {joins : Option ℕ} (held : List Change) (Stands : Directory → Type 0) (event : GuestEvent) (g : Guest)
    → ((directory : Directory) → Stands directory → IsDirectory facts directory)
    → IsTrueOfGuest facts held Stands event g → IsHeardSo facts place joins g → IsHeardSo facts place joins (guest_step held event g)
event-so held Stands (Gets bytes) g own t k = got-so bytes g t.1 k
event-so held Stands (Hears directory shown) g own t k = item-so directory shown g (next_item g.received g.heard) (own directory t.2) refl k
event-so held Stands Says g own t k = said-so g g.todo k
event-so held Stands Asks g own t k = asked-so held g g.todo k
event-so held Stands Closes g own t k = closed-so g g.todo k
event-so held Stands (Offers count) g own t k = so-same refl refl refl refl refl k
event-so held Stands Falls g own t k = so-same refl refl refl refl refl k

events-so : {facts : NodeFacts} {place : ℕ} {joins : Option ℕ} (held : List Change) (Stands : Directory → Type 0) (events : List GuestEvent) (g : Guest)
    → ((directory : Directory) → Stands directory → IsDirectory facts directory)
    → AreTrueOfGuest facts held Stands events g → IsHeardSo facts place joins g → IsHeardSo facts place joins (guest_run held events g)
events-so held Stands [] g own t k = k
events-so held Stands (event ∷ events) g own t k =
    events-so held Stands events (guest_step held event g) own t.1 (event-so held Stands event g own t.0 k)

-- ---- who arrives

newcomer-so : (facts : NodeFacts) (place : ℕ) (g : Guest) → IsNewcomer facts g → IsHeardSo facts place None g
newcomer-so facts place g n =
    let first : Guest = new_guest facts n.serial in
    let so : IsHeardSo facts place None first = record {
      is_joined = refl;
      it_joined = tt;
      events = [];
      later = items [];
      it_came = n.it_came;
      are_first = refl;
      is_count = refl;
      are_by_accounts = tt;
      came_to = refl;
    } in
    subst (λ (v : Guest). IsHeardSo facts place None v) (sym n.is_run) (events-so [] (IsDirectory facts) n.events first (λ directory is. is) n.are_true so)

pub arrived-so : (facts : NodeFacts) (place : ℕ) (config : SessionConfig) (entry : Entry) (g : Guest)
    → slice_get facts.accounts.networks place ≡ Some config → IsArrived facts config entry g
    → IsHeardSo facts place None g
arrived-so facts place config entry g there a =
    let directory : Directory = directory_at facts.accounts config entry in
    subst (λ (v : Guest). IsHeardSo facts place None v) (sym a.is_after)
    (event-so [] (λ d. d ≡ directory) (Hears directory a.shown) a.before
    (λ d e. subst (λ (v : Directory). IsDirectory facts v) (sym e) (AtMoment place config entry there)) a.is_true (newcomer-so facts place a.before a.is_newcomer))
