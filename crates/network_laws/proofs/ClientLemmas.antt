-- What is so of a client alone: what its session has to do and has done, and what it is told.
use Rattle.std.proofs.Common.{◌≡◌, ◌+◌, Bool, true, false, ℕ, List, [], ◌∷◌, ◌++◌, Option, Some, None, refl, sym, ap, ◌∙◌, subst, length, append_assoc, append-nil, length-append, take, drop, take-append-drop}
use mathlib.Core.List.{IsPrefix}
use Rattle.std.specs.Prelude.{Result, Ok, Err, slice_get, if◌then◌else◌}
use Rattle.irc_line.specs.declared.line.LineFault.{LineFault}
use Rattle.irc_line.specs.declared.line.TagLimit.TheVariants.{Client}
use Rattle.irc_line.specs.Line.{Reading}
use Rattle.irc_line.specs.Read.{read}
use Rattle.irc_line.specs.Stream.{Item, items, line as whole_line, too_long as cut_line}
use Rattle.chat_change.specs.declared.change.Change.{Change}
use Rattle.chat_query.specs.Answers.{Answer, answer_of}
use Rattle.chat_query.specs.declared.facts.Facts.{Facts}
use Rattle.cluster_directory.specs.Directory.{Directory}
use Rattle.cluster_directory.specs.declared.config.SessionConfig.{SessionConfig}
use Rattle.client_session.specs.declared.effect.Effect.{Effect}
use Rattle.client_session.specs.declared.effect.Effect.TheVariants.{Send, Put, Ask, Upstream, Close}
use Rattle.client_session.specs.declared.stage.Stage.{Stage}
use Rattle.client_session.specs.declared.stage.Stage.TheVariants.{Waiting, Registered, Closed}
use Rattle.client_session.specs.Lookup.{MessageName, name_sought}
use Rattle.client_session.specs.Events.{ClientEvent, Line, CutLine, Answer as Answered, run, after, effects_of}
use Rattle.client_session.specs.Session.{new, facts_in}
use Rattle.network_log.specs.Facts.{NodeFacts}
use Rattle.network_log.specs.Guest.{Guest, GuestEvent, Gets, Hears, Says, Asks, Closes, Offers, Falls, new_guest, next_item, guest_step, guest_run, after_item, after_step, step_of, after_saying, after_asking, after_answer, after_closing, answer_to, answer_to_reading, nick_after, fallen}
use Rattle.network_log.specs.Host.{BatchEntry}
use Rattle.network_log.specs.Share.{hears_batch, hears_marker, with_batch, with_text, marker_text, told_to, nick_by, nick_by_all, share_of}
use Rattle.network_log.specs.Truth.{AreTrueOfGuest, AreWholeLines, IsDirectory, IsNeverRegistered, IsNewcomer, IsShownIn, IsSought, IsTrueOfGuest}
use Rattle.network_log.specs.declared.origin.Origin.TheVariants.{ClientCame}
use Rattle.network_log.proofs.CallerLemmas.{items-more}
use Rattle.network_laws.specs.Acts.{all_effects}
use Rattle.network_laws.specs.Heard.{AreByAccounts, AreSeen, IsByAccounts, IsFound, IsSeen, lines_in}
use Rattle.network_laws.specs.LetIn.{IsOfNetwork}
use Rattle.network_laws.specs.Told.{AreLatestOf, lines_of, IsNeverIn, IsLine, IsNoWord, HasNoAnswer, Course, Connects, Hears as HearsLine, IsSaid, IsAnswered, IsUnanswered, IsDone, IsOffered, IsShared, IsInformed}
use Rattle.network_laws.proofs.HeardLemmas.{by-more, lines-more, next-is, run-more}

-- the session as it begins
abbrev pub start : NodeFacts → Stage
start facts = new facts.cluster facts.maximum

-- it was never let in, and was told its session's own lines alone
abbrev pub IsAlone : NodeFacts → List ClientEvent → List Effect → List ℕ → List ℕ → Type 0
IsAlone facts events done waiting told = (told ++ waiting ≡ lines_of done) × IsNeverIn (start facts) events

-- It was told of these entries, and these are done of what its session had to do.
pub record IsGuestSo (facts : NodeFacts) (config : SessionConfig) (is_new : Bool) (heard : List BatchEntry) (did : List Effect) (g : Guest) : Type 0 where
  pub events : List ClientEvent
  pub later : List Item
  pub it_came : facts.came ClientCame g.serial g.received
  pub are_first : items g.received ≡ lines_in events ++ later
  pub is_count : length (lines_in events) ≡ g.heard
  pub are_by_accounts : AreByAccounts facts events
  pub are_seen : AreSeen facts (start facts) events
  pub came_to : run (start facts) events ≡ g.session
  pub done : List Effect
  pub todo : List Effect
  pub all : all_effects (start facts) events ≡ done ++ todo
  pub is_done : done ≡ did
  pub is_todo : g.is_gone ≡ false → todo ≡ g.todo
  pub waiting : List ℕ
  pub is_waiting : g.is_gone ≡ false → waiting ≡ g.waiting
  pub course : Course facts config events g.session todo waiting heard g.nick g.told
  pub alone : is_new ≡ true → IsAlone facts events done waiting g.told

-- more may be done of it
abbrev pub Goes : NodeFacts → SessionConfig → Bool → List BatchEntry → List Effect → Guest → Type 0
Goes facts config is_new heard did g = (n : List Effect) × IsPrefix did n × IsGuestSo facts config is_new heard n g

same-count : {facts : NodeFacts} {config : SessionConfig} {is_new : Bool} {heard : List BatchEntry} {did : List Effect} {g : Guest}
    → IsGuestSo facts config is_new heard did g → Goes facts config is_new heard did g
same-count {facts} {config} {is_new} {heard} {did} k = (did, ([], append-nil did), k)

-- ---- lists

pub prefix-trans : (a b c : List Effect) → IsPrefix a b → IsPrefix b c → IsPrefix a c
prefix-trans a b c p q =
    (p.0 ++ q.0, sym (append_assoc a p.0 q.0) ∙ ap (λ (l : List Effect). l ++ q.0) p.1 ∙ q.1)

pub prefix-same : (a : List Effect) → IsPrefix a a
prefix-same a = ([], append-nil a)

effects-more : (session : Stage) (events : List ClientEvent) (event : ClientEvent)
    → all_effects session (events ++ event ∷ []) ≡ all_effects session events ++ effects_of (run session events) event
effects-more session [] event = append-nil (effects_of session event)
effects-more session (e ∷ events) event =
    ap (λ (l : List Effect). effects_of session e ++ l) (effects-more (after session e) events event)
    ∙ sym (append_assoc (effects_of session e) (all_effects (after session e) events) (effects_of (run (after session e) events) event))

never-more : (session : Stage) (events : List ClientEvent) (event : ClientEvent) → IsNeverIn session events
    → facts_in (run session (events ++ event ∷ [])) ≡ None → IsNeverIn session (events ++ event ∷ [])
never-more session [] event k e = (k, e)
never-more session (o ∷ events) event k e = (k.0, never-more (after session o) events event k.1 e)

never-last : (session : Stage) (events : List ClientEvent) → IsNeverIn session events → facts_in (run session events) ≡ None
never-last session [] k = k
never-last session (e ∷ events) k = never-last (after session e) events k.1

seen-more : (facts : NodeFacts) (session : Stage) (events : List ClientEvent) (event : ClientEvent) → AreSeen facts session events → IsSeen facts (run session events) event
    → AreSeen facts session (events ++ event ∷ [])
seen-more facts session [] event k n = (n, tt)
seen-more facts session (e ∷ events) event k n = (k.0, seen-more facts (after session e) events event k.1 n)

lines-of-more : (done : List Effect) (effect : Effect) → lines_of (done ++ effect ∷ []) ≡ lines_of done ++ lines_of (effect ∷ [])
lines-of-more [] effect = refl
lines-of-more (Send text ∷ done) effect =
    ap (λ (l : List ℕ). text ++ l) (lines-of-more done effect) ∙ sym (append_assoc text (lines_of done) (lines_of (effect ∷ [])))
lines-of-more (Put change ∷ done) effect = lines-of-more done effect
lines-of-more (Ask question ∷ done) effect = lines-of-more done effect
lines-of-more (Upstream text ∷ done) effect = lines-of-more done effect
lines-of-more (Close ∷ done) effect = lines-of-more done effect

pub lines-of-both : (done rest : List Effect) → lines_of (done ++ rest) ≡ lines_of done ++ lines_of rest
lines-of-both [] rest = refl
lines-of-both (Send text ∷ done) rest =
    ap (λ (l : List ℕ). text ++ l) (lines-of-both done rest) ∙ sym (append_assoc text (lines_of done) (lines_of rest))
lines-of-both (Put change ∷ done) rest = lines-of-both done rest
lines-of-both (Ask question ∷ done) rest = lines-of-both done rest
lines-of-both (Upstream text ∷ done) rest = lines-of-both done rest
lines-of-both (Close ∷ done) rest = lines-of-both done rest

-- no word is no line
no-line : (effect : Effect) → IsNoWord effect → lines_of (effect ∷ []) ≡ []
no-line (Send text) h = absurd h
no-line (Put change) h = refl
no-line (Ask question) h = absurd h
no-line (Upstream text) h = refl
no-line Close h = refl

-- ---- bytes come

got-so : (facts : NodeFacts) (config : SessionConfig) (is_new : Bool) (heard : List BatchEntry) (did : List Effect) (bytes : List ℕ) (g : Guest)
    → facts.came ClientCame g.serial (g.received ++ bytes) → IsGuestSo facts config is_new heard did g
    → IsGuestSo facts config is_new heard did (record g { received = g.received ++ bytes })
got-so facts config is_new heard did bytes g t k =
    let m : (more : List Item) × (items (g.received ++ bytes) ≡ items g.received ++ more) = items-more g.received bytes in
    record {
      events = k.events;
      later = k.later ++ m.0;
      it_came = t;
      are_first = m.1 ∙ ap (λ (l : List Item). l ++ m.0) k.are_first ∙ append_assoc (lines_in k.events) k.later m.0;
      is_count = k.is_count;
      are_by_accounts = k.are_by_accounts;
      are_seen = k.are_seen;
      came_to = k.came_to;
      done = k.done;
      todo = k.todo;
      all = k.all;
      is_done = k.is_done;
      is_todo = k.is_todo;
      waiting = k.waiting;
      is_waiting = k.is_waiting;
      course = k.course;
      alone = k.alone;
    }

-- ---- a line is heard

-- where its session knows anything, the session is of that network, and the node held these
abbrev pub KnowsOwn : NodeFacts → SessionConfig → List Change → Guest → Type 0
KnowsOwn facts config held g = (f : Facts) → facts_in g.session ≡ Some f → facts.held held × IsOfNetwork config g.session

found-by : (facts : NodeFacts) (held : List Change) (shown : Bool) (o : Option MessageName) → facts.held held → IsShownIn held shown o → IsFound facts shown o
found-by facts held shown None h t = tt
found-by facts held shown (Some name) h t = (held, h, t)

-- what its line names is found in what the node held
found : (facts : NodeFacts) (held : List Change) (shown : Bool) (session : Stage) (bytes : List ℕ) → ((f : Facts) → facts_in session ≡ Some f → facts.held held)
    → IsShownIn held shown (name_sought session bytes) → IsFound facts shown (name_sought session bytes)
found facts held shown (Waiting w) bytes h t = tt
found facts held shown (Registered f) bytes h t = found-by facts held shown (name_sought (Registered f) bytes) (h f refl) t
found facts held shown Closed bytes h t = tt

-- the client once its session has heard it
abbrev after_line : Guest → ClientEvent → Guest
after_line g event = record g {
  heard = g.heard + 1;
  session = after g.session event;
  todo = effects_of g.session event;
  nick = nick_after (facts_in g.session) (facts_in (after g.session event)) g.nick;
}

line-so : (facts : NodeFacts) (config : SessionConfig) (is_new : Bool) (heard : List BatchEntry) (did : List Effect) (g : Guest) (event : ClientEvent)
    (k : IsGuestSo facts config is_new heard did g) (rest : List Item)
    → g.is_gone ≡ false → g.todo ≡ [] → IsLine event → IsByAccounts facts event → IsSeen facts g.session event → k.later ≡ lines_in (event ∷ []) ++ rest → length (lines_in (event ∷ [])) ≡ 1
    → (is_new ≡ true → facts_in (after g.session event) ≡ None)
    → IsGuestSo facts config is_new heard did (after_line g event)
line-so facts config is_new heard did g event k rest there free line by seen l one out =
    let lines : List Item = lines_in (event ∷ []) in
    let events : List ClientEvent = k.events ++ event ∷ [] in
    let first : lines_in events ≡ lines_in k.events ++ lines = lines-more k.events event in
    let more : length (lines_in k.events ++ lines) ≡ _ = length-append (lines_in k.events) lines in
    let came : run (start facts) events ≡ after g.session event =
    run-more (start facts) k.events event ∙ ap (λ (t : Stage). after t event) k.came_to in
    let none : k.todo ≡ [] = k.is_todo there ∙ free in
    let C : List Effect → Type 0 = λ t. Course facts config k.events g.session t k.waiting heard g.nick g.told in
    record {
      events = events;
      later = rest;
      it_came = k.it_came;
      are_first = k.are_first ∙ ap (λ (t : List Item). lines_in k.events ++ t) l
          ∙ sym (append_assoc (lines_in k.events) lines rest) ∙ ap (λ (t : List Item). t ++ rest) (sym first);
      is_count = ap length first ∙ more ∙ ap (λ n. n + length lines) k.is_count ∙ ap (λ n. g.heard + n) one;
      are_by_accounts = by-more facts k.events event k.are_by_accounts by;
      are_seen = seen-more facts (start facts) k.events event k.are_seen (subst (λ (t : Stage). IsSeen facts t event) (sym k.came_to) seen);
      came_to = came;
      done = k.done;
      todo = effects_of g.session event;
      all = effects-more (start facts) k.events event
          ∙ ap (λ (t : List Effect). t ++ effects_of (run (start facts) k.events) event) (k.all ∙ ap (λ (t : List Effect). k.done ++ t) none ∙ append-nil k.done)
          ∙ ap (λ (t : Stage). k.done ++ effects_of t event) k.came_to;
      is_done = k.is_done;
      is_todo = λ _. refl;
      waiting = k.waiting;
      is_waiting = k.is_waiting;
      course = HearsLine event line (subst C none k.course);
      alone = λ n.
          let a : IsAlone facts k.events k.done k.waiting g.told = k.alone n in
          (a.0, never-more (start facts) k.events event a.1 (ap facts_in came ∙ out n));
    }

kind-so : (facts : NodeFacts) (config : SessionConfig) (is_new : Bool) (heard : List BatchEntry) (did : List Effect) (directory : Directory) (shown : Bool) (g : Guest)
    (item : Item) (k : IsGuestSo facts config is_new heard did g) (rest : List Item)
    → g.is_gone ≡ false → g.todo ≡ [] → IsDirectory facts directory → (held : List Change) → KnowsOwn facts config held g → IsSought held shown g.session (Some item)
    → k.later ≡ item ∷ rest
    → (is_new ≡ true → facts_in (step_of directory shown g.session item).session ≡ None)
    → IsGuestSo facts config is_new heard did (after_step (step_of directory shown g.session item) g)
kind-so facts config is_new heard did directory shown g (whole_line bytes) k rest there free by held knows sought l out =
    line-so facts config is_new heard did g (Line directory shown bytes) k rest there free tt by
    (found facts held shown g.session bytes (λ f e. (knows f e).0) sought) l refl out
kind-so facts config is_new heard did directory shown g cut_line k rest there free by held knows sought l out =
    line-so facts config is_new heard did g (CutLine directory) k rest there free tt by tt l refl out

item-so : (facts : NodeFacts) (config : SessionConfig) (is_new : Bool) (heard : List BatchEntry) (did : List Effect) (directory : Directory) (shown : Bool) (g : Guest)
    (o : Option Item) → g.is_gone ≡ false → g.todo ≡ [] → IsDirectory facts directory → (held : List Change) → KnowsOwn facts config held g
    → IsSought held shown g.session o → next_item g.received g.heard ≡ o
    → (is_new ≡ true → facts_in (after_item directory shown g o).session ≡ None)
    → IsGuestSo facts config is_new heard did g → IsGuestSo facts config is_new heard did (after_item directory shown g o)
item-so facts config is_new heard did directory shown g None there free by held knows sought e out k = k
item-so facts config is_new heard did directory shown g (Some item) there free by held knows sought e out k =
    let P : List Item → Type 0 = λ all. slice_get all g.heard ≡ Some item in
    let Q : ℕ → Type 0 = λ n. slice_get (lines_in k.events ++ k.later) n ≡ Some item in
    let n : (rest : List Item) × (k.later ≡ item ∷ rest) =
    next-is (lines_in k.events) k.later item (subst Q (sym k.is_count) (subst P k.are_first e)) in
    kind-so facts config is_new heard did directory shown g item k n.0 there free by held knows sought n.1 out

-- ---- what is next of its effects is done

next-all : {facts : NodeFacts} {config : SessionConfig} {is_new : Bool} {heard : List BatchEntry} {did : List Effect} {g : Guest}
    (k : IsGuestSo facts config is_new heard did g) (effect : Effect) (more : List Effect) → g.is_gone ≡ false → g.todo ≡ effect ∷ more
    → all_effects (start facts) k.events ≡ (k.done ++ effect ∷ []) ++ more
next-all k effect more there t =
    k.all ∙ ap (λ (l : List Effect). k.done ++ l) (k.is_todo there ∙ t) ∙ sym (append_assoc k.done (effect ∷ []) more)

next-count : {facts : NodeFacts} {config : SessionConfig} {is_new : Bool} {heard : List BatchEntry} {did : List Effect} {g : Guest}
    (k : IsGuestSo facts config is_new heard did g) (effect : Effect) → k.done ++ effect ∷ [] ≡ did ++ effect ∷ []
next-count k effect = ap (λ (l : List Effect). l ++ effect ∷ []) k.is_done

next-course : {facts : NodeFacts} {config : SessionConfig} {is_new : Bool} {heard : List BatchEntry} {did : List Effect} {g : Guest}
    (k : IsGuestSo facts config is_new heard did g) (todo : List Effect) → g.is_gone ≡ false → g.todo ≡ todo
    → Course facts config k.events g.session todo k.waiting heard g.nick g.told
next-course {facts} {config} {is_new} {heard} {did} {g} k todo there t =
    let C : List Effect → Type 0 = λ l. Course facts config k.events g.session l k.waiting heard g.nick g.told in
    subst C (k.is_todo there ∙ t) k.course

-- nothing is said to it
silent-so : (facts : NodeFacts) (config : SessionConfig) (is_new : Bool) (heard : List BatchEntry) (did : List Effect) (g : Guest) (effect : Effect) (more : List Effect)
    (k : IsGuestSo facts config is_new heard did g) → g.is_gone ≡ false → g.todo ≡ effect ∷ more → lines_of (effect ∷ []) ≡ []
    → Course facts config k.events g.session more k.waiting heard g.nick g.told
    → IsGuestSo facts config is_new heard (did ++ effect ∷ []) (record g { todo = more })
silent-so facts config is_new heard did g effect more k there t none c = record {
  events = k.events;
  later = k.later;
  it_came = k.it_came;
  are_first = k.are_first;
  is_count = k.is_count;
  are_by_accounts = k.are_by_accounts;
  are_seen = k.are_seen;
  came_to = k.came_to;
  done = k.done ++ effect ∷ [];
  todo = more;
  all = next-all k effect more there t;
  is_done = next-count k effect;
  is_todo = λ _. refl;
  waiting = k.waiting;
  is_waiting = k.is_waiting;
  course = c;
  alone = λ n.
      let a : IsAlone facts k.events k.done k.waiting g.told = k.alone n in
      (a.0 ∙ sym (lines-of-more k.done effect ∙ ap (λ (l : List ℕ). lines_of k.done ++ l) none ∙ append-nil (lines_of k.done)), a.1);
}

-- it is no word for the client
pub acts-so : (facts : NodeFacts) (config : SessionConfig) (is_new : Bool) (heard : List BatchEntry) (did : List Effect) (g : Guest) (effect : Effect) (more : List Effect)
    → g.is_gone ≡ false → g.todo ≡ effect ∷ more → IsNoWord effect
    → IsGuestSo facts config is_new heard did g → IsGuestSo facts config is_new heard (did ++ effect ∷ []) (record g { todo = more })
acts-so facts config is_new heard did g effect more there t silent k =
    silent-so facts config is_new heard did g effect more k there t (no-line effect silent)
    (IsDone effect silent (next-course k (effect ∷ more) there t))

line-said : (facts : NodeFacts) (config : SessionConfig) (is_new : Bool) (heard : List BatchEntry) (did : List Effect) (g : Guest) (text : List ℕ) (more : List Effect)
    → g.is_gone ≡ false → g.todo ≡ Send text ∷ more
    → IsGuestSo facts config is_new heard did g
    → IsGuestSo facts config is_new heard (did ++ Send text ∷ []) (record g { todo = more; waiting = g.waiting ++ text })
line-said facts config is_new heard did g text more there t k = record {
  events = k.events;
  later = k.later;
  it_came = k.it_came;
  are_first = k.are_first;
  is_count = k.is_count;
  are_by_accounts = k.are_by_accounts;
  are_seen = k.are_seen;
  came_to = k.came_to;
  done = k.done ++ Send text ∷ [];
  todo = more;
  all = next-all k (Send text) more there t;
  is_done = next-count k (Send text);
  is_todo = λ _. refl;
  waiting = k.waiting ++ text;
  is_waiting = λ h. ap (λ (l : List ℕ). l ++ text) (k.is_waiting h);
  course = IsSaid text (next-course k (Send text ∷ more) there t);
  alone = λ n.
      let a : IsAlone facts k.events k.done k.waiting g.told = k.alone n in (
        sym (append_assoc g.told k.waiting text) ∙ ap (λ (l : List ℕ). l ++ text) a.0
            ∙ ap (λ (l : List ℕ). lines_of k.done ++ l) (sym (append-nil text)) ∙ sym (lines-of-more k.done (Send text)),
        a.1,
      );
}

said-so : (facts : NodeFacts) (config : SessionConfig) (is_new : Bool) (heard : List BatchEntry) (did : List Effect) (g : Guest) (todo : List Effect)
    → g.is_gone ≡ false → g.todo ≡ todo → IsGuestSo facts config is_new heard did g → Goes facts config is_new heard did (after_saying g todo)
said-so facts config is_new heard did g [] there t k = same-count k
said-so facts config is_new heard did g (Send text ∷ more) there t k = (
  did ++ Send text ∷ [],
  (Send text ∷ [], refl),
  line-said facts config is_new heard did g text more there t k,
)
said-so facts config is_new heard did g (Put change ∷ more) there t k = same-count k
said-so facts config is_new heard did g (Ask question ∷ more) there t k = same-count k
said-so facts config is_new heard did g (Upstream text ∷ more) there t k = same-count k
said-so facts config is_new heard did g (Close ∷ more) there t k = same-count k

closed-so : (facts : NodeFacts) (config : SessionConfig) (is_new : Bool) (heard : List BatchEntry) (did : List Effect) (g : Guest) (todo : List Effect)
    → g.is_gone ≡ false → g.todo ≡ todo → IsGuestSo facts config is_new heard did g → Goes facts config is_new heard did (after_closing g todo)
closed-so facts config is_new heard did g [] there t k = same-count k
closed-so facts config is_new heard did g (Send text ∷ more) there t k = same-count k
closed-so facts config is_new heard did g (Put change ∷ more) there t k = same-count k
closed-so facts config is_new heard did g (Ask question ∷ more) there t k = same-count k
closed-so facts config is_new heard did g (Upstream text ∷ more) there t k = same-count k
closed-so facts config is_new heard did g (Close ∷ more) there t k =
    (did ++ Close ∷ [], (Close ∷ [], refl), acts-so facts config is_new heard did g Close more there t tt k)

-- ---- questions

-- a new one knows nothing
knows-nothing : (facts : NodeFacts) (config : SessionConfig) (is_new : Bool) (heard : List BatchEntry) (did : List Effect) (g : Guest) (f : Facts)
    → IsGuestSo facts config is_new heard did g → facts_in g.session ≡ Some f → is_new ≡ true → ⊥
knows-nothing facts config is_new heard did g f k e n =
    let a : IsAlone facts k.events k.done k.waiting g.told = k.alone n in
    let none : facts_in g.session ≡ None = ap facts_in (sym k.came_to) ∙ never-last (start facts) k.events a.1 in
    let both : None ≡ Some f = sym none ∙ e in
    cc

-- the answer is one more event of its session
answered-so : (facts : NodeFacts) (config : SessionConfig) (is_new : Bool) (heard : List BatchEntry) (did : List Effect) (held : List Change) (g : Guest) (question : List ℕ)
    (more : List Effect) (f : Facts) (line : Reading) (k : IsGuestSo facts config is_new heard did g) → g.is_gone ≡ false → g.todo ≡ Ask question ∷ more
    → facts_in g.session ≡ Some f → facts.held held → IsOfNetwork config g.session → read Client question ≡ Ok line
    → IsGuestSo facts config is_new heard (did ++ Ask question ∷ []) (after_answer g more (Some (answer_of held f line)))
answered-so facts config is_new heard did held g question more f line k there t e h own r =
    let answer : Answer = answer_of held f line in
    let event : ClientEvent = Answered answer.answered in
    let events : List ClientEvent = k.events ++ event ∷ [] in
    let first : lines_in events ≡ lines_in k.events ++ [] = lines-more k.events event in
    let same : lines_in events ≡ lines_in k.events = first ∙ append-nil (lines_in k.events) in
    record {
      events = events;
      later = k.later;
      it_came = k.it_came;
      are_first = k.are_first ∙ ap (λ (t : List Item). t ++ k.later) (sym same);
      is_count = ap length same ∙ k.is_count;
      are_by_accounts = by-more facts k.events event k.are_by_accounts tt;
      are_seen = seen-more facts (start facts) k.events event k.are_seen tt;
      came_to = run-more (start facts) k.events event ∙ ap (λ (t : Stage). after t event) k.came_to;
      done = k.done ++ Ask question ∷ [];
      todo = more;
      all = effects-more (start facts) k.events event ∙ append-nil (all_effects (start facts) k.events) ∙ next-all k (Ask question) more there t;
      is_done = next-count k (Ask question);
      is_todo = λ _. refl;
      waiting = k.waiting ++ answer.text;
      is_waiting = λ v. ap (λ (l : List ℕ). l ++ answer.text) (k.is_waiting v);
      course = IsAnswered question held f line h e own r (next-course k (Ask question ∷ more) there t);
      alone = λ n. absurd (knows-nothing facts config is_new heard did g f k e n);
    }

read-so : (facts : NodeFacts) (config : SessionConfig) (is_new : Bool) (heard : List BatchEntry) (did : List Effect) (held : List Change) (g : Guest) (question : List ℕ)
    (more : List Effect) (f : Facts) (r : Result Reading LineFault) → g.is_gone ≡ false → g.todo ≡ Ask question ∷ more
    → facts_in g.session ≡ Some f → facts.held held → IsOfNetwork config g.session → read Client question ≡ r
    → IsGuestSo facts config is_new heard did g
    → IsGuestSo facts config is_new heard (did ++ Ask question ∷ []) (after_answer g more (answer_to_reading held f r))
read-so facts config is_new heard did held g question more f (Err fault) there t e h own r k =
    let N : Option Facts → Type 0 = λ o. HasNoAnswer o (Err fault) in
    let M : Result Reading LineFault → Type 0 = λ v. HasNoAnswer (facts_in g.session) v in
    silent-so facts config is_new heard did g (Ask question) more k there t refl
    (IsUnanswered question (subst M (sym r) (subst N (sym e) tt)) (next-course k (Ask question ∷ more) there t))
read-so facts config is_new heard did held g question more f (Ok line) there t e h own r k =
    answered-so facts config is_new heard did held g question more f line k there t e h own r

question-so : (facts : NodeFacts) (config : SessionConfig) (is_new : Bool) (heard : List BatchEntry) (did : List Effect) (held : List Change) (g : Guest) (question : List ℕ)
    (more : List Effect) (o : Option Facts) → g.is_gone ≡ false → g.todo ≡ Ask question ∷ more → facts_in g.session ≡ o → KnowsOwn facts config held g
    → IsGuestSo facts config is_new heard did g → IsGuestSo facts config is_new heard (did ++ Ask question ∷ []) (after_answer g more (answer_to held o question))
question-so facts config is_new heard did held g question more None there t e own k =
    let N : Option Facts → Type 0 = λ o. HasNoAnswer o (read Client question) in
    silent-so facts config is_new heard did g (Ask question) more k there t refl
    (IsUnanswered question (subst N (sym e) tt) (next-course k (Ask question ∷ more) there t))
question-so facts config is_new heard did held g question more (Some f) there t e own k =
    let h : facts.held held × IsOfNetwork config g.session = own f e in
    read-so facts config is_new heard did held g question more f (read Client question) there t e h.0 h.1 refl k

asked-so : (facts : NodeFacts) (config : SessionConfig) (is_new : Bool) (heard : List BatchEntry) (did : List Effect) (held : List Change) (g : Guest) (todo : List Effect)
    → g.is_gone ≡ false → g.todo ≡ todo → KnowsOwn facts config held g
    → IsGuestSo facts config is_new heard did g → Goes facts config is_new heard did (after_asking held g todo)
asked-so facts config is_new heard did held g [] there t own k = same-count k
asked-so facts config is_new heard did held g (Send text ∷ more) there t own k = same-count k
asked-so facts config is_new heard did held g (Put change ∷ more) there t own k = same-count k
asked-so facts config is_new heard did held g (Ask question ∷ more) there t own k =
    (did ++ Ask question ∷ [], (Ask question ∷ [], refl), question-so facts config is_new heard did held g question more (facts_in g.session) there t refl own k)
asked-so facts config is_new heard did held g (Upstream text ∷ more) there t own k = same-count k
asked-so facts config is_new heard did held g (Close ∷ more) there t own k = same-count k

-- ---- it is told

offered-so : (facts : NodeFacts) (config : SessionConfig) (is_new : Bool) (heard : List BatchEntry) (did : List Effect) (size : ℕ) (g : Guest) → g.is_gone ≡ false
    → AreWholeLines g.waiting size
    → IsGuestSo facts config is_new heard did g
    → IsGuestSo facts config is_new heard did (record g { told = g.told ++ take size g.waiting; waiting = drop size g.waiting })
offered-so facts config is_new heard did size g there whole k =
    let C : List ℕ → Type 0 = λ v. Course facts config k.events g.session k.todo v heard g.nick g.told in
    record {
      events = k.events;
      later = k.later;
      it_came = k.it_came;
      are_first = k.are_first;
      is_count = k.is_count;
      are_by_accounts = k.are_by_accounts;
      are_seen = k.are_seen;
      came_to = k.came_to;
      done = k.done;
      todo = k.todo;
      all = k.all;
      is_done = k.is_done;
      is_todo = k.is_todo;
      waiting = drop size g.waiting;
      is_waiting = λ _. refl;
      course = IsOffered size whole (subst C (k.is_waiting there) k.course);
      alone = λ n.
          let a : IsAlone facts k.events k.done k.waiting g.told = k.alone n in (
            append_assoc g.told (take size g.waiting) (drop size g.waiting)
                ∙ ap (λ (l : List ℕ). g.told ++ l) (take-append-drop size g.waiting ∙ sym (k.is_waiting there)) ∙ a.0,
            a.1,
          );
    }

pub fallen-so : (facts : NodeFacts) (config : SessionConfig) (is_new : Bool) (heard : List BatchEntry) (did : List Effect) (g : Guest)
    → IsGuestSo facts config is_new heard did g → IsGuestSo facts config is_new heard did (fallen g)
fallen-so facts config is_new heard did g k = record {
  events = k.events;
  later = k.later;
  it_came = k.it_came;
  are_first = k.are_first;
  is_count = k.is_count;
  are_by_accounts = k.are_by_accounts;
  are_seen = k.are_seen;
  came_to = k.came_to;
  done = k.done;
  todo = k.todo;
  all = k.all;
  is_done = k.is_done;
  is_todo = λ e. absurd (cc e);
  waiting = k.waiting;
  is_waiting = λ e. absurd (cc e);
  course = k.course;
  alone = k.alone;
}

-- ---- an event

pub event-so : (facts : NodeFacts) (config : SessionConfig) (is_new : Bool) (heard : List BatchEntry) (did : List Effect) (held : List Change) (Stands : Directory → Type 0)
    (event : GuestEvent) (g : Guest)
    → ((directory : Directory) → Stands directory → IsDirectory facts directory) → KnowsOwn facts config held g
    → (is_new ≡ true → facts_in (guest_step held event g).session ≡ None)
    → IsTrueOfGuest facts held Stands event g → IsGuestSo facts config is_new heard did g → Goes facts config is_new heard did (guest_step held event g)
event-so facts config is_new heard did held Stands (Gets bytes) g own knows out t k = same-count (got-so facts config is_new heard did bytes g t.1 k)
event-so facts config is_new heard did held Stands (Hears directory shown) g own knows out t k =
    same-count (item-so facts config is_new heard did directory shown g (next_item g.received g.heard) t.0 t.1 (own directory t.2) held knows t.3 refl out k)
event-so facts config is_new heard did held Stands Says g own knows out t k = said-so facts config is_new heard did g g.todo t refl k
event-so facts config is_new heard did held Stands Asks g own knows out t k = asked-so facts config is_new heard did held g g.todo t refl knows k
event-so facts config is_new heard did held Stands Closes g own knows out t k = closed-so facts config is_new heard did g g.todo t refl k
event-so facts config is_new heard did held Stands (Offers size) g own knows out t k = same-count (offered-so facts config is_new heard did size g t.0 t.1 k)
event-so facts config is_new heard did held Stands Falls g own knows out t k = same-count (fallen-so facts config is_new heard did g k)

-- ---- newcomers

never-now : (held : List Change) (events : List GuestEvent) (g : Guest) → IsNeverRegistered held events g → facts_in g.session ≡ None
never-now held [] g k = k
never-now held (event ∷ events) g k = k.0

events-so : (facts : NodeFacts) (config : SessionConfig) (did : List Effect) (events : List GuestEvent) (g : Guest)
    → AreTrueOfGuest facts [] (IsDirectory facts) events g → IsNeverRegistered [] events g
    → IsGuestSo facts config true [] did g → Goes facts config true [] did (guest_run [] events g)
events-so facts config did [] g t never k = same-count k
events-so facts config did (event ∷ events) g t never k =
    let none : facts_in g.session ≡ None = never.0 in
    let next : Guest = guest_step [] event g in
    let one : Goes facts config true [] did next =
    event-so facts config true [] did [] (IsDirectory facts) event g (λ directory is. is)
    (λ f e. let both : None ≡ Some f = sym none ∙ e in absurd (cc both)) (λ _. never-now [] events next never.1) t.0 k in
    let all : Goes facts config true [] one.0 (guest_run [] events next) = events-so facts config one.0 events next t.1 never.1 one.2 in
    (all.0, prefix-trans did one.0 all.0 one.1 all.1, all.2)

-- what is so of a newcomer
pub newcomer-so : (facts : NodeFacts) (config : SessionConfig) (g : Guest) → IsNewcomer facts g → Goes facts config true [] [] g
newcomer-so facts config g n =
    let first : Guest = new_guest facts n.serial in
    let so : IsGuestSo facts config true [] [] first = record {
      events = [];
      later = items [];
      it_came = n.it_came;
      are_first = refl;
      is_count = refl;
      are_by_accounts = tt;
      are_seen = tt;
      came_to = refl;
      done = [];
      todo = [];
      all = refl;
      is_done = refl;
      is_todo = λ _. refl;
      waiting = [];
      is_waiting = λ _. refl;
      course = Connects;
      alone = λ _. (refl, never-now [] n.events first n.is_outside);
    } in
    subst (λ (v : Guest). Goes facts config true [] [] v) (sym n.is_run) (events-so facts config [] n.events first n.are_true n.is_outside so)

-- it is no newcomer any more
pub let-in-so : (facts : NodeFacts) (config : SessionConfig) (heard : List BatchEntry) (did : List Effect) (g : Guest)
    → IsGuestSo facts config true heard did g → IsGuestSo facts config false heard did g
let-in-so facts config heard did g k = record {
  events = k.events;
  later = k.later;
  it_came = k.it_came;
  are_first = k.are_first;
  is_count = k.is_count;
  are_by_accounts = k.are_by_accounts;
  are_seen = k.are_seen;
  came_to = k.came_to;
  done = k.done;
  todo = k.todo;
  all = k.all;
  is_done = k.is_done;
  is_todo = k.is_todo;
  waiting = k.waiting;
  is_waiting = k.is_waiting;
  course = k.course;
  alone = λ e. absurd (cc e);
}

-- another field is none of these
pub joined-so : (facts : NodeFacts) (config : SessionConfig) (is_new : Bool) (heard : List BatchEntry) (did : List Effect) (joins : Option ℕ) (g : Guest)
    → IsGuestSo facts config is_new heard did g → IsGuestSo facts config is_new heard did (record g { joined = joins })
joined-so facts config is_new heard did joins g k = record {
  events = k.events;
  later = k.later;
  it_came = k.it_came;
  are_first = k.are_first;
  is_count = k.is_count;
  are_by_accounts = k.are_by_accounts;
  are_seen = k.are_seen;
  came_to = k.came_to;
  done = k.done;
  todo = k.todo;
  all = k.all;
  is_done = k.is_done;
  is_todo = k.is_todo;
  waiting = k.waiting;
  is_waiting = k.is_waiting;
  course = k.course;
  alone = k.alone;
}

-- ---- a batch, and markers

shared-all : (facts : NodeFacts) (config : SessionConfig) (events : List ClientEvent) (session : Stage) (todo : List Effect) (waiting : List ℕ) (held : List Change) (f : Facts)
    (batch heard : List BatchEntry) (nick told : List ℕ)
    → facts.held held → facts_in session ≡ Some f → IsOfNetwork config session → Course facts config events session todo waiting heard nick told
    → Course facts config events session todo waiting (heard ++ batch) (nick_by_all nick batch) (told ++ told_to held f nick batch)
shared-all facts config events session todo waiting held f [] heard nick told h e own k =
    let P : List BatchEntry → Type 0 = λ v. Course facts config events session todo waiting v nick (told ++ []) in
    let Q : List ℕ → Type 0 = λ v. Course facts config events session todo waiting heard nick v in
    subst P (sym (append-nil heard)) (subst Q (sym (append-nil told)) k)
shared-all facts config events session todo waiting held f (entry ∷ batch) heard nick told h e own k =
    let share : List ℕ = share_of held f nick entry in
    let next : List ℕ = nick_by nick entry in
    let P : List BatchEntry → Type 0 = λ v. Course facts config events session todo waiting v (nick_by_all next batch) (told ++ (share ++ told_to held f next batch)) in
    let Q : List ℕ → Type 0 = λ v. Course facts config events session todo waiting ((heard ++ entry ∷ []) ++ batch) (nick_by_all next batch) v in
    subst P (append_assoc heard (entry ∷ []) batch)
    (subst Q (append_assoc told share (told_to held f next batch))
    (shared-all facts config events session todo waiting held f batch (heard ++ entry ∷ []) next (told ++ share) h e own (IsShared held f entry h e own k)))

-- ---- since it came

-- more is put, of which it is told nothing, since it is gone or not registered
pub since-more : (put batch heard : List BatchEntry) (is_gone : Bool) (session : Stage) → ((f : Facts) → is_gone ≡ false → facts_in session ≡ Some f → ⊥)
    → AreLatestOf put heard is_gone session → AreLatestOf (put ++ batch) heard is_gone session
since-more put batch heard is_gone session away k = record {
  before = k.before;
  missed = k.missed ++ batch;
  is_all = ap (λ (l : List BatchEntry). l ++ batch) k.is_all ∙ append_assoc k.before (heard ++ k.missed) batch
      ∙ ap (λ (l : List BatchEntry). k.before ++ l) (append_assoc heard k.missed batch);
  is_latest = λ f there known. absurd (away f there known);
}

since-heard : (put batch heard : List BatchEntry) (is_gone : Bool) (session : Stage) (k : AreLatestOf put heard is_gone session) → k.missed ≡ []
    → AreLatestOf (put ++ batch) (heard ++ batch) is_gone session
since-heard put batch heard is_gone session k none = record {
  before = k.before;
  missed = [];
  is_all = ap (λ (l : List BatchEntry). l ++ batch)
      (k.is_all ∙ ap (λ (m : List BatchEntry). k.before ++ (heard ++ m)) none ∙ ap (λ (l : List BatchEntry). k.before ++ l) (append-nil heard))
      ∙ append_assoc k.before heard batch ∙ ap (λ (l : List BatchEntry). k.before ++ l) (sym (append-nil (heard ++ batch)));
  is_latest = λ f there known. refl;
}

-- it is gone
pub since-gone : (put heard : List BatchEntry) (is_gone : Bool) (session : Stage) → AreLatestOf put heard is_gone session → AreLatestOf put heard true session
since-gone put heard is_gone session k =
    record { before = k.before; missed = k.missed; is_all = k.is_all; is_latest = λ f e known. absurd (cc e) }

-- it comes
pub since-now : (put : List BatchEntry) (is_gone : Bool) (session : Stage) → AreLatestOf put [] is_gone session
since-now put is_gone session =
    record { before = put; missed = []; is_all = sym (append-nil put); is_latest = λ f there known. refl }

-- it was told of these entries
abbrev pub GuestHas : NodeFacts → SessionConfig → List BatchEntry → List Effect → Guest → Type 0
GuestHas facts config taken did g =
    (heard : List BatchEntry) × AreLatestOf taken heard g.is_gone g.session × IsGuestSo facts config false heard did g

nobody : (session : Stage) (f : Facts) → facts_in session ≡ None → facts_in session ≡ Some f → ⊥
nobody session f none some =
    let both : None ≡ Some f = sym none ∙ some in
    cc

not-both : (b : Bool) → b ≡ true → b ≡ false → ⊥
not-both b is not =
    let both : true ≡ false = sym is ∙ not in
    cc

batch-with : (facts : NodeFacts) (config : SessionConfig) (held : List Change) (batch taken : List BatchEntry) (did : List Effect) (g : Guest) (o : Option Facts)
    → facts_in g.session ≡ o → KnowsOwn facts config held g
    → GuestHas facts config taken did g → GuestHas facts config (taken ++ batch) did (with_batch held batch g o)
batch-with facts config held batch taken did g None e own k =
    (k.0, since-more taken batch k.0 g.is_gone g.session (λ f there known. nobody g.session f e known) k.1, k.2)
batch-with facts config held batch taken did g (Some f) e own k =
    let so : IsGuestSo facts config false k.0 did g = k.2 in
    let h : facts.held held × IsOfNetwork config g.session = own f e in
    let cases : g.is_gone ≡ g.is_gone
    → GuestHas facts config (taken ++ batch) did (if g.is_gone then g else record g { told = g.told ++ told_to held f g.nick batch; nick = nick_by_all g.nick batch }) =
    elim (g.is_gone) as (λ b. g.is_gone ≡ b
    → GuestHas facts config (taken ++ batch) did (if b then g else record g { told = g.told ++ told_to held f g.nick batch; nick = nick_by_all g.nick batch })) [
      | true ↦ λ is. (k.0, since-more taken batch k.0 g.is_gone g.session (λ v there known. not-both g.is_gone is there) k.1, k.2)
      | false ↦ λ is. (
        k.0 ++ batch,
        since-heard taken batch k.0 g.is_gone g.session k.1 (k.1.is_latest f is e),
        record {
          events = so.events;
          later = so.later;
          it_came = so.it_came;
          are_first = so.are_first;
          is_count = so.is_count;
          are_by_accounts = so.are_by_accounts;
          are_seen = so.are_seen;
          came_to = so.came_to;
          done = so.done;
          todo = so.todo;
          all = so.all;
          is_done = so.is_done;
          is_todo = so.is_todo;
          waiting = so.waiting;
          is_waiting = so.is_waiting;
          course = shared-all facts config so.events g.session so.todo so.waiting held f batch k.0 g.nick g.told h.0 e h.1 so.course;
          alone = λ e. absurd (cc e);
        },
      )
    ] in
    cases refl

pub batch-so : (facts : NodeFacts) (config : SessionConfig) (held : List Change) (batch taken : List BatchEntry) (did : List Effect) (g : Guest)
    → KnowsOwn facts config held g
    → GuestHas facts config taken did g → GuestHas facts config (taken ++ batch) did (hears_batch held batch g)
batch-so facts config held batch taken did g own k = batch-with facts config held batch taken did g (facts_in g.session) refl own k

marker-with : (facts : NodeFacts) (config : SessionConfig) (held : List Change) (target : List ℕ) (taken : List BatchEntry) (did : List Effect) (g : Guest) (o : Option Facts)
    → facts_in g.session ≡ o → KnowsOwn facts config held g
    → GuestHas facts config taken did g → GuestHas facts config taken did (with_text (λ f. marker_text held f target) g o)
marker-with facts config held target taken did g None e own k = k
marker-with facts config held target taken did g (Some f) e own k =
    let so : IsGuestSo facts config false k.0 did g = k.2 in
    let h : facts.held held × IsOfNetwork config g.session = own f e in
    elim (g.is_gone) as (λ b. GuestHas facts config taken did (if b then g else record g { told = g.told ++ marker_text held f target })) [
      | true ↦ k
      | false ↦ (
        k.0,
        k.1,
        record {
          events = so.events;
          later = so.later;
          it_came = so.it_came;
          are_first = so.are_first;
          is_count = so.is_count;
          are_by_accounts = so.are_by_accounts;
          are_seen = so.are_seen;
          came_to = so.came_to;
          done = so.done;
          todo = so.todo;
          all = so.all;
          is_done = so.is_done;
          is_todo = so.is_todo;
          waiting = so.waiting;
          is_waiting = so.is_waiting;
          course = IsInformed held f target h.0 e h.1 so.course;
          alone = λ e. absurd (cc e);
        },
      )
    ]

pub marker-so : (facts : NodeFacts) (config : SessionConfig) (held : List Change) (target : List ℕ) (taken : List BatchEntry) (did : List Effect) (g : Guest)
    → KnowsOwn facts config held g
    → GuestHas facts config taken did g → GuestHas facts config taken did (hears_marker held target g)
marker-so facts config held target taken did g own k = marker-with facts config held target taken did g (facts_in g.session) refl own k

-- a newcomer's session knows nothing
pub newcomer-knows : (facts : NodeFacts) (config : SessionConfig) (heard : List BatchEntry) (did : List Effect) (held : List Change) (g : Guest)
    → IsGuestSo facts config true heard did g → KnowsOwn facts config held g
newcomer-knows facts config heard did held g k = λ f e. absurd (knows-nothing facts config true heard did g f k e refl)

pub newcomer-outside : (facts : NodeFacts) (config : SessionConfig) (heard : List BatchEntry) (did : List Effect) (g : Guest)
    → IsGuestSo facts config true heard did g → facts_in g.session ≡ None
newcomer-outside facts config heard did g k =
    let a : IsAlone facts k.events k.done k.waiting g.told = k.alone refl in
    ap facts_in (sym k.came_to) ∙ never-last (start facts) k.events a.1
