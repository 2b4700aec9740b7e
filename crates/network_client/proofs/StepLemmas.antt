-- What a client comes to as bytes come or a line is heard.
use Rattle.std.proofs.Common.{◌≡◌, ℕ, ◌+◌, Bool, true, false, List, [], ◌++◌, Option, None, Some, refl, sym, ap, ◌∙◌, subst, rules}
use Rattle.std.proofs.Props.{props}
use Rattle.std.specs.Prelude.{◌↔◌, is_none, is_some, IsSome, IsTrue, if◌then◌else◌}
use Rattle.std.proofs.Math.Logic.{∥∥₁_map, ∥∥₁_elim}
use Rattle.std.proofs.lemmas.Option.{same_Some}
use Rattle.irc_line.specs.Stream.{Item, line as whole_line, too_long as cut_line}
use Rattle.chat_change.specs.Buffer.{Buffer}
use Rattle.chat_change.specs.declared.change.Change.{Change}
use Rattle.chat_history.specs.History.{norm}
use Rattle.chat_history.specs.Lookups.{IsShown}
use Rattle.client_session.specs.Lookup.{MessageName, name_sought, parts_of}
use Rattle.network_log.specs.Truth.{IsShownIn, IsSought}
use Rattle.cluster_directory.specs.Directory.{Directory}
use Rattle.chat_query.specs.declared.facts.Facts.{Facts}
use Rattle.client_session.specs.Session.{facts_in}
use Rattle.client_session.specs.Step.{Step}
use Rattle.client_session.specs.declared.stage.Stage.{Stage}
use Rattle.network_log.specs.Facts.{NodeFacts}
use Rattle.network_log.specs.Guest.{Guest, Hears, fallen, guest_step, next_item, nick_after, after_item, after_step, step_of}
use Rattle.network_log.specs.declared.origin.Origin.{Origin}
use Rattle.network_log.specs.declared.origin.Origin.TheVariants.{ClientCame}
use Rattle.network_client.specs.Steps.{IsFilled, Same, Got, Fell, Lost, step_if}
use Rattle.node_ports.specs.Unread.{Unread, AreLeft, IsLooked, IsReceived, NoBytes, Bytes, items_left, line_in, next_of, without_next}
use Rattle.node_ports.proofs.CallerLemmas.{left_next, left_so, ahead_next}

-- the same is left
pub kept : {received after : List ℕ} (heard : ℕ) (u : Unread) {v : Unread} {gone : Bool} → after ≡ received → v ≡ u → (gone ≡ false → ∥ AreLeft received heard u ∥₁) → (gone ≡ false → ∥ AreLeft after heard v ∥₁)
kept {received} {after} heard u {v} r s are = λ there. ∥∥₁_map (are there) (λ l.
    subst (λ (x : Unread). AreLeft after heard x) (sym s) (subst (λ (b : List ℕ). AreLeft b heard u) (sym r) l))

-- ---- bytes

filled-so : {facts : NodeFacts} {origin : Origin} {g next : Guest} {received : List ℕ} → origin ≡ ClientCame → g.is_gone ≡ false → next ≡ record g { received = received }
    → IsReceived facts origin g.serial g.received received → IsFilled facts g next
filled-so {g = g} is there e (NoBytes same) = Same (e ∙ ap (λ (r : List ℕ). record g { received = r }) same)
filled-so {facts} {origin} {g} {next} {received} is there e (Bytes bytes more came) =
    Got bytes there (subst (λ (o : Origin). facts.came o g.serial (g.received ++ bytes)) is (subst (λ (r : List ℕ). facts.came origin g.serial r) more came))
    (e ∙ ap (λ (r : List ℕ). record g { received = r }) more)

lost-so : {facts : NodeFacts} {origin : Origin} {g next : Guest} {received : List ℕ} → origin ≡ ClientCame → g.is_gone ≡ false → next ≡ fallen (record g { received = received })
    → IsReceived facts origin g.serial g.received received → IsFilled facts g next
lost-so {g = g} is there e (NoBytes same) = Fell (e ∙ ap (λ (r : List ℕ). fallen (record g { received = r })) same)
lost-so {facts} {origin} {g} {next} {received} is there e (Bytes bytes more came) =
    Lost bytes there (subst (λ (o : Origin). facts.came o g.serial (g.received ++ bytes)) is (subst (λ (r : List ℕ). facts.came origin g.serial r) more came))
    (e ∙ ap (λ (r : List ℕ). fallen (record g { received = r })) more)

pub filled_so : {facts : NodeFacts} {origin : Origin} {g inside next : Guest} {received : List ℕ} → inside ≡ g → origin ≡ ClientCame → inside.is_gone ≡ false
    → next ≡ record inside { received = received } → IsReceived facts origin inside.serial inside.received received → IsFilled facts g next
filled_so {facts} {next = next} same is there e r = subst (λ (x : Guest). IsFilled facts x next) same (filled-so is there e r)

pub lost_so : {facts : NodeFacts} {origin : Origin} {g inside next : Guest} {received : List ℕ} → inside ≡ g → origin ≡ ClientCame → inside.is_gone ≡ false
    → next ≡ fallen (record inside { received = received }) → IsReceived facts origin inside.serial inside.received received → IsFilled facts g next
lost_so {facts} {next = next} same is there e r = subst (λ (x : Guest). IsFilled facts x next) same (lost-so is there e r)

-- ---- lines

nick-is : (was_outside : Bool) (before after : Option Facts) (nick : List ℕ) → was_outside ≡ is_none before → (if was_outside then nick_after None after nick else nick) ≡ nick_after before after nick
nick-is true None after nick e = refl
nick-is false None after nick e = absurd (cc e)
nick-is true (Some f) after nick e = absurd (cc e)
nick-is false (Some f) None nick e = refl
nick-is false (Some f) (Some h) nick e = refl

-- of a step the line is there
pub step_is : (directory : Directory) (shown : Bool) (session : Stage) (next : Option Item) {s : Step} → step_if directory shown session next ≡ Some s
    → (item : Item) × (next ≡ Some item) × (s ≡ step_of directory shown session item)
step_is directory shown session None e = absurd (cc e)
step_is directory shown session (Some item) {s} e = (item, refl, sym (same_Some (step_of directory shown session item) s e))

heard-so : {was_outside : Bool} (directory : Directory) (shown : Bool) (g : Guest) {mid next : Guest} {item : Option Item} {s : Step} → was_outside ≡ is_none (facts_in g.session)
    → mid ≡ record g { heard = g.heard + 1; session = s.session; todo = s.effects }
    → next ≡ record mid { nick = (if was_outside then nick_after None (facts_in mid.session) mid.nick else mid.nick) }
    → step_if directory shown g.session item ≡ Some s → next_item g.received g.heard ≡ item → next ≡ guest_step [] (Hears directory shown) g
heard-so {was_outside} directory shown g {mid} {next} {item} {s} outside m n k is =
    let found = step_is directory shown g.session item k in
    n ∙ ap (λ (x : Guest). record x { nick = (if was_outside then nick_after None (facts_in x.session) x.nick else x.nick) }) m
    ∙ ap (λ t. record g { heard = g.heard + 1; session = s.session; todo = s.effects; nick = t }) (nick-is was_outside (facts_in g.session) (facts_in s.session) g.nick outside)
    ∙ ap (λ (t : Step). after_step t g) found.2
    ∙ ap (λ (o : Option Item). after_item directory shown g o) (sym (is ∙ found.1))

pub heard_so : {was_outside : Bool} (directory : Directory) (shown : Bool) {g inside mid next : Guest} {item : Option Item} {s : Step} → inside ≡ g → was_outside ≡ is_none (facts_in inside.session)
    → mid ≡ record inside { heard = inside.heard + 1; session = s.session; todo = s.effects }
    → next ≡ record mid { nick = (if was_outside then nick_after None (facts_in mid.session) mid.nick else mid.nick) }
    → step_if directory shown inside.session item ≡ Some s → next_item inside.received inside.heard ≡ item → next ≡ guest_step [] (Hears directory shown) g
heard_so directory shown {inside = inside} {next = next} same outside m n k is =
    subst (λ (x : Guest). next ≡ guest_step [] (Hears directory shown) x) same (heard-so directory shown inside outside m n k is)

-- no line is there
pub none_so : {g inside : Guest} (directory : Directory) (shown : Bool) (session : Stage) → inside ≡ g → session ≡ inside.session → next_item inside.received inside.heard ≡ None
    → record inside { session = session } ≡ guest_step [] (Hears directory shown) g
none_so {g} {inside} directory shown session same n is =
    subst (λ (x : Guest). record inside { session = session } ≡ guest_step [] (Hears directory shown) x) same
    (ap (λ (t : Stage). record inside { session = t }) n ∙ ap (λ (o : Option Item). after_item directory shown inside o) (sym is))

pub left_heard : {s : Step} (directory : Directory) (shown : Bool) (session : Stage) (received : List ℕ) (heard : ℕ) {after : ℕ} (u : Unread) {v : Unread} → after ≡ heard + 1 → v ≡ without_next u
    → step_if directory shown session (next_of u) ≡ Some s → AreLeft received heard u → AreLeft received after v
left_heard directory shown session received heard {after} u {v} h e k are =
    let found = step_is directory shown session (next_of u) k in
    subst (λ (x : Unread). AreLeft received after x) (sym e) (subst (λ n. AreLeft received n (without_next u)) (sym h) (left_next received heard u found.0 found.1 are))

-- ---- the line that was looked at

pub next_there : (received : List ℕ) (heard : ℕ) (u v : Unread) → ((more : List ℕ) → items_left v more ≡ items_left u more) → IsLooked v → ∥ AreLeft received heard u ∥₁ → next_item received heard ≡ v.ahead
next_there received heard u v left looked are =
    ∥∥₁_elim are (Prim.hlevel props) (λ l. ahead_next received heard v looked (left_so received heard u v left l))

pub left_looked : {origin : Type 0} {gone : Bool} (received : List ℕ) (heard : ℕ) (u v : Unread) → ((more : List ℕ) → items_left v more ≡ items_left u more) → origin × (gone ≡ false → ∥ AreLeft received heard u ∥₁)
    → origin × (gone ≡ false → ∥ AreLeft received heard v ∥₁)
left_looked received heard u v left is = (is.0, λ there. ∥∥₁_map (is.1 there) (left_so received heard u v left))

pub some_is : (o : Option Item) → is_some o ≡ true → IsSome o
some_is None e = absurd (cc e)
some_is (Some item) e = search rules

pub none_is : (o : Option Item) → is_some o ≡ false → o ≡ None
none_is None e = refl
none_is (Some item) e = absurd (cc e)

-- ---- the message that it names

name-so : (held : List Change) (shown : Bool) (o : Option MessageName) (buffer : Buffer) (id : List ℕ) → parts_of o ≡ Some (buffer, id) → (IsTrue shown ↔ IsShown (norm held) buffer id) → IsShownIn held shown o
name-so held shown None buffer id e is = tt
name-so held shown (Some m) buffer id e is =
    subst (λ (p : Buffer × List ℕ). IsTrue shown ↔ IsShown (norm held) p.0 p.1) (sym (same_Some (m.buffer, m.id) (buffer, id) e)) is

pub sought_so : (held : List Change) (shown : Bool) (session : Stage) (ahead : Option Item) (bytes : List ℕ) {sought : Option (Buffer × List ℕ)} (buffer : Buffer) (id : List ℕ) → line_in ahead ≡ Some bytes
    → sought ≡ parts_of (name_sought session bytes) → sought ≡ Some (buffer, id) → (IsTrue shown ↔ IsShown (norm held) buffer id) → IsSought held shown session ahead
sought_so held shown session None bytes buffer id e s n is = absurd (cc e)
sought_so held shown session (Some cut_line) bytes buffer id e s n is = absurd (cc e)
sought_so held shown session (Some (whole_line text)) bytes buffer id e s n is =
    name-so held shown (name_sought session text) buffer id (ap (λ (b : List ℕ). parts_of (name_sought session b)) (same_Some text bytes e) ∙ sym s ∙ n) is
