-- What holds of each client of each network that is reached.
use Rattle.std.proofs.Common.{◌≡◌, ◌<◌, ◌==◌, Bool, true, false, ℕ, zero, suc, List, [], ◌∷◌, ◌++◌, Option, Some, None, refl, sym, ap, subst, arith, length, take, drop, slice_index_or, slice_set, if◌then◌else◌, ◌∙◌, ◌≤◌}
use Rattle.std.specs.Prelude.{slice_get}
use Rattle.std.proofs.lemmas.Option.{slice_get_within, get_or_from_slice_get}
use Rattle.irc_line.specs.Stream.{Item, line as whole_line, too_long as cut_line}
use Rattle.chat_change.specs.declared.change.Change.{Change}
use Rattle.chat_change.specs.declared.change.Change.TheVariants.{Post, Redact, Mark, Floor, AccountFloor}
use Rattle.chat_query.specs.declared.facts.Facts.{Facts}
use Rattle.cluster_directory.specs.Directory.{Directory}
use Rattle.cluster_directory.specs.Entry.{Entry}
use Rattle.cluster_directory.specs.declared.config.SessionConfig.{SessionConfig}
use Rattle.client_session.specs.declared.effect.Effect.{Effect}
use Rattle.client_session.specs.declared.effect.Effect.TheVariants.{Send, Put, Ask, Upstream, Close}
use Rattle.client_session.specs.Session.{facts_in}
use Rattle.network_log.specs.Accounts.{directory_at}
use Rattle.network_log.specs.Facts.{NodeFacts}
use Rattle.network_log.specs.Guest.{Guest, GuestEvent, fallen, guest_step, next_item}
use Rattle.network_log.specs.Host.{Host, BatchEntry}
use Rattle.network_log.specs.Share.{hears_batch, hears_marker, with_batch, with_text, marker_text, told_to, nick_by_all}
use Rattle.network_log.specs.NetworkState.{NetworkState, beginning, changes_of, entry_of, first_entries, told_by}
use Rattle.network_log.specs.Log.{NetworkEvent, ServerComes, ServerGets, ServerSays, ServerSkips, ServerGoes, Others, Puts, PutsFirst, Loses, Comes, Has, Speaks, Marks, MarkWaits, Informs, Leaves, step, run, guests_after, without_server, after_server_item, after_server_line, after_saying_to, after_speaking, after_speaking_of, after_marking, after_marking_of, after_waiting_mark, after_waiting_mark_of, after_put_of_first}
use Rattle.network_log.specs.Truth.{AreTrue, AtMoment, IsArrived, IsDirectory, IsReached, IsTrueEvent, IsTrueOfGuest, IsTrueOfOption, Leads}
use Rattle.network_laws.proofs.StepLemmas.{IsLater, step-later}

-- it holds of each of these
abbrev pub AreAll : (Guest → Type 0) → List Guest → Type 0
AreAll P [] = Unit {0}
AreAll P (g ∷ guests) = P g × AreAll P guests

-- It holds of whoever arrives at that network, and what may happen to a client leaves it so: its own events, what it is told, what
-- it has to do, and its fall.
pub record IsKept (facts : NodeFacts) (place : ℕ) (config : SessionConfig) (P : Guest → Type 0) : Type 1 where
  pub arrives : (entry : Entry) (g : Guest) (joins : ℕ) → IsArrived facts config entry g → facts.joined g.serial place joins
      → P (record g { joined = Some joins })
  pub happens : (held : List Change) (Stands : Directory → Type 0) (event : GuestEvent) (g : Guest)
      → ((directory : Directory) → Stands directory → IsDirectory facts directory)
      → IsTrueOfGuest facts held Stands event g → P g → P (guest_step held event g)
  pub is_told : (told nick : List ℕ) (g : Guest) → P g → P (record g { told = told; nick = nick })
  pub has_done : (todo : List Effect) (g : Guest) → P g → P (record g { todo = todo })
  pub falls : (g : Guest) → P g → P (fallen g)

-- ---- lists

all-at : (P : Guest → Type 0) (guests : List Guest) (at : ℕ) (g : Guest) → at < length guests → AreAll P guests → P (slice_index_or guests at g)
all-at P [] at g h k = absurd (omega (arith, h))
all-at P (o ∷ guests) zero g h k = k.0
all-at P (o ∷ guests) (suc at) g h k = all-at P guests at g (omega (arith, h)) k.1

pub all-get : (P : Guest → Type 0) (guests : List Guest) (at : ℕ) (g : Guest) → slice_get guests at ≡ Some g → AreAll P guests → P g
all-get P guests at g h k =
    subst P (get_or_from_slice_get guests at g g h) (all-at P guests at g (slice_get_within guests at g h) k)

all-set : (P : Guest → Type 0) (guests : List Guest) (at : ℕ) (g : Guest) → P g → AreAll P guests → AreAll P (slice_set guests at g)
all-set P [] at g n k = tt
all-set P (o ∷ guests) zero g n k = (n, k.1)
all-set P (o ∷ guests) (suc at) g n k = (k.0, all-set P guests at g n k.1)

all-append : (P : Guest → Type 0) (guests more : List Guest) → AreAll P guests → AreAll P more → AreAll P (guests ++ more)
all-append P [] more k m = m
all-append P (g ∷ guests) more k m = (k.0, all-append P guests more k.1 m)

all-take : (P : Guest → Type 0) (n : ℕ) (guests : List Guest) → AreAll P guests → AreAll P (take n guests)
all-take P zero guests k = tt
all-take P (suc n) [] k = tt
all-take P (suc n) (g ∷ guests) k = (k.0, all-take P n guests k.1)

all-drop : (P : Guest → Type 0) (n : ℕ) (guests : List Guest) → AreAll P guests → AreAll P (drop n guests)
all-drop P zero guests k = k
all-drop P (suc n) [] k = tt
all-drop P (suc n) (g ∷ guests) k = all-drop P n guests k.1

all-told : (P : Guest → Type 0) (hears : Guest → Guest) → ((g : Guest) → P g → P (hears g)) → ((g : Guest) → P g → P (fallen g))
    → (fits : List Bool) (guests : List Guest) → AreAll P guests → AreAll P (told_by hears fits guests)
all-told P hears h f [] guests k = k
all-told P hears h f (true ∷ fits) [] k = tt
all-told P hears h f (false ∷ fits) [] k = tt
all-told P hears h f (true ∷ fits) (g ∷ guests) k = (h g k.0, all-told P hears h f fits guests k.1)
all-told P hears h f (false ∷ fits) (g ∷ guests) k = (f g k.0, all-told P hears h f fits guests k.1)

-- ---- what clients are told

batch-kept : {facts : NodeFacts} {place : ℕ} {config : SessionConfig} (P : Guest → Type 0) → IsKept facts place config P
    → (held : List Change) (batch : List BatchEntry) (g : Guest) (o : Option Facts) → P g → P (with_batch held batch g o)
batch-kept P k held batch g None p = p
batch-kept P k held batch g (Some f) p =
    elim (g.is_gone) as (λ b. P (if b then g else record g { told = g.told ++ told_to held f g.nick batch; nick = nick_by_all g.nick batch })) [
      | true ↦ p
      | false ↦ k.is_told (g.told ++ told_to held f g.nick batch) (nick_by_all g.nick batch) g p
    ]

marker-kept : {facts : NodeFacts} {place : ℕ} {config : SessionConfig} (P : Guest → Type 0) → IsKept facts place config P
    → (held : List Change) (target : List ℕ) (g : Guest) (o : Option Facts) → P g → P (with_text (λ f. marker_text held f target) g o)
marker-kept P k held target g None p = p
marker-kept P k held target g (Some f) p =
    elim (g.is_gone) as (λ b. P (if b then g else record g { told = g.told ++ marker_text held f target })) [
      | true ↦ p
      | false ↦ k.is_told (g.told ++ marker_text held f target) g.nick g p
    ]

all-hear : {facts : NodeFacts} {place : ℕ} {config : SessionConfig} (P : Guest → Type 0) → IsKept facts place config P
    → (held : List Change) (batch : List BatchEntry) (fits : List Bool) (guests : List Guest)
    → AreAll P guests → AreAll P (told_by (hears_batch held batch) fits guests)
all-hear P k held batch fits guests are =
    all-told P (hears_batch held batch) (λ g p. batch-kept P k held batch g (facts_in g.session) p) k.falls fits guests are

all-informed : {facts : NodeFacts} {place : ℕ} {config : SessionConfig} (P : Guest → Type 0) → IsKept facts place config P
    → (held : List Change) (target : List ℕ) (fits : List Bool) (guests : List Guest)
    → AreAll P guests → AreAll P (told_by (hears_marker held target) fits guests)
all-informed P k held target fits guests are =
    all-told P (hears_marker held target) (λ g p. marker-kept P k held target g (facts_in g.session) p) k.falls fits guests are

-- ---- what happens to a network

server-goes : (P : Guest → Type 0) (o : Option Host) (w : NetworkState) → AreAll P w.guests → AreAll P (without_server o w).guests
server-goes P None w are = are
server-goes P (Some h) w are = are

item-said : (P : Guest → Type 0) (w : NetworkState) (h : Host) (now : ℕ) (o : Option Item) → AreAll P w.guests → AreAll P (after_server_item w h now o).guests
item-said P w h now None are = are
item-said P w h now (Some (whole_line bytes)) are = are
item-said P w h now (Some cut_line) are = are

line-said : (P : Guest → Type 0) (w : NetworkState) (now : ℕ) (o : Option Host) → AreAll P w.guests → AreAll P (after_server_line w now o).guests
line-said P w now None are = are
line-said P w now (Some h) are = item-said P w h now (next_item h.received h.heard) are

said-to : (P : Guest → Type 0) (w : NetworkState) (now : ℕ) (text : List ℕ) (o : Option Host) → AreAll P w.guests → AreAll P (after_saying_to w now text o).guests
said-to P w now text None are = are
said-to P w now text (Some h) are = are

spoken : {facts : NodeFacts} {place : ℕ} {config : SessionConfig} (P : Guest → Type 0) → IsKept facts place config P
    → (w : NetworkState) (at now : ℕ) (g : Guest) (todo : List Effect) → P g → AreAll P w.guests → AreAll P (after_speaking w at now g todo).guests
spoken P k w at now g [] p are = are
spoken P k w at now g (Send text ∷ more) p are = are
spoken P k w at now g (Put change ∷ more) p are = are
spoken P k w at now g (Ask question ∷ more) p are = are
spoken P k w at now g (Upstream text ∷ more) p are =
    all-set P (after_saying_to w now text w.server).guests at (record g { todo = more }) (k.has_done more g p) (said-to P w now text w.server are)
spoken P k w at now g (Close ∷ more) p are = are

speaks : {facts : NodeFacts} {place : ℕ} {config : SessionConfig} (P : Guest → Type 0) → IsKept facts place config P
    → (w : NetworkState) (at now : ℕ) (o : Option Guest) → slice_get w.guests at ≡ o → AreAll P w.guests → AreAll P (after_speaking_of w at now o).guests
speaks P k w at now None e are = are
speaks P k w at now (Some g) e are = spoken P k w at now g g.todo (all-get P w.guests at g e are) are

marked : {facts : NodeFacts} {place : ℕ} {config : SessionConfig} (P : Guest → Type 0) → IsKept facts place config P
    → (w : NetworkState) (at : ℕ) (later : List Change) (fits : List Bool) (g : Guest) (todo : List Effect) → P g → AreAll P w.guests
    → AreAll P (after_marking w at later fits g todo).guests
marked P k w at later fits g [] p are = are
marked P k w at later fits g (Send text ∷ more) p are = are
marked P k w at later fits g (Put (Post r) ∷ more) p are = are
marked P k w at later fits g (Put (Redact buffer id moment) ∷ more) p are = are
marked P k w at later fits g (Put (Mark buffer moment) ∷ more) p are =
    let held : List Change = (w.held ++ Mark buffer moment ∷ []) ++ later in
    let guests : List Guest = told_by (hears_marker held buffer.target) fits w.guests in
    all-set P guests at (record g { todo = more }) (k.has_done more g p) (all-informed P k held buffer.target fits w.guests are)
marked P k w at later fits g (Put (Floor buffer moment) ∷ more) p are = are
marked P k w at later fits g (Put (AccountFloor account moment) ∷ more) p are = are
marked P k w at later fits g (Ask question ∷ more) p are = are
marked P k w at later fits g (Upstream text ∷ more) p are = are
marked P k w at later fits g (Close ∷ more) p are = are

marks : {facts : NodeFacts} {place : ℕ} {config : SessionConfig} (P : Guest → Type 0) → IsKept facts place config P
    → (w : NetworkState) (at : ℕ) (later : List Change) (fits : List Bool) (o : Option Guest) → slice_get w.guests at ≡ o → AreAll P w.guests
    → AreAll P (after_marking_of w at later fits o).guests
marks P k w at later fits None e are = are
marks P k w at later fits (Some g) e are = marked P k w at later fits g g.todo (all-get P w.guests at g e are) are

mark-waited : {facts : NodeFacts} {place : ℕ} {config : SessionConfig} (P : Guest → Type 0) → IsKept facts place config P
    → (w : NetworkState) (at : ℕ) (g : Guest) (todo : List Effect) → P g → AreAll P w.guests → AreAll P (after_waiting_mark w at g todo).guests
mark-waited P k w at g [] p are = are
mark-waited P k w at g (Send text ∷ more) p are = are
mark-waited P k w at g (Put change ∷ more) p are = all-set P w.guests at (record g { todo = more }) (k.has_done more g p) are
mark-waited P k w at g (Ask question ∷ more) p are = are
mark-waited P k w at g (Upstream text ∷ more) p are = are
mark-waited P k w at g (Close ∷ more) p are = are

mark-waits : {facts : NodeFacts} {place : ℕ} {config : SessionConfig} (P : Guest → Type 0) → IsKept facts place config P
    → (w : NetworkState) (at : ℕ) (o : Option Guest) → slice_get w.guests at ≡ o → AreAll P w.guests → AreAll P (after_waiting_mark_of w at o).guests
mark-waits P k w at None e are = are
mark-waits P k w at (Some g) e are = mark-waited P k w at g g.todo (all-get P w.guests at g e are) are

has : {facts : NodeFacts} {place : ℕ} {config : SessionConfig} (P : Guest → Type 0) → IsKept facts place config P
    → (held : List Change) (Stands : Directory → Type 0) (at : ℕ) (event : GuestEvent) (guests : List Guest) (o : Option Guest)
    → ((directory : Directory) → Stands directory → IsDirectory facts directory)
    → slice_get guests at ≡ o → IsTrueOfOption (IsTrueOfGuest facts held Stands event) o
    → AreAll P guests → AreAll P (guests_after held at event guests o)
has P k held Stands at event guests None own e t are = are
has P k held Stands at event guests (Some g) own e t are =
    all-set P guests at (guest_step held event g) (k.happens held Stands event g own t (all-get P guests at g e are)) are

first-put : {facts : NodeFacts} {place : ℕ} {config : SessionConfig} (P : Guest → Type 0) → IsKept facts place config P
    → (count : ℕ) (fits : List Bool) (w : NetworkState) (is_all : Bool) → AreAll P (after_put_of_first count fits w).guests
    → AreAll P (if is_all then after_put_of_first count fits w else without_server w.server (after_put_of_first count fits w)).guests
first-put P k count fits w true are = are
first-put P k count fits w false are = server-goes P w.server (after_put_of_first count fits w) are

-- an event leaves it so
step-kept : {facts : NodeFacts} {place : ℕ} {config : SessionConfig} (P : Guest → Type 0) → IsKept facts place config P
    → slice_get facts.accounts.networks place ≡ Some config
    → (event : NetworkEvent) (w : NetworkState) → w.place ≡ place → w.config ≡ config
    → IsTrueEvent facts w event → AreAll P w.guests → AreAll P (step facts event w).guests
step-kept P k there (ServerComes serial) w at of t are = are
step-kept P k there (ServerGets bytes) w at of t are = are
step-kept P k there (ServerSays now) w at of t are = line-said P w now w.server are
step-kept P k there ServerSkips w at of t are = are
step-kept P k there ServerGoes w at of t are = server-goes P w.server w are
step-kept P k there (Others changes) w at of t are = are
step-kept P k there (Puts later fits) w at of t are = all-hear P k ((w.held ++ changes_of w.batch) ++ later) w.batch fits w.guests are
step-kept P k there (PutsFirst count fits) w at of t are =
    first-put P k count fits w (count == length (changes_of w.batch)) (all-hear P k w.held (first_entries count w.batch) fits w.guests are)
step-kept P k there Loses w at of t are = server-goes P w.server (record w { batch = [] }) are
step-kept {facts} P k there (Comes guest) w at of t are =
    let A : SessionConfig → Type 0 = λ c. IsArrived facts c (entry_of w) guest in
    let J : ℕ → Type 0 = λ p. facts.joined guest.serial p w.joins in
    all-append P w.guests (record guest { joined = Some w.joins } ∷ []) are
    (k.arrives (entry_of w) guest w.joins (subst A of t.0) (subst J at t.1), tt)
step-kept {facts} P k there (Has at event) w place of t are =
    let own : slice_get facts.accounts.networks w.place ≡ Some w.config =
    ap (λ p. slice_get facts.accounts.networks p) place ∙ there ∙ ap Some (sym of) in
    has P k w.held (λ directory. directory ≡ directory_at facts.accounts w.config (entry_of w)) at event w.guests (slice_get w.guests at)
    (λ directory e. subst (λ (d : Directory). IsDirectory facts d) (sym e) (AtMoment w.place w.config (entry_of w) own)) refl t are
step-kept P k there (Speaks at now) w place of t are = speaks P k w at now (slice_get w.guests at) refl are
step-kept P k there (Marks at later fits) w place of t are = marks P k w at later fits (slice_get w.guests at) refl are
step-kept P k there (MarkWaits at) w place of t are = mark-waits P k w at (slice_get w.guests at) refl are
step-kept P k there (Informs target fits) w at of t are = all-informed P k w.held target fits w.guests are
step-kept P k there (Leaves at) w place of t are =
    all-append P (take at w.guests) (drop (suc at) w.guests) (all-take P at w.guests are) (all-drop P (suc at) w.guests are)

run-kept : {facts : NodeFacts} {place : ℕ} {config : SessionConfig} (P : Guest → Type 0) → IsKept facts place config P
    → slice_get facts.accounts.networks place ≡ Some config
    → (log : List NetworkEvent) (w : NetworkState) → w.place ≡ place → w.config ≡ config
    → AreTrue facts w log → AreAll P w.guests → AreAll P (run facts log w).guests
run-kept P k there [] w at of t are = are
run-kept {facts} P k there (event ∷ log) w at of t are =
    let l : IsLater w (step facts event w) = step-later facts event w in
    run-kept P k there log (step facts event w) (l.place ∙ at) (l.config ∙ of) t.1 (step-kept P k there event w at of t.0 are)

run-later : (facts : NodeFacts) (log : List NetworkEvent) (w : NetworkState) → IsLater w (run facts log w)
run-later facts [] w = record { place = refl; config = refl; joins = omega arith }
run-later facts (event ∷ log) w =
    let l : IsLater w (step facts event w) = step-later facts event w in
    let m : IsLater (step facts event w) (run facts log (step facts event w)) = run-later facts log (step facts event w) in
    let one : w.joins ≤ (step facts event w).joins = l.joins in
    let two : (step facts event w).joins ≤ (run facts log (step facts event w)).joins = m.joins in
    record { place = m.place ∙ l.place; config = m.config ∙ l.config; joins = omega (arith, one, two) }

-- What holds of whoever arrives, and is left so, holds of each client of each network that is reached.
pub each-guest : (facts : NodeFacts) (P : ℕ → SessionConfig → Guest → Type 0)
    → ((place : ℕ) (config : SessionConfig) → slice_get facts.accounts.networks place ≡ Some config → IsKept facts place config (P place config))
    → (w : NetworkState) → IsReached facts w → AreAll (P w.place w.config) w.guests
each-guest facts P k w r =
    let first : NetworkState = beginning r.place r.config r.held in
    let last : NetworkState = run facts r.leads.log first in
    let l : IsLater first last = run-later facts r.leads.log first in
    let are : AreAll (P r.place r.config) last.guests = run-kept (P r.place r.config) (k r.place r.config r.is_there) r.is_there r.leads.log first refl refl r.leads.is_true tt in
    let Q : ℕ → SessionConfig → Type 0 = λ place config. AreAll (P place config) last.guests in
    let R : NetworkState → Type 0 = λ v. AreAll (P v.place v.config) v.guests in
    subst R (sym r.leads.is_run) (subst (λ p. Q p last.config) (sym l.place) (subst (λ c. Q r.place c) (sym l.config) are))

-- a network that is reached is as it is configured
pub is-configured : (facts : NodeFacts) (w : NetworkState) → IsReached facts w → slice_get facts.accounts.networks w.place ≡ Some w.config
is-configured facts w r =
    let first : NetworkState = beginning r.place r.config r.held in
    let last : NetworkState = run facts r.leads.log first in
    let l : IsLater first last = run-later facts r.leads.log first in
    let R : NetworkState → Type 0 = λ v. slice_get facts.accounts.networks v.place ≡ Some v.config in
    subst R (sym r.leads.is_run)
    (ap (slice_get facts.accounts.networks) l.place ∙ r.is_there ∙ ap Some (sym l.config))

-- whatever happens to a network, its place and its configuration stay
pub stays-configured : (facts : NodeFacts) (old new : NetworkState) → Leads facts old new → (new.place ≡ old.place) × (new.config ≡ old.config)
stays-configured facts old new k =
    let l : IsLater old (run facts k.log old) = run-later facts k.log old in
    (ap (λ (w : NetworkState). w.place) k.is_run ∙ l.place, ap (λ (w : NetworkState). w.config) k.is_run ∙ l.config)
