-- What happens to the server of a network.
use Rattle.std.proofs.Common.{◌≡◌, ◌+◌, ℕ, List, [], ◌∷◌, ◌++◌, Option, Some, None, Result, Ok, Err, refl, sym, ap, ◌∙◌, subst, append-nil}
use Rattle.std.proofs.Math.Logic.{∥∥₁_map}
use Rattle.cluster_directory.specs.declared.config.SessionConfig.{SessionConfig}
use Rattle.network_log.specs.Facts.{NodeFacts}
use Rattle.network_log.specs.Guest.{next_item}
use Rattle.network_log.specs.Host.{Host, new_host}
use Rattle.network_log.specs.NetworkState.{NetworkState}
use Rattle.network_log.specs.Log.{ServerComes, ServerGets, ServerSays, ServerSkips, ServerGoes, Loses, run, step, without_server}
use Rattle.network_log.specs.Telling.{IsToldToServer}
use Rattle.network_log.specs.Truth.{IsReached, IsSkipped, IsTrueOfHost, Leads, MayBeSkipped}
use Rattle.network_log.specs.declared.origin.Origin.TheVariants.{NetworkDialed}
use Rattle.network_laws.specs.Heard.{ServerIsHeardOverItsConnection}
use Rattle.network_server.specs.ServerEvents.{Becomes}
use Rattle.network_server.specs.declared.server.ServerHearing.{ServerHearing}
use Rattle.network_server.specs.declared.server.ServerHearing.TheVariants as hearing
use Rattle.network_server.specs.declared.server.HearFault.{HearFault}
use Rattle.network_server.specs.declared.server.HearFault.TheVariants as fault
use Rattle.hosted_network.specs.Turns.{events_of}
use Rattle.hosted_network.proofs.LogLemmas.{happens, stays}

-- the server's connection is closed
pub goes : {facts : NodeFacts} {old new : NetworkState} → new ≡ without_server old.server old → Leads facts old new
goes e = happens ServerGoes tt e

-- one is there
pub begins : (facts : NodeFacts) {w now : NetworkState} {h : Host} {place joins first : ℕ} {config : SessionConfig} (serial : ℕ)
    → w ≡ now → place ≡ w.place → joins ≡ w.joins + 1 → first ≡ w.serial → config ≡ w.config
    → h ≡ new_host facts place config serial first
    → record w { joins = joins; server = Some h } ≡ step facts (ServerComes serial) now
begins facts {w} {now} {h} serial is p j f k e =
    let host : h ≡ new_host facts w.place w.config serial w.serial = e ∙ (λ i. new_host facts (p i) (k i) serial (f i)) in
    (λ i. let v : NetworkState = record w { joins = j i; server = Some (host i) } in v) ∙ ap (step facts (ServerComes serial)) is

pub comes : {facts : NodeFacts} {now new : NetworkState} {place joins serial : ℕ} → new ≡ step facts (ServerComes serial) now
    → now.server ≡ None → place ≡ now.place → joins ≡ now.joins
    → facts.came (NetworkDialed place) serial [] → facts.joined serial place joins
    → Leads facts now new
comes {facts} {now} {joins = joins} {serial = serial} e none p j came joined =
    happens (ServerComes serial) (
      none,
      subst (λ (n : ℕ). facts.came (NetworkDialed n) serial []) p came,
      subst (λ (n : ℕ). facts.joined serial now.place n) j (subst (λ (n : ℕ). facts.joined serial n joins) p joined),
    ) e

-- bytes come over its connection
pub got : (facts : NodeFacts) {w now : NetworkState} {before after : Host} (bytes : List ℕ) → w ≡ now → w.server ≡ Some before
    → Becomes facts (ServerGets bytes) before after
    → record w { server = Some after } ≡ step facts (ServerGets bytes) now
got facts {w} bytes is at b = sym (b w at) ∙ ap (step facts (ServerGets bytes)) is

pub gets : {facts : NodeFacts} {w now new : NetworkState} {before : Host} (bytes : List ℕ) → w ≡ now → w.server ≡ Some before
    → new ≡ step facts (ServerGets bytes) now
    → facts.came (NetworkDialed before.network) before.serial (before.received ++ bytes)
    → Leads facts now new
gets {facts} {w} bytes is at e came =
    happens (ServerGets bytes)
    (subst (λ (o : Option Host). IsTrueOfHost facts bytes o) (sym at ∙ ap (λ (v : NetworkState). v.server) is) came) e

-- ---- a line is heard, left out, or lost with all that came before

hears-true : {facts : NodeFacts} {now new : NetworkState} (moment : ℕ) (result : Result ServerHearing HearFault)
    → (result ≡ Ok hearing.LeftOut → IsSkipped now.server) → new ≡ run facts (events_of moment result) now → facts.clock moment
    → Leads facts now new
hears-true moment (Ok hearing.Line) may e clock = record { log = ServerSays moment ∷ []; is_true = (clock, tt); is_run = e }
hears-true moment (Ok hearing.LeftOut) may e clock = record { log = ServerSkips ∷ []; is_true = (may refl, tt); is_run = e }
hears-true moment (Ok hearing.More) may e clock = stays e
hears-true moment (Ok hearing.Full) may e clock = stays e
hears-true moment (Err fault.Again) may e clock = stays e
hears-true moment (Err fault.GivenUp) may e clock = stays e
hears-true moment (Err fault.Lost) may e clock = record { log = ServerSays moment ∷ Loses ∷ []; is_true = (clock, (tt, tt)); is_run = e }

pub hears : {facts : NodeFacts} {w now new : NetworkState} {before : Host} (moment : ℕ) (result : Result ServerHearing HearFault)
    → w ≡ now → w.server ≡ Some before
    → (result ≡ Ok hearing.LeftOut → MayBeSkipped (next_item before.received before.heard))
    → new ≡ run facts (events_of moment result) now → ∥ facts.clock moment ∥₁
    → ∥ Leads facts now new ∥₁
hears moment result is at may e clock =
    ∥∥₁_map clock (hears-true moment result
    (λ r. subst (λ (o : Option Host). IsSkipped o) (sym at ∙ ap (λ (v : NetworkState). v.server) is) (may r)) e)

-- what may be told to it
pub to_server : {facts : NodeFacts} {w now : NetworkState} {h : Host}
    → ((v : NetworkState) (s : Host) → IsReached facts v → v.server ≡ Some s → ServerIsHeardOverItsConnection facts v s)
    → w ≡ now → w.server ≡ Some h → IsReached facts now → IsToldToServer facts h.network h.serial h.received h.told
to_server {facts} {w} {h = h} law is at r =
    let k : IsReached facts w = subst (λ (v : NetworkState). IsReached facts v) (sym is) r in
    record {
      world = w;
      server = h;
      is_reached = k;
      is_place = sym (law w h k at).is_network;
      is_server = at;
      is_serial = refl;
      is_received = refl;
      is_told = ([], append-nil h.told);
    }
