-- Logs that follow one another.
use Rattle.std.proofs.Common.{◌≡◌, ◌<◌, ℕ, List, [], ◌∷◌, ◌++◌, Some, refl, sym, ap, ◌∙◌, subst, get_or, length, arith}
use Rattle.std.specs.Prelude.{slice_get}
use Rattle.std.proofs.lemmas.Option.{slice_get-get_or}
use Rattle.std.proofs.Math.Logic.{∥∥₁_map₂}
use Rattle.chat_change.specs.declared.change.Change.{Change}
use Rattle.cluster_directory.specs.declared.config.SessionConfig.{SessionConfig}
use Rattle.network_log.specs.Facts.{NodeFacts}
use Rattle.network_log.specs.Guest.{Guest}
use Rattle.network_log.specs.NetworkState.{NetworkState, beginning}
use Rattle.network_log.specs.Log.{NetworkEvent, Others, step, run}
use Rattle.network_log.specs.Putting.{IsSeen, Same, More}
use Rattle.network_log.specs.Truth.{AreTrue, IsTrueEvent, IsReached, Leads}

run-append : (facts : NodeFacts) (log more : List NetworkEvent) (w : NetworkState) → run facts (log ++ more) w ≡ run facts more (run facts log w)
run-append facts [] more w = refl
run-append facts (event ∷ log) more w = run-append facts log more (step facts event w)

true-append : (facts : NodeFacts) (log more : List NetworkEvent) (w : NetworkState)
    → AreTrue facts w log → AreTrue facts (run facts log w) more → AreTrue facts w (log ++ more)
true-append facts [] more w h m = m
true-append facts (event ∷ log) more w h m = (h.0, true-append facts log more (step facts event w) h.1 m)

-- nothing happens
pub stays : {facts : NodeFacts} {old new : NetworkState} → new ≡ old → Leads facts old new
stays e = record { log = []; is_true = tt; is_run = e }

-- one thing happens
pub happens : {facts : NodeFacts} {old new : NetworkState} (event : NetworkEvent) → IsTrueEvent facts old event → new ≡ step facts event old → Leads facts old new
happens event h e = record { log = event ∷ []; is_true = (h, tt); is_run = e }

-- one log, and then another
pub and_then : {facts : NodeFacts} {old mid new : NetworkState} → Leads facts old mid → Leads facts mid new → Leads facts old new
and_then {facts} {old} {mid} {new} a b = record {
  log = a.log ++ b.log;
  is_true = true-append facts a.log b.log old a.is_true (subst (λ (w : NetworkState). AreTrue facts w b.log) a.is_run b.is_true);
  is_run = b.is_run ∙ ap (run facts b.log) a.is_run ∙ sym (run-append facts a.log b.log old);
}

pub reached : {facts : NodeFacts} {old new : NetworkState} → IsReached facts old → Leads facts old new → IsReached facts new
reached r l = record {
  place = r.place;
  config = r.config;
  held = r.held;
  is_there = r.is_there;
  is_held = r.is_held;
  leads = and_then r.leads l;
}

pub then_both : {facts : NodeFacts} {old mid new : NetworkState} → ∥ Leads facts old mid ∥₁ → ∥ Leads facts mid new ∥₁ → ∥ Leads facts old new ∥₁
then_both a b = ∥∥₁_map₂ a b (λ l m. and_then l m)

pub reached_both : {facts : NodeFacts} {old new : NetworkState} → ∥ IsReached facts old ∥₁ → ∥ Leads facts old new ∥₁ → ∥ IsReached facts new ∥₁
reached_both a b = ∥∥₁_map₂ a b (λ r l. reached r l)

-- from what it is now, if it is that
pub from : {facts : NodeFacts} {w now new : NetworkState} → w ≡ now → Leads facts w new → Leads facts now new
from {facts} {new = new} is l = subst (λ (v : NetworkState). Leads facts v new) is l

-- the node was seen again
pub sees : {facts : NodeFacts} {w : NetworkState} {held : List Change} → IsSeen facts w.held held → Leads facts w (record w { held = held })
sees {w = w} (Same e) = stays (ap (λ (h : List Change). let v : NetworkState = record w { held = h } in v) e)
sees {facts} {w} (More changes e h) =
    happens (Others changes) (subst facts.held e h) (ap (λ (h : List Change). let v : NetworkState = record w { held = h } in v) e)

-- it begins
pub begun : {facts : NodeFacts} {w : NetworkState} {place : ℕ} {config : SessionConfig} {held : List Change}
    → slice_get facts.accounts.networks place ≡ Some config → w ≡ beginning place config held → facts.held held → IsReached facts w
begun {place = place} {config} {held} at e h = record {
  place = place;
  config = config;
  held = held;
  is_there = at;
  is_held = h;
  leads = stays e;
}

-- ---- a client at its place

pub there : (guests : List Guest) (place : ℕ) → place < length guests → (g : Guest) × (slice_get guests place ≡ Some g)
there [] place h = absurd (omega (arith, h))
there (g ∷ guests) place h = (get_or (g ∷ guests) place g, slice_get-get_or (g ∷ guests) place g h)
