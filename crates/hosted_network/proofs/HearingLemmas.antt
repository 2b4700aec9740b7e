-- What a client hears and asks.
use Rattle.std.proofs.Common.{◌≡◌, ◌<◌, ℕ, Bool, true, false, List, [], ◌∷◌, Option, Some, None, refl, sym, ap, ◌∙◌, subst, length, slice_index_or, slice_set}
use Rattle.std.specs.Prelude.{slice_get, Result, Ok, Err, IfOk, OnErr}
use Rattle.std.proofs.Math.Logic.{∥∥₁_map, ∥∥₁_map₂}
use Rattle.irc_line.specs.Stream.{Item}
use Rattle.chat_change.specs.declared.change.Change.{Change}
use Rattle.chat_query.specs.declared.past.AskFault.{AskFault}
use Rattle.cluster_directory.specs.Directory.{Directory}
use Rattle.client_session.specs.Step.{Step}
use Rattle.client_session.specs.declared.session.StepFault.{StepFault}
use Rattle.network_log.specs.Accounts.{directory_at}
use Rattle.network_log.specs.Facts.{NodeFacts}
use Rattle.network_log.specs.Guest.{Guest, Hears, Asks, Falls, after_item, after_step, fallen, guest_step, next_item, step_of}
use Rattle.network_log.specs.NetworkState.{NetworkState, entry_of}
use Rattle.network_log.specs.Putting.{IsSeen}
use Rattle.network_log.specs.Truth.{IsReached, Leads}
use Rattle.network_laws.specs.LetIn.{IsOfNetwork}
use Rattle.network_client.specs.Steps.{IsHeardIn}
use Rattle.hosted_network.specs.Standing.{StandsSo}
use Rattle.hosted_network.proofs.LogLemmas.{and_then, from, sees}
use Rattle.hosted_network.proofs.GuestLemmas.{client_leads, spot}
use Rattle.hosted_network.proofs.StandingLemmas.{heard_alike}

same-item : (directory full : Directory) (shown : Bool) (g : Guest) (next : Option Item)
    → ((item : Item) → step_of directory shown g.session item ≡ step_of full shown g.session item)
    → after_item directory shown g next ≡ after_item full shown g next
same-item directory full shown g None same = refl
same-item directory full shown g (Some item) same = ap (λ (s : Step). after_step s g) (same item)

-- a client's session heard a line
pub heard : {facts : NodeFacts} {w now : NetworkState} {held : List Change} {place : ℕ} {g new : Guest} {directory : Directory}
    → w ≡ now → place < length now.guests → g ≡ slice_index_or w.guests place g
    → StandsSo facts.accounts.directory w.config (entry_of w) directory → IsOfNetwork w.config g.session
    → IsSeen facts w.held held → IsHeardIn held directory g new
    → Leads facts now (record w { held = held; guests = slice_set w.guests place new })
heard {facts} {w} {held = held} {place} {g} {new} {directory} is within at so own seen k =
    let full : Directory = directory_at facts.accounts w.config (entry_of w) in
    let next : NetworkState = record w { held = held } in
    from is (and_then (sees seen)
    (client_leads {w = next} place (Hears full k.shown ∷ []) (spot is within at)
    ((k.is_there, k.is_done, refl, k.is_sought), tt)
    (k.is_after ∙ same-item directory full k.shown g (next_item g.received g.heard)
    (λ item. heard_alike facts.accounts.directory w.config (entry_of w) directory k.shown g.session item so own))))

-- the node was seen again, and a client is gone
pub seen_fallen : {facts : NodeFacts} {w now : NetworkState} {held : List Change} {place : ℕ} {g new : Guest}
    → w ≡ now → place < length now.guests → g ≡ slice_index_or w.guests place g
    → IsSeen facts w.held held → new ≡ fallen g
    → Leads facts now (record w { held = held; guests = slice_set w.guests place new })
seen_fallen {w = w} {held = held} {place = place} is within at seen e =
    from is (and_then (sees seen) (client_leads {w = record w { held = held }} place (Falls ∷ []) (spot is within at) (tt, tt) e))

-- the node was seen again, and nothing happened to a client
pub seen_same : {facts : NodeFacts} {w now : NetworkState} {held : List Change} {place : ℕ} {g new : Guest}
    → w ≡ now → place < length now.guests → g ≡ slice_index_or w.guests place g
    → IsSeen facts w.held held → new ≡ g
    → Leads facts now (record w { held = held; guests = slice_set w.guests place new })
seen_same {w = w} {held = held} {place = place} is within at seen e =
    from is (and_then (sees seen) (client_leads {w = record w { held = held }} place [] (spot is within at) tt e))

-- a client's question is answered
pub asked : {facts : NodeFacts} {w now : NetworkState} {held : List Change} {place : ℕ} {g new : Guest}
    → w ≡ now → place < length now.guests → g ≡ slice_index_or w.guests place g
    → g.is_gone ≡ false → IsSeen facts w.held held → new ≡ guest_step held Asks g
    → Leads facts now (record w { held = held; guests = slice_set w.guests place new })
asked {w = w} {held = held} {place = place} is within at there seen e =
    from is (and_then (sees seen) (client_leads {w = record w { held = held }} place (Asks ∷ []) (spot is within at) (there, tt) e))

-- ---- by what a call answers

-- the place and what was put are as before
pub moved : {facts : NodeFacts} {w now : NetworkState} (held : List Change) (guests : List Guest) {place : ℕ} {puts : List Change}
    → w ≡ now → place ≡ w.place → puts ≡ w.puts
    → ∥ Leads facts now (record w { held = held; guests = guests }) ∥₁
    → ∥ Leads facts now (record w { place = place; puts = puts; held = held; guests = guests }) ∥₁
moved {facts} {w} {now} held guests {place} {puts} is e k l =
    let path : (record w { held = held; guests = guests }) ≡ (record w { place = place; puts = puts; held = held; guests = guests }) =
    λ i. let v : NetworkState = record w { place = sym e i; puts = sym k i; held = held; guests = guests } in v in
    subst (λ (v : NetworkState). ∥ Leads facts now v ∥₁) path l

pub hears_so : {facts : NodeFacts} {w now : NetworkState} {held : List Change} {place : ℕ} {g : Guest} (new : Guest) {directory : Directory} (result : Result Bool StepFault)
    → w ≡ now → place < length now.guests → g ≡ slice_index_or w.guests place g
    → StandsSo facts.accounts.directory w.config (entry_of w) directory → ∥ IsOfNetwork w.config g.session ∥₁
    → ∥ IsSeen facts w.held held ∥₁
    → IfOk result (λ heard. heard ≡ true → ∥ IsHeardIn held directory g new ∥₁)
    → IfOk result (λ heard. heard ≡ false → new ≡ g)
    → OnErr result (new ≡ fallen g)
    → ∥ Leads facts now (record w { held = held; guests = slice_set w.guests place new }) ∥₁
hears_so {facts} {w} {now} {held} {place} {g} new {directory} (Ok true) is within at so own seen k same fell =
    let both : ∥ IsSeen facts w.held held × IsHeardIn held directory g new ∥₁ = ∥∥₁_map₂ seen (k refl) (λ s h. (s, h)) in
    ∥∥₁_map₂ own both (λ o p. heard is within at so o p.0 p.1)
hears_so new (Ok false) is within at so own seen k same fell = ∥∥₁_map seen (λ s. seen_same is within at s (same refl))
hears_so new (Err fault) is within at so own seen k same fell = ∥∥₁_map seen (λ s. seen_fallen is within at s fell)

-- a client of the network that is reached is of its account and network
pub own_of : {facts : NodeFacts} {w now : NetworkState} {place : ℕ} {g : Guest}
    → w ≡ now → place < length now.guests → g ≡ slice_index_or w.guests place g
    → ((w : NetworkState) (place : ℕ) (g : Guest) → IsReached facts w → slice_get w.guests place ≡ Some g → IsOfNetwork w.config g.session)
    → ∥ IsReached facts now ∥₁ → ∥ IsOfNetwork w.config g.session ∥₁
own_of {facts} {w} {now} {place} {g} is within at law r =
    ∥∥₁_map r (λ k. law w place g (subst (λ (v : NetworkState). IsReached facts v) (sym is) k) (spot is within at))

pub asks_so : {facts : NodeFacts} {w now : NetworkState} {held : List Change} {place : ℕ} {g : Guest} (new : Guest) (result : Result (Unit {0}) AskFault)
    → w ≡ now → place < length now.guests → g ≡ slice_index_or w.guests place g → g.is_gone ≡ false
    → ∥ IsSeen facts w.held held ∥₁
    → IfOk result (λ _. new ≡ guest_step held Asks g)
    → OnErr result (new ≡ g)
    → ∥ Leads facts now (record w { held = held; guests = slice_set w.guests place new }) ∥₁
asks_so new (Ok u) is within at there seen k same = ∥∥₁_map seen (λ s. asked is within at there s k)
asks_so new (Err fault) is within at there seen k same = ∥∥₁_map seen (λ s. seen_same is within at s same)
