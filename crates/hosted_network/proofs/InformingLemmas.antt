-- How a read marker that rose is told.
use Rattle.std.proofs.Common.{◌≡◌, Bool, true, ℕ, List, [], ◌∷◌, ◌++◌, Option, Some, None, if◌then◌else◌, refl, sym, ap, ◌∙◌, subst, length, append-nil}
use Rattle.std.specs.Prelude.{slice_get, false}
use Rattle.std.proofs.Math.Logic.{∥∥₁_map}
use Rattle.chat_change.specs.Buffer.{Buffer, buffer_of}
use Rattle.chat_change.specs.declared.change.Change.{Change}
use Rattle.chat_history.specs.History.{mark}
use Rattle.chat_query.specs.declared.facts.Facts.{Facts}
use Rattle.client_session.specs.Session.{facts_in}
use Rattle.network_log.specs.Facts.{NodeFacts}
use Rattle.network_log.specs.Following.{AreToldBy}
use Rattle.network_log.specs.Guest.{Guest}
use Rattle.network_log.specs.Host.{Entered}
use Rattle.network_log.specs.NetworkState.{MarkerTold, NetworkState, is_further, last_told, marker_noted, told_by, with_told}
use Rattle.network_log.specs.Log.{Informs}
use Rattle.network_log.specs.Share.{hears_batch, hears_marker, marker_text, told_to, with_batch, with_text}
use Rattle.network_log.specs.Telling.{IsToldToClient}
use Rattle.network_log.specs.Putting.{IsSeen}
use Rattle.network_log.specs.Truth.{IsReached, Leads}
use Rattle.hosted_network.specs.Informing.{HasRisen}
use Rattle.hosted_network.proofs.LogLemmas.{from, happens, reached, sees, stays}
use Rattle.hosted_network.proofs.TellingLemmas.{all_fit, all_fit-length, may_hear}

-- ---- a marker is told as the batch of a channel that was entered

by-facts : (held : List Change) (target : List ℕ) (g : Guest) (o : Option Facts)
    → with_batch held (Entered target ∷ []) g o ≡ with_text (λ f. marker_text held f target) g o
by-facts held target g None = refl
by-facts held target g (Some f) =
    ap (λ (t : List ℕ). if g.is_gone then g else (let h : Guest = record g { told = g.told ++ t } in h)) (append-nil (marker_text held f target))

pub as-batch : (held : List Change) (target : List ℕ) (g : Guest) → hears_batch held (Entered target ∷ []) g ≡ hears_marker held target g
as-batch held target g = by-facts held target g (facts_in g.session)

told-alike : (held : List Change) (target : List ℕ) (fits : List Bool) (guests : List Guest)
    → told_by (hears_batch held (Entered target ∷ [])) fits guests ≡ told_by (hears_marker held target) fits guests
told-alike held target fits guests = λ i. told_by (λ g. as-batch held target g i) fits guests

-- ---- what it comes to

-- the network once it is told to those that fit
informed : NetworkState → Buffer → ℕ → List ℕ → List Bool → NetworkState
informed w buffer at target fits = record w {
  markers = with_told buffer at w.markers;
  guests = told_by (hears_batch w.held (Entered target ∷ [])) fits w.guests;
}

rises : {facts : NodeFacts} {w : NetworkState} {buffer : Buffer} {at : ℕ} (target : List ℕ) (fits : List Bool) → HasRisen w buffer at
    → buffer ≡ buffer_of w.config.account w.config.network target
    → length fits ≡ length w.guests → Leads facts w (informed w buffer at target fits)
unfolding informed
rises {facts} {w} {buffer} {at} target fits r b many =
    happens (Informs target fits) (
      many,
      subst (λ (d : Buffer). is_further (mark w.held d) (last_told w.markers d) ≡ true) b
          (subst (λ (m : Option ℕ). is_further m (last_told w.markers buffer) ≡ true) (sym r.is_marker) r.is_further),
    )
    (λ i. let v : NetworkState = record w {
      markers = (ap (λ (m : Option ℕ). marker_noted buffer m w.markers) (sym r.is_marker) ∙ ap (λ (d : Buffer). marker_noted d (mark w.held d) w.markers) b) i;
      guests = told-alike w.held target fits w.guests i;
    } in v)

risen-so : {facts : NodeFacts} {w new : NetworkState} {buffer : Buffer} {at : ℕ} {markers : List MarkerTold} (target : List ℕ) → HasRisen w buffer at
    → buffer ≡ buffer_of w.config.account w.config.network target
    → AreToldBy (hears_batch w.held (Entered target ∷ [])) (length w.guests) w.guests new.guests
    → markers ≡ with_told buffer at w.markers
    → new ≡ (let v : NetworkState = record w { markers = markers; guests = new.guests } in v)
    → Leads facts w new
unfolding informed
risen-so {facts} {w} {new} {buffer} {at} {markers} target r b k m e =
    subst (λ (v : NetworkState). Leads facts w v)
    (sym (e ∙ (λ i. let v : NetworkState = record w { markers = m i; guests = k.is_new i } in v)))
    (rises target k.fits r b k.is_count)

-- it was noted, and told
pub risen : {facts : NodeFacts} {w now new : NetworkState} {buffer : Buffer} {at : ℕ} {markers : List MarkerTold} (target : List ℕ) → w ≡ now → HasRisen now buffer at
    → buffer ≡ buffer_of now.config.account now.config.network target
    → markers ≡ with_told buffer at w.markers
    → new ≡ (let v : NetworkState = record w { markers = markers; guests = new.guests } in v)
    → AreToldBy (hears_batch w.held (Entered target ∷ [])) (length w.guests) w.guests new.guests
    → Leads facts now new
risen {facts} {w} {now} {new} {buffer} {at} target is r b m e k =
    from is (risen-so {w = w} target
    (subst (λ (v : NetworkState). HasRisen v buffer at) (sym is) r)
    (subst (λ (v : NetworkState). buffer ≡ buffer_of v.config.account v.config.network target) (sym is) b) k m e)

may-rise : {facts : NodeFacts} {w : NetworkState} {buffer : Buffer} {at : ℕ} (target : List ℕ) → HasRisen w buffer at
    → buffer ≡ buffer_of w.config.account w.config.network target → ∥ IsReached facts w ∥₁
    → (place : ℕ) (g : Guest) (f : Facts) → slice_get w.guests place ≡ Some g → g.is_gone ≡ false → facts_in g.session ≡ Some f
    → ∥ IsToldToClient facts g.serial g.received (g.told ++ told_to w.held f g.nick (Entered target ∷ [])) ∥₁
unfolding informed
may-rise {facts} {w} {buffer} {at} target r b reach place g f spot gone has =
    ∥∥₁_map reach (λ q. may_hear facts w.guests (Entered target ∷ []) w.held place g f spot gone has
    (informed w buffer at target (all_fit w.guests)) (reached q (rises target (all_fit w.guests) r b (all_fit-length w.guests))) refl)

-- each client may be told it
pub may_rise : {facts : NodeFacts} {w now : NetworkState} {buffer : Buffer} {at : ℕ} (target : List ℕ) → w ≡ now → HasRisen now buffer at
    → buffer ≡ buffer_of now.config.account now.config.network target → ∥ IsReached facts now ∥₁
    → (place : ℕ) (g : Guest) (f : Facts) → slice_get w.guests place ≡ Some g → g.is_gone ≡ false → facts_in g.session ≡ Some f
    → ∥ IsToldToClient facts g.serial g.received (g.told ++ told_to w.held f g.nick (Entered target ∷ [])) ∥₁
may_rise {facts} {w} target is r b reach =
    subst (λ (v : NetworkState). (place : ℕ) (g : Guest) (f : Facts) → slice_get v.guests place ≡ Some g → g.is_gone ≡ false → facts_in g.session ≡ Some f
    → ∥ IsToldToClient facts g.serial g.received (g.told ++ told_to v.held f g.nick (Entered target ∷ [])) ∥₁)
    (sym is) (may-rise target r b reach)

-- it could not be noted, and nothing happened
pub not_noted : {facts : NodeFacts} {w now : NetworkState} {markers : List MarkerTold} → w ≡ now → markers ≡ w.markers
    → Leads facts now (let v : NetworkState = record w { markers = markers } in v)
not_noted {w = w} is m = stays ((λ i. let v : NetworkState = record w { markers = m i } in v) ∙ is)

-- ---- the node was seen again

pub seen_again : {facts : NodeFacts} {old new : NetworkState} → new ≡ (let v : NetworkState = record old { held = new.held } in v) → ∥ IsSeen facts old.held new.held ∥₁ → ∥ Leads facts old new ∥₁
seen_again {facts} {old} e s = ∥∥₁_map s (λ k. subst (λ (v : NetworkState). Leads facts old v) (sym e) (sees k))

-- through its view
pub seen_by_view : {w now : NetworkState} {place : ℕ} {puts : List Change} (held : List Change) → w ≡ now → place ≡ w.place → puts ≡ w.puts
    → (let v : NetworkState = record w { place = place; puts = puts; held = held } in v) ≡ (let v : NetworkState = record now { held = held } in v)
seen_by_view {w} held is p q =
    (λ i. let v : NetworkState = record w { place = p i; puts = q i; held = held } in v)
    ∙ ap (λ (x : NetworkState). let v : NetworkState = record x { held = held } in v) is
