-- A client of a network stays in it.
use Rattle.std.proofs.Common.{◌≡◌, ℕ, Bool, List, [], ◌∷◌, Option, Some, None, sym, subst, ◌∙◌}
use Rattle.std.specs.Prelude.{slice_get}
use Rattle.std.proofs.lemmas.Option.{same_Some}
use Rattle.irc_line.specs.Stream.{Item, line as whole_line, too_long as cut_line}
use Rattle.chat_change.specs.declared.change.Change.{Change}
use Rattle.chat_query.specs.Answers.{Answer}
use Rattle.chat_query.specs.declared.facts.Answered.{Answered}
use Rattle.chat_query.specs.declared.facts.Facts.{Facts}
use Rattle.cluster_directory.specs.Directory.{Directory}
use Rattle.cluster_directory.specs.declared.config.SessionConfig.{SessionConfig}
use Rattle.client_session.specs.declared.effect.Effect.{Effect}
use Rattle.client_session.specs.declared.effect.Effect.TheVariants.{Send, Put, Ask, Upstream, Close}
use Rattle.client_session.specs.declared.stage.Stage.{Stage}
use Rattle.client_session.specs.declared.stage.Stage.TheVariants.{Waiting, Registered, Closed}
use Rattle.client_session.specs.Events.{ClientEvent, IsOfSame, Line, CutLine, run}
use Rattle.client_session.specs.Session.{facts_in, session_after}
use Rattle.network_log.specs.Facts.{NodeFacts}
use Rattle.network_log.specs.Guest.{Guest, GuestEvent, Gets, Hears, Says, Asks, Closes, Offers, Falls, next_item, guest_step, step_of, after_item, after_saying, after_asking, after_answer, after_closing, answer_to}
use Rattle.network_log.specs.NetworkState.{NetworkState}
use Rattle.network_log.specs.Truth.{IsReached}
use Rattle.network_laws.specs.LetIn.{IsOfNetwork}
use Rattle.network_laws.proofs.GuestsLemmas.{AreAll, IsKept, all-get, each-guest}

-- what the session's laws say
abbrev pub NeverChange : Type 0
NeverChange = (f : Facts) (events : List ClientEvent) → IsOfSame f (run (Registered f) events)

abbrev pub StaysClosed : Type 0
StaysClosed = (events : List ClientEvent) → run Closed events ≡ Closed

own-same : (config : SessionConfig) (f : Facts) (session : Stage) → IsOfNetwork config (Registered f) → IsOfSame f session → IsOfNetwork config session
own-same config f (Waiting w) own same = absurd same
own-same config f (Registered g) own same = (same.0 ∙ own.0, same.1 ∙ own.1)
own-same config f Closed own same = tt

own-step : NeverChange → StaysClosed → (config : SessionConfig) (directory : Directory) (shown : Bool) (session : Stage) (item : Item)
    → IsOfNetwork config session → IsOfNetwork config (step_of directory shown session item).session
own-step law closed config directory shown (Waiting w) item own = absurd own
own-step law closed config directory shown (Registered f) (whole_line bytes) own =
    own-same config f (run (Registered f) (Line directory shown bytes ∷ [])) own (law f (Line directory shown bytes ∷ []))
own-step law closed config directory shown (Registered f) cut_line own =
    own-same config f (run (Registered f) (CutLine directory ∷ [])) own (law f (CutLine directory ∷ []))
own-step law closed config directory shown Closed (whole_line bytes) own = subst (λ s. IsOfNetwork config s) (sym (closed (Line directory shown bytes ∷ []))) tt
own-step law closed config directory shown Closed cut_line own = tt

own-item : NeverChange → StaysClosed → (config : SessionConfig) (directory : Directory) (shown : Bool) (g : Guest) (o : Option Item)
    → IsOfNetwork config g.session → IsOfNetwork config (after_item directory shown g o).session
own-item law closed config directory shown g None own = own
own-item law closed config directory shown g (Some item) own = own-step law closed config directory shown g.session item own

own-said : (config : SessionConfig) (g : Guest) (todo : List Effect) → IsOfNetwork config g.session → IsOfNetwork config (after_saying g todo).session
own-said config g [] own = own
own-said config g (Send text ∷ more) own = own
own-said config g (Put change ∷ more) own = own
own-said config g (Ask question ∷ more) own = own
own-said config g (Upstream text ∷ more) own = own
own-said config g (Close ∷ more) own = own

own-answered : (config : SessionConfig) (session : Stage) (answered : Answered) → IsOfNetwork config session → IsOfNetwork config (session_after session answered)
own-answered config (Waiting w) answered own = own
own-answered config (Registered f) answered own = own
own-answered config Closed answered own = own

own-answer : (config : SessionConfig) (g : Guest) (more : List Effect) (o : Option Answer) → IsOfNetwork config g.session → IsOfNetwork config (after_answer g more o).session
own-answer config g more None own = own
own-answer config g more (Some answer) own = own-answered config g.session answer.answered own

own-asked : (config : SessionConfig) (held : List Change) (g : Guest) (todo : List Effect) → IsOfNetwork config g.session → IsOfNetwork config (after_asking held g todo).session
own-asked config held g [] own = own
own-asked config held g (Send text ∷ more) own = own
own-asked config held g (Put change ∷ more) own = own
own-asked config held g (Ask question ∷ more) own = own-answer config g more (answer_to held (facts_in g.session) question) own
own-asked config held g (Upstream text ∷ more) own = own
own-asked config held g (Close ∷ more) own = own

own-closed : (config : SessionConfig) (g : Guest) (todo : List Effect) → IsOfNetwork config g.session → IsOfNetwork config (after_closing g todo).session
own-closed config g [] own = own
own-closed config g (Send text ∷ more) own = own
own-closed config g (Put change ∷ more) own = own
own-closed config g (Ask question ∷ more) own = own
own-closed config g (Upstream text ∷ more) own = own
own-closed config g (Close ∷ more) own = own

pub own-event : NeverChange → StaysClosed → (config : SessionConfig) (held : List Change) (event : GuestEvent) (g : Guest)
    → IsOfNetwork config g.session → IsOfNetwork config (guest_step held event g).session
own-event law closed config held (Gets bytes) g own = own
own-event law closed config held (Hears directory shown) g own = own-item law closed config directory shown g (next_item g.received g.heard) own
own-event law closed config held Says g own = own-said config g g.todo own
own-event law closed config held Asks g own = own-asked config held g g.todo own
own-event law closed config held Closes g own = own-closed config g g.todo own
own-event law closed config held (Offers count) g own = own
own-event law closed config held Falls g own = own

pub own-arrived : (config : SessionConfig) (session : Stage) (f : Facts) → facts_in session ≡ Some f → f.account ≡ config.account → f.network ≡ config.network
    → IsOfNetwork config session
own-arrived config (Waiting w) f e account network = absurd (cc e)
own-arrived config (Registered g) f e account network =
    subst (λ (h : Facts). (h.account ≡ config.account) × (h.network ≡ config.network)) (sym (same_Some g f e)) (account, network)
own-arrived config Closed f e account network = tt

own-kept : (facts : NodeFacts) → NeverChange → StaysClosed → (place : ℕ) (config : SessionConfig) → slice_get facts.accounts.networks place ≡ Some config
    → IsKept facts place config (λ g. IsOfNetwork config g.session)
own-kept facts law closed place config there = record {
  arrives = λ entry g joins a j. own-arrived config g.session a.f a.is_registered a.is_account a.is_network;
  happens = λ held Stands event g own t k. own-event law closed config held event g k;
  is_told = λ told nick g k. k;
  has_done = λ todo g k. k;
  falls = λ g k. k;
}

pub guest-stays : (facts : NodeFacts) → NeverChange → StaysClosed → (w : NetworkState) (at : ℕ) (g : Guest) → IsReached facts w → slice_get w.guests at ≡ Some g
    → IsOfNetwork w.config g.session
guest-stays facts law closed w at g r e =
    let all : AreAll (λ g. IsOfNetwork w.config g.session) w.guests =
    each-guest facts (λ place config g. IsOfNetwork config g.session) (own-kept facts law closed) w r in
    all-get (λ g. IsOfNetwork w.config g.session) w.guests at g e all
