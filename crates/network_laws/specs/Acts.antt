-- What was done of what clients' sessions had to do.
use Rattle.std.specs.Prelude.{ℕ, ◌≡◌, List, [], ◌∷◌, ◌++◌}
use mathlib.Core.List.{IsPrefix}
use Rattle.cluster_directory.specs.declared.config.SessionConfig.{SessionConfig}
use Rattle.client_session.specs.declared.effect.Effect.{Effect}
use Rattle.client_session.specs.declared.stage.Stage.{Stage}
use Rattle.client_session.specs.Events.{ClientEvent, after, effects_of}
use Rattle.client_session.specs.Session.{new}
use Rattle.network_log.specs.Facts.{NodeFacts}
use Rattle.network_log.specs.Guest.{Guest}
use Rattle.network_laws.specs.Heard.{IsHeardOverItsConnection}
use Rattle.network_laws.specs.LetIn.{HasLoggedIn}
use Rattle.network_laws.specs.Own.{PutsOwnMark}

-- all that a session has to do by what happens to it, in order
abbrev pub all_effects : Stage → List ClientEvent → List Effect
all_effects session [] = []
all_effects session (event ∷ events) = effects_of session event ++ all_effects (after session event) events

-- Something was done that a client's session had to do: the number of the client's connection, behind how many others that joined the
-- network, what the session had to do before, in order, and what it was.
pub record Act : Type 0 where
  pub serial : ℕ
  pub joins : ℕ
  pub before : List Effect
  pub effect : Effect

-- A client of that network had to do it, by what came over its own connection, over which it was let in by the account's secret. If it is
-- a change, it is a read marker of that account and network.
pub record IsActOf (facts : NodeFacts) (place : ℕ) (config : SessionConfig) (a : Act) : Type 0 where
  pub client : Guest
  pub is_heard : IsHeardOverItsConnection facts place client
  pub has_logged_in : HasLoggedIn facts config client
  pub is_serial : client.serial ≡ a.serial
  pub is_joins : is_heard.joins ≡ a.joins
  pub is_there : IsPrefix (a.before ++ a.effect ∷ []) (all_effects (new facts.cluster facts.maximum) is_heard.events)
  pub is_own : PutsOwnMark config a.effect

abbrev pub AreActsOf : NodeFacts → ℕ → SessionConfig → List Act → Type 0
AreActsOf facts place config [] = Unit {0}
AreActsOf facts place config (a ∷ acts) = IsActOf facts place config a × AreActsOf facts place config acts

-- those of the client that joined behind so many others are all among the first that its session had to do, which are these
abbrev pub AreAmong : ℕ → List Effect → List Act → Type 0
AreAmong joins done [] = Unit {0}
AreAmong joins done (a ∷ acts) =
    (a.joins ≡ joins → IsPrefix (a.before ++ a.effect ∷ []) done) × AreAmong joins done acts

-- of these, the latest first, none is there twice, and those of one client are in their order
abbrev pub AreOnce : List Act → Type 0
AreOnce [] = Unit {0}
AreOnce (a ∷ acts) = AreAmong a.joins a.before acts × AreOnce acts
