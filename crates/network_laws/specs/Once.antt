-- That no connection is there twice.
use Rattle.std.specs.Prelude.{ℕ, ◌≡◌, List, [], ◌∷◌, ◌++◌, length}
use Rattle.cluster_directory.specs.declared.config.SessionConfig.{SessionConfig}
use Rattle.upstream_session.specs.Events.{ids_made}
use Rattle.network_log.specs.Facts.{NodeFacts}
use Rattle.network_log.specs.Log.{NetworkEvent, ServerComes, Comes}
use Rattle.network_laws.specs.Acts.{Act}
use Rattle.network_laws.specs.Streams.{Stream, begun}

-- A connection joins a network once. Whatever joins one keeps that.
abbrev pub JoinsOnce : NodeFacts → Type 0
JoinsOnce facts =
    (serial place one other : ℕ) → facts.joined serial place one → facts.joined serial place other → one ≡ other

-- the numbers of the connections that come, in order
abbrev pub comers : List NetworkEvent → List ℕ
comers [] = []
comers (ServerComes serial ∷ log) = serial ∷ comers log
comers (Comes guest ∷ log) = guest.serial ∷ comers log
comers (_ ∷ log) = comers log

-- none of these is that number
abbrev pub IsNone : ℕ → List ℕ → Type 0
IsNone serial [] = Unit {0}
IsNone serial (other ∷ serials) = (other ≡ serial → ⊥) × IsNone serial serials

-- no number is there twice
abbrev pub AreDifferent : List ℕ → Type 0
AreDifferent [] = Unit {0}
AreDifferent (serial ∷ serials) = IsNone serial serials × AreDifferent serials

-- the numbers of these connections
abbrev pub serials_of : List Stream → List ℕ
serials_of [] = []
serials_of (s ∷ streams) = s.serial ∷ serials_of streams

-- none of these stands at the same place of what the client at the same connection had to do
abbrev pub IsNoAct : Act → List Act → Type 0
IsNoAct a [] = Unit {0}
IsNoAct a (other ∷ acts) = (other.serial ≡ a.serial → length other.before ≡ length a.before → ⊥) × IsNoAct a acts

-- nothing is there twice that a client had to do
abbrev pub AreDifferentActs : List Act → Type 0
AreDifferentActs [] = Unit {0}
AreDifferentActs (a ∷ acts) = IsNoAct a acts × AreDifferentActs acts

-- the ids that the sessions of these made, those of the latest first
abbrev pub ids_over : NodeFacts → SessionConfig → List Stream → List (List ℕ)
ids_over facts config [] = []
ids_over facts config (s ∷ streams) = ids_made (begun facts config s) s.events ++ ids_over facts config streams
