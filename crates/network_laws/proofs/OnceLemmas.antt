-- That no connection comes twice.
use Rattle.std.proofs.Common.{◌≡◌, ◌≤◌, ◌<◌, ◌+◌, ℕ, List, [], ◌∷◌, ◌++◌, refl, subst, sym, ap, arith, length, length-append}
use mathlib.Core.List.{IsPrefix}
use Rattle.network_log.specs.Facts.{NodeFacts}
use Rattle.network_log.specs.NetworkState.{NetworkState}
use Rattle.network_log.specs.Log.{NetworkEvent, ServerComes, Comes, step}
use Rattle.network_log.specs.Truth.{AreTrue}
use Rattle.cluster_directory.specs.declared.config.SessionConfig.{SessionConfig}
use Rattle.network_laws.specs.Acts.{Act, AreActsOf, AreAmong, AreOnce, IsActOf}
use Rattle.network_laws.specs.Once.{AreDifferent, AreDifferentActs, IsNoAct, IsNone, JoinsOnce, comers, serials_of}
use Rattle.network_laws.specs.Streams.{AreStreams, IsStream, Stream, said_of}
use Rattle.network_laws.proofs.StepLemmas.{IsLater, step-later}

-- it joined that network before
abbrev Joined : NodeFacts → NetworkState → ℕ → Type 0
Joined facts w serial = (joins : ℕ) × facts.joined serial w.place joins × joins < w.joins

-- and before what comes later
still : (facts : NodeFacts) (old new : NetworkState) (serial : ℕ) → IsLater old new → Joined facts old serial → Joined facts new serial
still facts old new serial l j =
    let P : ℕ → Type 0 = λ place. facts.joined serial place j.0 in
    let least : j.0 < old.joins = j.2 in
    let more : old.joins ≤ new.joins = l.joins in
    (j.0, subst P (sym l.place) j.1, omega (arith, least, more))

-- one that joined before isn't the one that joins now
not-now : (facts : NodeFacts) → JoinsOnce facts → (w : NetworkState) (other serial : ℕ)
    → facts.joined other w.place w.joins → Joined facts w serial → other ≡ serial → ⊥
not-now facts once w other serial now j is =
    let P : ℕ → Type 0 = λ n. facts.joined n w.place w.joins in
    let same : w.joins ≡ j.0 = once serial w.place w.joins j.0 (subst P is now) j.1 in
    let less : j.0 < w.joins = j.2 in
    omega (arith, same, less)

-- and before what comes behind an event
behind : (facts : NodeFacts) (w : NetworkState) (event : NetworkEvent) (serial : ℕ) → Joined facts w serial → Joined facts (step facts event w) serial
behind facts w event serial j = still facts w (step facts event w) serial (step-later facts event w) j

-- one that joined before comes no more
none-later : (facts : NodeFacts) → JoinsOnce facts → (w : NetworkState) (log : List NetworkEvent) (serial : ℕ)
    → AreTrue facts w log → Joined facts w serial → IsNone serial (comers log)
none-later facts once w [] serial t j = tt
none-later facts once w (ServerComes other ∷ log) serial t j = (
  not-now facts once w other serial t.0.2 j,
  none-later facts once (step facts (ServerComes other) w) log serial t.1 (behind facts w (ServerComes other) serial j),
)
none-later facts once w (Comes guest ∷ log) serial t j = (
  not-now facts once w guest.serial serial t.0.1 j,
  none-later facts once (step facts (Comes guest) w) log serial t.1 (behind facts w (Comes guest) serial j),
)
none-later facts once w (event ∷ log) serial t j =
    none-later facts once (step facts event w) log serial t.1 (behind facts w event serial j)

-- the one that joins now has joined
joined-now : (facts : NodeFacts) (w new : NetworkState) (serial : ℕ)
    → new.place ≡ w.place → new.joins ≡ w.joins + 1 → facts.joined serial w.place w.joins → Joined facts new serial
joined-now facts w new serial same more j =
    let P : ℕ → Type 0 = λ place. facts.joined serial place w.joins in
    (w.joins, subst P (sym same) j, omega (arith, more))

pub all-different : (facts : NodeFacts) → JoinsOnce facts → (w : NetworkState) (log : List NetworkEvent)
    → AreTrue facts w log → AreDifferent (comers log)
all-different facts once w [] t = tt
all-different facts once w (ServerComes serial ∷ log) t =
    let next : NetworkState = step facts (ServerComes serial) w in
    (none-later facts once next log serial t.1 (joined-now facts w next serial refl refl t.0.2), all-different facts once next log t.1)
all-different facts once w (Comes guest ∷ log) t =
    let next : NetworkState = step facts (Comes guest) w in
    (none-later facts once next log guest.serial t.1 (joined-now facts w next guest.serial refl refl t.0.1), all-different facts once next log t.1)
all-different facts once w (event ∷ log) t = all-different facts once (step facts event w) log t.1

-- ---- streams

-- one that joined behind all of these is none of them
behind-none : (facts : NodeFacts) → JoinsOnce facts → (place : ℕ) (config : SessionConfig) (serial joins bound : ℕ) (streams : List Stream)
    → facts.joined serial place joins → bound ≤ joins → AreStreams facts place config bound streams → IsNone serial (serials_of streams)
behind-none facts once place config serial joins bound [] j h k = tt
behind-none facts once place config serial joins bound (s ∷ streams) j h k =
    let st : IsStream facts place config s = k.0.0 in
    let l : s.joins < bound = k.0.1 in
    let P : ℕ → Type 0 = λ n. facts.joined n place s.joins in (
      (λ e. let same : joins ≡ s.joins = once serial place joins s.joins j (subst P e st.it_joined) in omega (arith, h, l, same)),
      behind-none facts once place config serial joins s.joins streams j (omega (arith, h, l)) k.1,
    )

pub streams-different : (facts : NodeFacts) → JoinsOnce facts → (place : ℕ) (config : SessionConfig) (bound : ℕ) (streams : List Stream)
    → AreStreams facts place config bound streams → AreDifferent (serials_of streams)
streams-different facts once place config bound [] k = tt
streams-different facts once place config bound (s ∷ streams) k =
    let st : IsStream facts place config s = k.0.0 in (
      behind-none facts once place config s.serial s.joins s.joins streams st.it_joined (omega arith) k.1,
      streams-different facts once place config s.joins streams k.1,
    )

-- ---- acts

it-joined : (facts : NodeFacts) (place : ℕ) (config : SessionConfig) (a : Act) → IsActOf facts place config a → facts.joined a.serial place a.joins
it-joined facts place config a k =
    let P : ℕ → Type 0 = λ n. facts.joined n place k.is_heard.joins in
    let Q : ℕ → Type 0 = λ n. facts.joined a.serial place n in
    subst Q k.is_joins (subst P k.is_serial k.is_heard.it_joined)

no-act : (facts : NodeFacts) → JoinsOnce facts → (place : ℕ) (config : SessionConfig) (a : Act) (acts : List Act)
    → facts.joined a.serial place a.joins → AreActsOf facts place config acts → AreAmong a.joins a.before acts → IsNoAct a acts
no-act facts once place config a [] j k b = tt
no-act facts once place config a (o ∷ acts) j k b =
    let P : ℕ → Type 0 = λ n. facts.joined n place o.joins in (
      (λ e i.
          let same : a.joins ≡ o.joins = once a.serial place a.joins o.joins j (subst P e (it-joined facts place config o k.0)) in
          let first : IsPrefix (o.before ++ o.effect ∷ []) a.before = b.0 (sym same) in
          let all : length ((o.before ++ o.effect ∷ []) ++ first.0) ≡ length a.before = ap length first.1 in
          let one : length ((o.before ++ o.effect ∷ []) ++ first.0) ≡ length (o.before ++ o.effect ∷ []) + length first.0 =
          length-append (o.before ++ o.effect ∷ []) first.0 in
          let two : length (o.before ++ o.effect ∷ []) ≡ length o.before + 1 = length-append o.before (o.effect ∷ []) in
          omega (arith, i, all, one, two)),
      no-act facts once place config a acts j k.1 b.1,
    )

pub acts-different : (facts : NodeFacts) → JoinsOnce facts → (place : ℕ) (config : SessionConfig) (acts : List Act)
    → AreActsOf facts place config acts → AreOnce acts → AreDifferentActs acts
acts-different facts once place config [] k o = tt
acts-different facts once place config (a ∷ acts) k o = (
  no-act facts once place config a acts (it-joined facts place config a k.0) k.1 o.0,
  acts-different facts once place config acts k.1 o.1,
)

acts-both : (facts : NodeFacts) (place : ℕ) (config : SessionConfig) (acts more : List Act)
    → AreActsOf facts place config acts → AreActsOf facts place config more → AreActsOf facts place config (acts ++ more)
acts-both facts place config [] more k m = m
acts-both facts place config (a ∷ acts) more k m = (k.0, acts-both facts place config acts more k.1 m)

-- all that was said over these is said by clients
said-acts : (facts : NodeFacts) (place : ℕ) (config : SessionConfig) (bound : ℕ) (streams : List Stream)
    → AreStreams facts place config bound streams → AreActsOf facts place config (said_of streams)
said-acts facts place config bound [] k = tt
said-acts facts place config bound (s ∷ streams) k =
    let st : IsStream facts place config s = k.0.0 in
    acts-both facts place config s.said (said_of streams) st.are_spoken (said-acts facts place config s.joins streams k.1)

pub said-different : (facts : NodeFacts) → JoinsOnce facts → (place : ℕ) (config : SessionConfig) (bound : ℕ) (streams : List Stream)
    → AreStreams facts place config bound streams → AreOnce (said_of streams) → AreDifferentActs (said_of streams)
said-different facts once place config bound streams k o =
    acts-different facts once place config (said_of streams) (said-acts facts place config bound streams k) o
