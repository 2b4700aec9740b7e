-- No id is made twice.
use Rattle.std.proofs.Common.{◌≡◌, ℕ, ◌+◌, ◌≤◌, ◌<◌, ◌==◌, Bool, true, false, List, [], ◌∷◌, ◌++◌, refl, sym, ◌∙◌, subst, ◌⊎◌, ⊎_elim, codes, arith, if◌then◌else◌}
use Rattle.std.specs.List.{AllByRecursion, IsDistinct}
use Rattle.std.specs.Str.{bytes_eq}
use Rattle.std.specs.Fmt.{decimal}
use Rattle.std.proofs.lemmas.Fmt.{decimal_injective}
use Rattle.std.proofs.lemmas.Slice.Eq.{bytes_eq-Decides}
use Rattle.std.proofs.lemmas.List.{append_cancel_left}
use Rattle.std.proofs.lemmas.Bool.{eqb-false}
use Rattle.cluster_directory.specs.declared.config.SessionConfig.{SessionConfig}
use Rattle.upstream_session.specs.Messages.{made_text}
use Rattle.upstream_session.specs.declared.connection.ServerSession.{ServerSession}
use Rattle.upstream_session.specs.declared.connection.Home.{Home}
use Rattle.upstream_session.specs.Events.{ServerEvent, HasPost, after, effects_of, ids_made, ids_made_by, run}
use Rattle.network_log.specs.Facts.{NodeFacts}
use Rattle.network_log.specs.Host.{session_begun}
use Rattle.network_laws.specs.Once.{ids_over}
use Rattle.network_laws.specs.Streams.{AreStreams, Stream, begun, serial_after}
use Rattle.network_laws.proofs.AccountLemmas.{StaysHome}

-- the serial number at which a session ends, the greatest of 64 bits
abbrev last_serial : ℕ
last_serial = 18446744073709551615

-- what the session's law says
pub record MakesOnce : Type 0 where
  pub counted : (u : ServerSession) (event : ServerEvent)
      → ((after u event).serial ≡ u.serial) ⊎ (((after u event).serial ≡ u.serial + 1) × HasPost (made_text u.home u.serial) (effects_of u event))
  pub last : (u : ServerSession) (event : ServerEvent) → u.serial ≤ last_serial → (after u event).serial ≤ last_serial
  pub once : (u : ServerSession) (events : List ServerEvent) → u.serial ≤ last_serial → IsDistinct bytes_eq (ids_made u events)
  pub same : StaysHome

-- an id that is made of a serial number between these
abbrev IsMadeBetween : Home → ℕ → ℕ → List ℕ → Type 0
IsMadeBetween home low high id = (n : ℕ) × low ≤ n × n < high × (id ≡ made_text home n)

between-low : (home : Home) (low less high : ℕ) → less ≤ low → (ids : List (List ℕ)) → AllByRecursion (IsMadeBetween home low high) ids
    → AllByRecursion (IsMadeBetween home less high) ids
between-low home low less high h [] k = tt
between-low home low less high h (id ∷ ids) k =
    let l : low ≤ k.0.0 = k.0.1 in ((k.0.0, omega (arith, h, l), k.0.2, k.0.3), between-low home low less high h ids k.1)

between-high : (home : Home) (low high more : ℕ) → high ≤ more → (ids : List (List ℕ)) → AllByRecursion (IsMadeBetween home low high) ids
    → AllByRecursion (IsMadeBetween home low more) ids
between-high home low high more h [] k = tt
between-high home low high more h (id ∷ ids) k =
    let l : k.0.0 < high = k.0.2 in ((k.0.0, k.0.1, omega (arith, h, l), k.0.3), between-high home low high more h ids k.1)

same-number : (home : Home) (a b : ℕ) → a ≤ last_serial → b ≤ last_serial → made_text home a ≡ made_text home b → a ≡ b
same-number home a b h k e =
    let one = append_cancel_left home.node _ _ e in
    let two = append_cancel_left (codes "-") _ _ one in
    let three = append_cancel_left (decimal home.incarnation) _ _ two in
    let four = append_cancel_left (codes "-") (decimal a) (decimal b) three in
    decimal_injective a b (omega arith) (omega arith) four

different : (b : Bool) → (b ≡ true → ⊥) → b ≡ false
different true h = absurd (h refl)
different false h = refl

-- ---- one session

grows : MakesOnce → (u : ServerSession) (event : ServerEvent) → u.serial ≤ (after u event).serial
grows law u event = ⊎_elim (λ h. omega (arith, h)) (λ h. omega (arith, h.0)) (law.counted u event)

grows-more : MakesOnce → (u : ServerSession) (event : ServerEvent) → ((after u event).serial ≡ u.serial → ⊥) → u.serial + 1 ≤ (after u event).serial
grows-more law u event other = ⊎_elim (λ h. absurd (other h)) (λ h. omega (arith, h.0)) (law.counted u event)

record IsMadeSo (u : ServerSession) (events : List ServerEvent) : Type 0 where
  grows : u.serial ≤ (run u events).serial
  last : (run u events).serial ≤ last_serial
  are : AllByRecursion (IsMadeBetween u.home u.serial (run u events).serial) (ids_made u events)

made-so : MakesOnce → (u : ServerSession) (events : List ServerEvent) → u.serial ≤ last_serial → IsMadeSo u events
made-so law u [] h = record { grows = omega arith; last = h; are = tt }
made-so law u (event ∷ events) h =
    let next : ServerSession = after u event in
    let high : ℕ = (run next events).serial in
    let k : IsMadeSo next events = made-so law next events (law.last u event h) in
    let one : u.serial ≤ next.serial = grows law u event in
    let two : next.serial ≤ high = k.grows in
    let H : Home → Type 0 = λ home. AllByRecursion (IsMadeBetween home next.serial high) (ids_made next events) in
    let are : AllByRecursion (IsMadeBetween u.home next.serial high) (ids_made next events) = subst H (law.same u (event ∷ [])) k.are in
    let low : AllByRecursion (IsMadeBetween u.home u.serial high) (ids_made next events) =
    between-low u.home next.serial u.serial high one (ids_made next events) are in
    let cases : (next.serial == u.serial) ≡ (next.serial == u.serial) → AllByRecursion (IsMadeBetween u.home u.serial high) (ids_made_by u event ++ ids_made next events) =
    elim (next.serial == u.serial) as (λ b. (next.serial == u.serial) ≡ b
    → AllByRecursion (IsMadeBetween u.home u.serial high) ((if b then [] else made_text u.home u.serial ∷ []) ++ ids_made next events)) [
      | true ↦ λ e. low
      | false ↦ λ e.
          let more : u.serial + 1 ≤ next.serial = grows-more law u event (eqb-false next.serial u.serial e) in
          ((u.serial, omega arith, omega (arith, more, two), refl), low)
    ] in
    record { grows = omega (arith, one, two); last = k.last; are = cases refl }

-- ---- one session behind others

apart : (home : Home) (n : ℕ) → n ≤ last_serial → (low : ℕ) → low ≤ last_serial → low ≤ n → (ids : List (List ℕ)) → AllByRecursion (IsMadeBetween home 0 low) ids
    → AllByRecursion (λ y. bytes_eq (made_text home n) y ≡ false) ids
apart home n h low l b [] k = tt
apart home n h low l b (id ∷ ids) k =
    let less : k.0.0 < low = k.0.2 in (
      different (bytes_eq (made_text home n) id)
          (λ e.
          let same : n ≡ k.0.0 = same-number home n k.0.0 h (omega (arith, less, l)) ((bytes_eq-Decides (made_text home n) id).0 e ∙ k.0.3) in
          omega (arith, same, less, b)),
      apart home n h low l b ids k.1,
    )

all-both : {X : Type 0} (P : X → Type 0) (some more : List X) → AllByRecursion P some → AllByRecursion P more → AllByRecursion P (some ++ more)
all-both P [] more k m = m
all-both P (x ∷ some) more k m = (k.0, all-both P some more k.1 m)

behind : (home : Home) (low high : ℕ) → low ≤ last_serial → high ≤ last_serial → (ids earlier : List (List ℕ))
    → AllByRecursion (IsMadeBetween home low high) ids → AllByRecursion (IsMadeBetween home 0 low) earlier
    → IsDistinct bytes_eq ids → IsDistinct bytes_eq earlier → IsDistinct bytes_eq (ids ++ earlier)
unfolding IsDistinct
behind home low high l h [] earlier k e one other = other
behind home low high l h (id ∷ ids) earlier k e one other =
    let at : low ≤ k.0.0 = k.0.1 in
    let below : k.0.0 < high = k.0.2 in
    let P : List ℕ → Type 0 = λ i. AllByRecursion (λ y. bytes_eq i y ≡ false) earlier in
    let far : AllByRecursion (λ y. bytes_eq id y ≡ false) earlier =
    subst P (sym k.0.3) (apart home k.0.0 (omega (arith, below, h)) low l at earlier e) in
    (all-both (λ y. bytes_eq id y ≡ false) ids earlier one.0 far, behind home low high l h ids earlier k.1 e one.1 other)

-- ---- all sessions of a network

abbrev home_in : NodeFacts → SessionConfig → Home
home_in facts config = (session_begun facts config 0).home

record AreMade (facts : NodeFacts) (config : SessionConfig) (streams : List Stream) : Type 0 where
  last : serial_after facts config streams ≤ last_serial
  are : AllByRecursion (IsMadeBetween (home_in facts config) 0 (serial_after facts config streams)) (ids_over facts config streams)
  distinct : IsDistinct bytes_eq (ids_over facts config streams)

no-ids : IsDistinct bytes_eq []
unfolding IsDistinct
no-ids = tt

are-made : (facts : NodeFacts) → MakesOnce → (place : ℕ) (config : SessionConfig) (bound : ℕ) (streams : List Stream) → AreStreams facts place config bound streams
    → AreMade facts config streams
are-made facts law place config bound [] k = record { last = omega arith; are = tt; distinct = no-ids }
are-made facts law place config bound (s ∷ streams) k =
    let u : ServerSession = begun facts config s in
    let home : Home = home_in facts config in
    let before : AreMade facts config streams = are-made facts law place config s.joins streams k.1 in
    let first : s.first ≡ serial_after facts config streams = k.0.2 in
    let L : ℕ → Type 0 = λ n. n ≤ last_serial in
    let A : ℕ → Type 0 = λ n. AllByRecursion (IsMadeBetween home 0 n) (ids_over facts config streams) in
    let low : s.first ≤ last_serial = subst L (sym first) before.last in
    let earlier : AllByRecursion (IsMadeBetween home 0 s.first) (ids_over facts config streams) = subst A (sym first) before.are in
    let made : IsMadeSo u s.events = made-so law u s.events low in
    let high : ℕ = (run u s.events).serial in
    record {
      last = made.last;
      are = all-both (IsMadeBetween home 0 high) (ids_made u s.events) (ids_over facts config streams)
          (between-low home s.first 0 high (omega arith) (ids_made u s.events) made.are)
          (between-high home 0 s.first high made.grows (ids_over facts config streams) earlier);
      distinct = behind home s.first high low made.last (ids_made u s.events) (ids_over facts config streams) made.are earlier
          (law.once u s.events low) before.distinct;
    }

pub no-id-twice : (facts : NodeFacts) → MakesOnce → (place : ℕ) (config : SessionConfig) (bound : ℕ) (streams : List Stream) → AreStreams facts place config bound streams
    → IsDistinct bytes_eq (ids_over facts config streams)
no-id-twice facts law place config bound streams k = (are-made facts law place config bound streams k).distinct
