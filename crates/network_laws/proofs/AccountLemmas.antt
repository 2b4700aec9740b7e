-- What is put for a network is of its account.
use Rattle.std.proofs.Common.{◌≡◌, ℕ, Bool, true, false, List, [], ◌∷◌, ◌++◌, Option, Some, None, refl, sym, ◌∙◌, subst}
use Rattle.std.specs.List.{AllByRecursion}
use Rattle.chat_change.specs.declared.change.Change.{Change}
use Rattle.chat_change.specs.declared.change.Change.TheVariants.{Post, Redact, Mark, Floor, AccountFloor}
use Rattle.cluster_directory.specs.declared.config.SessionConfig.{SessionConfig}
use Rattle.client_session.specs.declared.effect.Effect.{Effect}
use Rattle.upstream_session.specs.declared.connection.ServerSession.{ServerSession}
use Rattle.upstream_session.specs.declared.connection.Home.{Home}
use Rattle.upstream_session.specs.declared.effect.UpEffect.{UpEffect}
use Rattle.upstream_session.specs.declared.effect.UpEffect.TheVariants.{Send, Put, Relay, Close}
use Rattle.upstream_session.specs.Events.{ServerEvent, Line, Saying, IsOwnChange, IsOwnEffect, after, all_effects, effects_of, run}
use Rattle.upstream_session.specs.Session.{step, say, joined}
use Rattle.upstream_session.specs.Step.{ServerStep}
use Rattle.network_log.specs.Facts.{NodeFacts}
use Rattle.network_log.specs.Host.{BatchEntry, PassedOn, Renamed, Entered, Posted, entering, entries_by, entries_of as entries_in, has_entered, is_renamed, passes_on, renaming}
use Rattle.network_log.specs.NetworkState.{changes_of}
use Rattle.network_log.specs.Putting.{MayBePutFor}
use Rattle.network_laws.specs.Acts.{Act, AreActsOf}
use Rattle.network_laws.specs.Own.{AreForItsAccount, IsChangeIn, IsMarkIn, PutsOwnMark}
use Rattle.network_laws.specs.Puts.{ArePutOf, Nothing, OfServer, OfClient, PutsWhatWasSaid}
use Rattle.network_laws.specs.Streams.{IsPart, Nothing as NoPart, IsThere, IsLeftOut, Stream, all_entries, begun, entries_by_event, entries_of}
use Rattle.network_laws.proofs.MemberLemmas.{Laws}
use Rattle.network_laws.proofs.TellingLemmas.{puts-what-was-said}

-- what the session's law says
abbrev pub PutsOwn : Type 0
PutsOwn = (u : ServerSession) (events : List ServerEvent) → AllByRecursion (IsOwnEffect u.home) (all_effects u events)

abbrev pub StaysHome : Type 0
StaysHome = (u : ServerSession) (events : List ServerEvent) → (run u events).home ≡ u.home

-- ---- lists

all-both : {X : Type 0} (P : X → Type 0) (some more : List X) → AllByRecursion P some → AllByRecursion P more → AllByRecursion P (some ++ more)
all-both P [] more k m = m
all-both P (x ∷ some) more k m = (k.0, all-both P some more k.1 m)

all-first : {X : Type 0} (P : X → Type 0) (some more : List X) → AllByRecursion P (some ++ more) → AllByRecursion P some
all-first P [] more k = tt
all-first P (x ∷ some) more k = (k.0, all-first P some more k.1)

all-second : {X : Type 0} (P : X → Type 0) (some more : List X) → AllByRecursion P (some ++ more) → AllByRecursion P more
all-second P [] more k = k
all-second P (x ∷ some) more k = all-second P some more k.1

-- ---- entries

-- a change that is put is of the account and the network
abbrev IsEntryIn : SessionConfig → BatchEntry → Type 0
IsEntryIn config (Posted change is_own) = IsChangeIn config change
IsEntryIn config _ = Unit {0}

abbrev IsHomeOf : SessionConfig → Home → Type 0
IsHomeOf config home = (home.account ≡ config.account) × (home.network ≡ config.network)

change-in : (config : SessionConfig) (home : Home) (change : Change) → IsHomeOf config home → IsOwnChange home change → IsChangeIn config change
change-in config home (Post r) e h = (h.0 ∙ e.0, h.1 ∙ e.1)
change-in config home (Redact buffer id at) e h = (h.0 ∙ e.0, h.1 ∙ e.1)
change-in config home (Mark buffer at) e h = absurd h
change-in config home (Floor buffer at) e h = absurd h
change-in config home (AccountFloor account at) e h = absurd h

effects-in : (config : SessionConfig) (home : Home) (nick : List ℕ) (effects : List UpEffect) → IsHomeOf config home → AllByRecursion (IsOwnEffect home) effects
    → AllByRecursion (IsEntryIn config) (entries_in nick effects)
effects-in config home nick [] e k = tt
effects-in config home nick (Send text ∷ effects) e k = effects-in config home nick effects e k.1
effects-in config home nick (Put change ∷ effects) e k = (change-in config home change e k.0, effects-in config home nick effects e k.1)
effects-in config home nick (Relay text to ∷ effects) e k = (tt, effects-in config home nick effects e k.1)
effects-in config home nick (Close ∷ effects) e k = effects-in config home nick effects e k.1

renaming-in : (config : SessionConfig) (is : Bool) (nick : List ℕ) (is_passed_on : Bool) → AllByRecursion (IsEntryIn config) (renaming is nick is_passed_on)
renaming-in config true nick is_passed_on = (tt, tt)
renaming-in config false nick is_passed_on = tt

entering-in : (config : SessionConfig) (is : Bool) (channel : Option (List ℕ)) → AllByRecursion (IsEntryIn config) (entering is channel)
entering-in config true None = tt
entering-in config true (Some channel) = (tt, tt)
entering-in config false channel = tt

step-in : (config : SessionConfig) (u : ServerSession) (s : ServerStep) (channel : Option (List ℕ)) → IsHomeOf config u.home → AllByRecursion (IsOwnEffect u.home) s.effects
    → AllByRecursion (IsEntryIn config) (entries_by u s channel)
step-in config u s channel e k =
    let first : List BatchEntry = renaming (is_renamed u.entry s.session.entry) s.session.entry.nick (passes_on s.effects) in
    let last : List BatchEntry = entering (has_entered u.entry s.session.entry) channel in
    let among : List BatchEntry = entries_in s.session.entry.nick s.effects in
    all-both (IsEntryIn config) first (among ++ last) (renaming-in config (is_renamed u.entry s.session.entry) s.session.entry.nick (passes_on s.effects))
    (all-both (IsEntryIn config) among last (effects-in config u.home s.session.entry.nick s.effects e k) (entering-in config (has_entered u.entry s.session.entry) channel))

event-in : (config : SessionConfig) (u : ServerSession) (event : ServerEvent) → IsHomeOf config u.home → AllByRecursion (IsOwnEffect u.home) (effects_of u event)
    → AllByRecursion (IsEntryIn config) (entries_by_event u event)
event-in config u (Line now bytes) e k = step-in config u (step u now bytes) (joined u bytes) e k
event-in config u (Saying now bytes) e k = step-in config u (say u now bytes) None e k

events-in : PutsOwn → StaysHome → (config : SessionConfig) (u : ServerSession) (events : List ServerEvent) → IsHomeOf config u.home
    → AllByRecursion (IsEntryIn config) (all_entries u events)
events-in puts stays config u [] e = tt
events-in puts stays config u (event ∷ events) e =
    let same : (after u event).home ≡ u.home = stays u (event ∷ []) in
    let H : Home → Type 0 = λ h. IsHomeOf config h in
    all-both (IsEntryIn config) (entries_by_event u event) (all_entries (after u event) events)
    (event-in config u event e (all-first (IsOwnEffect u.home) (effects_of u event) [] (puts u (event ∷ []))))
    (events-in puts stays config (after u event) events (subst H (sym same) e))

streams-in : PutsOwn → StaysHome → (facts : NodeFacts) (config : SessionConfig) (streams : List Stream) → AllByRecursion (IsEntryIn config) (entries_of facts config streams)
streams-in puts stays facts config [] = tt
streams-in puts stays facts config (s ∷ streams) =
    all-both (IsEntryIn config) (entries_of facts config streams) (all_entries (begun facts config s) s.events)
    (streams-in puts stays facts config streams) (events-in puts stays config (begun facts config s) s.events (refl, refl))

part-in : (config : SessionConfig) {some all : List BatchEntry} → IsPart some all → AllByRecursion (IsEntryIn config) all → AllByRecursion (IsEntryIn config) some
part-in config NoPart k = tt
part-in config (IsThere {some} {all} entry p) k =
    all-both (IsEntryIn config) some (entry ∷ []) (part-in config p (all-first (IsEntryIn config) all (entry ∷ []) k)) (all-second (IsEntryIn config) all (entry ∷ []) k)
part-in config (IsLeftOut {some} {all} entry p) k = part-in config p (all-first (IsEntryIn config) all (entry ∷ []) k)

-- ---- what is put

mark-in : (config : SessionConfig) (change : Change) → IsMarkIn config change → IsChangeIn config change
mark-in config (Post r) h = absurd h
mark-in config (Redact buffer id at) h = absurd h
mark-in config (Mark buffer at) h = h
mark-in config (Floor buffer at) h = absurd h
mark-in config (AccountFloor account at) h = absurd h

entry-in : (config : SessionConfig) (entry : BatchEntry) → IsEntryIn config entry → AllByRecursion (IsChangeIn config) (changes_of (entry ∷ []))
entry-in config (Posted change is_own) h = (h, tt)
entry-in config (PassedOn text to) h = tt
entry-in config (Renamed nick is_passed_on) h = tt
entry-in config (Entered channel) h = tt

put-in : (facts : NodeFacts) (place : ℕ) (config : SessionConfig) {entries : List BatchEntry} {acts : List Act} {changes : List Change} → ArePutOf entries acts changes
    → AllByRecursion (IsEntryIn config) entries → AreActsOf facts place config acts → AllByRecursion (IsChangeIn config) changes
put-in facts place config Nothing k a = tt
put-in facts place config (OfServer {entries} {acts} {changes} entry p) k a =
    let own : AllByRecursion (IsEntryIn config) (entry ∷ []) = all-second (IsEntryIn config) entries (entry ∷ []) k in
    all-both (IsChangeIn config) changes (changes_of (entry ∷ []))
    (put-in facts place config p (all-first (IsEntryIn config) entries (entry ∷ []) k) a) (entry-in config entry own.0)
put-in facts place config (OfClient {entries} {acts} {changes} change act is p) k a =
    let own : PutsOwnMark config act.effect = a.0.is_own in
    let mark : IsMarkIn config change = subst (λ (e : Effect). PutsOwnMark config e) is own in
    all-both (IsChangeIn config) changes (change ∷ []) (put-in facts place config p k a.1) (mark-in config change mark, tt)

pub puts-for-its-account : (facts : NodeFacts) → Laws → PutsOwn → StaysHome → (place : ℕ) (puts held changes : List Change) → MayBePutFor facts place puts held changes
    → AreForItsAccount facts place (puts ++ changes)
puts-for-its-account facts laws own stays place puts held changes m =
    let k : PutsWhatWasSaid facts place puts held changes = puts-what-was-said facts laws place puts held changes m in
    record {
      config = k.config;
      is_configured = k.is_configured;
      are_own = put-in facts place k.config k.are_put (part-in k.config k.is_part (streams-in own stays facts k.config k.streams)) k.are_acts;
    }
