-- Lists of events.
use Rattle.std.proofs.Common.{◌≡◌, ℕ, Bool, true, false, ◌&&◌, List, [], ◌∷◌, ◌++◌, Option, None, Some, Ok, Err, Result, refl, sym, ap, ◌∙◌, subst, IsSome}
use Rattle.std.specs.List.{AllByRecursion}
use Rattle.std.specs.Prelude.{if◌then◌else◌}
use Rattle.irc_line.specs.declared.line.LineFault.{LineFault}
use Rattle.irc_line.specs.declared.line.LineFault.TheVariants.{TooLong}
use Rattle.irc_line.specs.declared.line.TagLimit.TheVariants.{Client}
use Rattle.irc_line.specs.Line.{Reading}
use Rattle.irc_line.specs.Read.{read}
use Rattle.chat_change.specs.Words.{is_id}
use Rattle.chat_query.specs.declared.facts.Facts.{Facts}
use Rattle.cluster_directory.specs.Directory.{Directory, account_in, entry_in}
use Rattle.client_session.specs.Command.{command_of}
use Rattle.client_session.specs.declared.command.ClientCommand.{ClientCommand}
use Rattle.client_session.specs.declared.command.ClientCommand.TheVariants.{Redact}
use Rattle.client_session.specs.Step.{Step}
use Rattle.chat_query.specs.Buffers.{has_buffer}
use Rattle.client_session.specs.Session.{step, reading_step}
use Rattle.client_session.specs.Lookup.{MessageName, name_by_command, name_in, name_sought}
use Rattle.client_session.specs.Events.{ClientEvent, Claim, after, effects_of, run, claim_by_event, claim_after, HasSecret, IsUserOf, IsLetIn, IsRegistered, IsAnswer, IsGreeting, IsOwnEffect, IsOfSame, HasClose, EndsAtClose, IsClosed}
use Rattle.client_session.specs.Events as event
use Rattle.client_session.specs.declared.effect.Effect.{Effect}
use Rattle.client_session.specs.declared.effect.Effect.TheVariants.{Send, Put, Ask, Upstream, Close}
use Rattle.client_session.specs.declared.stage.Waiting.{Waiting}
use Rattle.client_session.specs.declared.stage.Stage.{Stage}
use Rattle.client_session.specs.declared.stage.Stage.TheVariants as stage
use Rattle.client_session.proofs.RegistrationLemmas.{Outcome, ToCome, IsSend, claim_of, line_before, refused_before}
use Rattle.client_session.proofs.RegistrationLemmas as before
use Rattle.client_session.proofs.RegisteredLemmas.{Course, SameNetwork, IsServed, line_after, refused_after}
use Rattle.client_session.proofs.RegisteredLemmas as course

-- ---- one event

abbrev pub step_by : Stage → ClientEvent → Step
step_by session event = record { session = after session event; effects = effects_of session event }

abbrev pub directory_of : ClientEvent → Directory
directory_of (event.Line directory shown bytes) = directory
directory_of (event.CutLine directory) = directory
directory_of (event.Answer a) = []

pub waiting_outcome : (w : Waiting) (e : ClientEvent) → Outcome (ToCome w) (directory_of e) (claim_by_event (claim_of w) e) (step_by (stage.Waiting w) e)
unfolding step
waiting_outcome w (event.Line directory shown bytes) = line_before directory shown w bytes (read Client bytes)
waiting_outcome w (event.CutLine directory) = refused_before directory w TooLong
waiting_outcome w (event.Answer a) = before.waiting w refl (λ h. (refl, h)) tt

pub registered_course : (f : Facts) (e : ClientEvent) → Course f (step_by (stage.Registered f) e)
unfolding step
registered_course f (event.Line directory shown bytes) = line_after directory shown f bytes (read Client bytes)
registered_course f (event.CutLine directory) = refused_after directory f TooLong
registered_course f (event.Answer a) = course.registered _ refl (refl, refl) tt

pub closed_after : (e : ClientEvent) → after stage.Closed e ≡ stage.Closed
unfolding step
closed_after (event.Line directory shown bytes) = closed_reading (read Client bytes) where
  closed_reading : (r : Result Reading LineFault) → (reading_step directory shown stage.Closed bytes r).session ≡ stage.Closed
  closed_reading (Ok line) = refl
  closed_reading (Err fault) = refl
closed_after (event.CutLine directory) = refl
closed_after (event.Answer a) = refl

pub closed_effects : (e : ClientEvent) → effects_of stage.Closed e ≡ []
unfolding step
closed_effects (event.Line directory shown bytes) = closed_reading (read Client bytes) where
  closed_reading : (r : Result Reading LineFault) → (reading_step directory shown stage.Closed bytes r).effects ≡ []
  closed_reading (Ok line) = refl
  closed_reading (Err fault) = refl
closed_effects (event.CutLine directory) = refl
closed_effects (event.Answer a) = refl

pub closed_run : (events : List ClientEvent) → run stage.Closed events ≡ stage.Closed
closed_run [] = refl
closed_run (e ∷ events) = ap (λ s. run s events) (closed_after e) ∙ closed_run events

-- ---- the same account and network

same_from : (f g : Facts) (session : Stage) → SameNetwork g f → IsOfSame g session → IsOfSame f session
same_from f g (stage.Waiting w) same h = h
same_from f g (stage.Registered k) same h = (h.0 ∙ same.0, h.1 ∙ same.1)
same_from f g stage.Closed same h = tt

same_next : (f : Facts) (e : ClientEvent) (events : List ClientEvent) → ((g : Facts) → IsOfSame g (run (stage.Registered g) events))
    → Course f (step_by (stage.Registered f) e) → IsOfSame f (run (after (stage.Registered f) e) events)
same_next f e events rest (course.registered g is same all) =
    subst (λ (s : Stage). IsOfSame f (run s events)) (sym is) (same_from f g _ same (rest g))
same_next f e events rest (course.closed is all end) =
    subst (λ (s : Stage). IsOfSame f (run s events)) (sym is) (subst (λ (s : Stage). IsOfSame f s) (sym (closed_run events)) tt)

pub same_run : (f : Facts) (events : List ClientEvent) → IsOfSame f (run (stage.Registered f) events)
same_run f [] = (refl, refl)
same_run f (e ∷ events) = same_next f e events (λ g. same_run g events) (registered_course f e)

-- ---- the secret

abbrev pub LetInFrom : Claim → List ClientEvent → Facts → Type 0
LetInFrom g events f = (prefix : List ClientEvent) × (directory : Directory) × (shown : Bool) × (bytes : List ℕ) × (later : List ClientEvent)
    × (events ≡ prefix ++ event.Line directory shown bytes ∷ later)
    × IsLetIn directory f (claim_after g (prefix ++ event.Line directory shown bytes ∷ []))

user_same : (g f : Facts) (user : Option (List ℕ)) → SameNetwork f g → IsUserOf g user → IsUserOf f user
user_same g f None same h = h
user_same g f (Some user) same h = (h.0 ∙ sym same.0, h.1 ∙ sym same.1)

let_in_same : (directory : Directory) (g f : Facts) (given : Claim) → SameNetwork f g → IsLetIn directory g given → IsLetIn directory f given
let_in_same directory g f given same h = record {
  secret = subst (λ (a : List ℕ). HasSecret (account_in directory a) given.password) (sym same.0) h.secret;
  network = subst (λ (a : List ℕ). IsSome (entry_in directory a f.network)) (sym same.0)
      (subst (λ (n : List ℕ). IsSome (entry_in directory g.account n)) (sym same.1) h.network);
  user = user_same g f given.user same h.user;
  nick = h.nick;
  free = h.free;
}

-- after one event more
later : (g : Claim) (e : ClientEvent) (events : List ClientEvent) (f : Facts) → LetInFrom (claim_by_event g e) events f → LetInFrom g (e ∷ events) f
later g e events f h = (e ∷ h.0, h.1, h.2, h.3, h.4, ap (λ l. e ∷ l) h.5, h.6)

-- a line lets in, the rest of the events does not change the account and the network
entered_at : (w : Waiting) (e : ClientEvent) (events : List ClientEvent) (f g : Facts) → ToCome w → after (stage.Waiting w) e ≡ stage.Registered g
    → IsLetIn (directory_of e) g (claim_by_event (claim_of w) e) → run (after (stage.Waiting w) e) events ≡ stage.Registered f
    → LetInFrom (claim_of w) (e ∷ events) f
entered_at w (event.Line directory shown bytes) events f g p is known h =
    let end : run (stage.Registered g) events ≡ stage.Registered f = ap (λ (s : Stage). run s events) (sym is) ∙ h in
    let same : IsOfSame g (stage.Registered f) = subst (λ (s : Stage). IsOfSame g s) end (same_run g events) in
    ([], directory, shown, bytes, events, refl, let_in_same directory g f (claim_by_event (claim_of w) (event.Line directory shown bytes)) same known)
entered_at w (event.CutLine directory) events f g p is known h = absurd (cc)
entered_at w (event.Answer a) events f g p is known h = absurd (cc)

entered_next : (w : Waiting) (e : ClientEvent) (events : List ClientEvent) (f : Facts)
    → ((v : Waiting) → ToCome v → run (stage.Waiting v) events ≡ stage.Registered f → LetInFrom (claim_of v) events f)
    → ToCome w → Outcome (ToCome w) (directory_of e) (claim_by_event (claim_of w) e) (step_by (stage.Waiting w) e)
    → run (after (stage.Waiting w) e) events ≡ stage.Registered f → LetInFrom (claim_of w) (e ∷ events) f
entered_next w e events f rest p (before.waiting v is facts all) h =
    let known = facts p in
    later (claim_of w) e events f (subst (λ (g : Claim). LetInFrom g events f) known.0 (rest v known.1 (ap (λ (s : Stage). run s events) (sym is) ∙ h)))
entered_next w e events f rest p (before.closed is all end) h =
    let never : stage.Closed ≡ stage.Registered f = sym (closed_run events) ∙ ap (λ (s : Stage). run s events) (sym is) ∙ h in absurd (cc)
entered_next w e events f rest p (before.registered g is known all) h = entered_at w e events f g p is (known p) h

pub entered : (w : Waiting) (events : List ClientEvent) (f : Facts) → ToCome w → run (stage.Waiting w) events ≡ stage.Registered f → LetInFrom (claim_of w) events f
entered w [] f p h = absurd (cc)
entered w (e ∷ events) f p h = entered_next w e events f (λ v q k. entered v events f q k) p (waiting_outcome w e) h

-- ---- effects

pub all_map : {P Q : Effect → Type 0} → ((e : Effect) → P e → Q e) → (effects : List Effect) → AllByRecursion P effects → AllByRecursion Q effects
all_map f [] all = tt
all_map f (e ∷ effects) all = (f e all.0, all_map f effects all.1)

send_is_answer : (e : Effect) → IsSend e → IsAnswer e
send_is_answer (Send bytes) h = tt
send_is_answer (Put change) h = h
send_is_answer (Ask line) h = h
send_is_answer (Upstream bytes) h = h
send_is_answer Close h = tt

abbrev pub AreAnswers : List Effect → Type 0
AreAnswers effects = AllByRecursion IsAnswer effects

answers_alone : (P : Type 0) (directory : Directory) (g : Claim) (s : Step) → Outcome P directory g s → ¬ IsRegistered s.session → AreAnswers s.effects
answers_alone P directory g s (before.waiting w is facts all) out = all_map send_is_answer s.effects all
answers_alone P directory g s (before.closed is all end) out = all
answers_alone P directory g s (before.registered f is known all) out = absurd (out (subst IsRegistered (sym is) tt))

pub outside : (session : Stage) (e : ClientEvent) → ¬ IsRegistered session → ¬ IsRegistered (after session e) → AreAnswers (effects_of session e)
outside (stage.Waiting w) e here next = answers_alone (ToCome w) (directory_of e) _ _ (waiting_outcome w e) next
outside (stage.Registered f) e here next = absurd (here tt)
outside stage.Closed e here next = subst AreAnswers (sym (closed_effects e)) tt

greets_alone : (P : Type 0) (directory : Directory) (g : Claim) (s : Step) → Outcome P directory g s → IsRegistered s.session → AllByRecursion IsGreeting s.effects
greets_alone P directory g s (before.waiting w is facts all) h = absurd (subst IsRegistered is h)
greets_alone P directory g s (before.closed is all end) h = absurd (subst IsRegistered is h)
greets_alone P directory g s (before.registered f is known all) h = all

pub entering : (session : Stage) (e : ClientEvent) → ¬ IsRegistered session → IsRegistered (after session e) → AllByRecursion IsGreeting (effects_of session e)
entering (stage.Waiting w) e here next = greets_alone (ToCome w) (directory_of e) _ _ (waiting_outcome w e) next
entering (stage.Registered f) e here next = absurd (here tt)
entering stage.Closed e here next = absurd (subst IsRegistered (closed_after e) next)

send_is_own : (w : Waiting) (e : Effect) → IsSend e → IsOwnEffect (stage.Waiting w) e
send_is_own w (Send bytes) h = tt
send_is_own w (Put change) h = h
send_is_own w (Ask line) h = tt
send_is_own w (Upstream bytes) h = tt
send_is_own w Close h = tt

greeting_is_own : (w : Waiting) (e : Effect) → IsGreeting e → IsOwnEffect (stage.Waiting w) e
greeting_is_own w (Send bytes) h = tt
greeting_is_own w (Put change) h = h
greeting_is_own w (Ask line) h = tt
greeting_is_own w (Upstream bytes) h = tt
greeting_is_own w Close h = tt

answer_is_own : (session : Stage) (e : Effect) → IsAnswer e → IsOwnEffect session e
answer_is_own session (Send bytes) h = tt
answer_is_own session (Put change) h = absurd h
answer_is_own session (Ask line) h = tt
answer_is_own session (Upstream bytes) h = tt
answer_is_own session Close h = tt

served_is_own : (f : Facts) (e : Effect) → IsServed f e → IsOwnEffect (stage.Registered f) e
served_is_own f (Send bytes) h = tt
served_is_own f (Put change) h = h
served_is_own f (Ask line) h = tt
served_is_own f (Upstream bytes) h = tt
served_is_own f Close h = tt

abbrev pub AreOwn : Stage → List Effect → Type 0
AreOwn session effects = AllByRecursion (IsOwnEffect session) effects

own_before : (w : Waiting) (P : Type 0) (directory : Directory) (g : Claim) (s : Step) → Outcome P directory g s → AreOwn (stage.Waiting w) s.effects
own_before w P directory g s (before.waiting v is facts all) = all_map (send_is_own w) s.effects all
own_before w P directory g s (before.closed is all end) = all_map (answer_is_own (stage.Waiting w)) s.effects all
own_before w P directory g s (before.registered f is known all) = all_map (greeting_is_own w) s.effects all

own_after : (f : Facts) (s : Step) → Course f s → AreOwn (stage.Registered f) s.effects
own_after f s (course.registered g is same all) = all_map (served_is_own f) s.effects all
own_after f s (course.closed is all end) = all_map (answer_is_own (stage.Registered f)) s.effects all

pub own_effects : (session : Stage) (e : ClientEvent) → AreOwn session (effects_of session e)
own_effects (stage.Waiting w) e = own_before w (ToCome w) (directory_of e) _ _ (waiting_outcome w e)
own_effects (stage.Registered f) e = own_after f _ (registered_course f e)
own_effects stage.Closed e = subst (AreOwn stage.Closed) (sym (closed_effects e)) tt

-- ---- where a step looks

abbrev pub IsOwnName : Facts → Option MessageName → Type 0
IsOwnName f None = Unit {0}
IsOwnName f (Some place) = (place.buffer.account ≡ f.account) × (place.buffer.network ≡ f.network)

own_name_if : (f : Facts) (b : Bool) (place : MessageName) → IsOwnName f (Some place) → IsOwnName f (if b then Some place else None)
own_name_if f true place h = h
own_name_if f false place h = tt

own_place_of : (f : Facts) (command : ClientCommand) (ps : List (List ℕ)) → IsOwnName f (name_by_command f command ps)
own_place_of f Redact [] = tt
own_place_of f Redact (target ∷ []) = tt
own_place_of f Redact (target ∷ id ∷ more) = own_name_if f (f.caps.message_redaction && (has_buffer f target && is_id id)) _ (refl, refl)
own_place_of f _ ps = tt

own_place_in : (f : Facts) (reading : Result Reading LineFault) → IsOwnName f (name_in f reading)
own_place_in f (Err fault) = tt
own_place_in f (Ok line) = own_place_of f (command_of line.command) line.parameters

pub own_name : (f : Facts) (bytes : List ℕ) (place : MessageName) → name_sought (stage.Registered f) bytes ≡ Some place → IsOwnName f (Some place)
own_name f bytes place h = subst (IsOwnName f) h (own_place_in f (read Client bytes))

-- ---- Close

no_close : (P : Effect → Type 0) → ¬ P Close → (effects : List Effect) → AllByRecursion P effects → ¬ HasClose effects
no_close P never [] all h = h
no_close P never (Send bytes ∷ effects) all h = no_close P never effects all.1 h
no_close P never (Put change ∷ effects) all h = no_close P never effects all.1 h
no_close P never (Ask line ∷ effects) all h = no_close P never effects all.1 h
no_close P never (Upstream bytes ∷ effects) all h = no_close P never effects all.1 h
no_close P never (Close ∷ effects) all h = never all.0

closes_before : (P : Type 0) (directory : Directory) (g : Claim) (s : Step) → Outcome P directory g s → HasClose s.effects → s.session ≡ stage.Closed
closes_before P directory g s (before.waiting v is facts all) h = absurd (no_close IsSend (λ x. x) s.effects all h)
closes_before P directory g s (before.closed is all end) h = is
closes_before P directory g s (before.registered f is known all) h = absurd (no_close IsGreeting (λ x. x) s.effects all h)

closes_after : (f : Facts) (s : Step) → Course f s → HasClose s.effects → s.session ≡ stage.Closed
closes_after f s (course.registered g is same all) h = absurd (no_close (IsServed f) (λ x. x) s.effects all h)
closes_after f s (course.closed is all end) h = is

pub closes : (session : Stage) (e : ClientEvent) → HasClose (effects_of session e) → after session e ≡ stage.Closed
closes (stage.Waiting w) e h = closes_before (ToCome w) (directory_of e) _ _ (waiting_outcome w e) h
closes (stage.Registered f) e h = closes_after f _ (registered_course f e) h
closes stage.Closed e h = closed_after e

never_ends : (P : Effect → Type 0) → ¬ P Close → (effects : List Effect) → AllByRecursion P effects → EndsAtClose effects
never_ends P never [] all = tt
never_ends P never (Send bytes ∷ effects) all = never_ends P never effects all.1
never_ends P never (Put change ∷ effects) all = never_ends P never effects all.1
never_ends P never (Ask line ∷ effects) all = never_ends P never effects all.1
never_ends P never (Upstream bytes ∷ effects) all = never_ends P never effects all.1
never_ends P never (Close ∷ effects) all = absurd (never all.0)

ends_before : (P : Type 0) (directory : Directory) (g : Claim) (s : Step) → Outcome P directory g s → EndsAtClose s.effects
ends_before P directory g s (before.waiting v is facts all) = never_ends IsSend (λ x. x) s.effects all
ends_before P directory g s (before.closed is all end) = end.0
ends_before P directory g s (before.registered f is known all) = never_ends IsGreeting (λ x. x) s.effects all

ends_after : (f : Facts) (s : Step) → Course f s → EndsAtClose s.effects
ends_after f s (course.registered g is same all) = never_ends (IsServed f) (λ x. x) s.effects all
ends_after f s (course.closed is all end) = end.0

pub ends : (session : Stage) (e : ClientEvent) → EndsAtClose (effects_of session e)
ends (stage.Waiting w) e = ends_before (ToCome w) (directory_of e) _ _ (waiting_outcome w e)
ends (stage.Registered f) e = ends_after f _ (registered_course f e)
ends stage.Closed e = subst EndsAtClose (sym (closed_effects e)) tt

told_before : (P : Type 0) (directory : Directory) (g : Claim) (s : Step) → Outcome P directory g s → IsClosed s.session → HasClose s.effects
told_before P directory g s (before.waiting v is facts all) h = absurd (subst IsClosed is h)
told_before P directory g s (before.closed is all end) h = end.1
told_before P directory g s (before.registered f is known all) h = absurd (subst IsClosed is h)

told_after : (f : Facts) (s : Step) → Course f s → IsClosed s.session → HasClose s.effects
told_after f s (course.registered g is same all) h = absurd (subst IsClosed is h)
told_after f s (course.closed is all end) h = end.1

pub told : (session : Stage) (e : ClientEvent) → ¬ IsClosed session → IsClosed (after session e) → HasClose (effects_of session e)
told (stage.Waiting w) e here next = told_before (ToCome w) (directory_of e) _ _ (waiting_outcome w e) next
told (stage.Registered f) e here next = told_after f _ (registered_course f e) next
told stage.Closed e here next = absurd (here tt)
