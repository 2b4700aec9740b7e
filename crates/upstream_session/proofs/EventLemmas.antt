-- Lists of events.
use Rattle.std.proofs.Common.{◌≡◌, ℕ, ◌+◌, ◌≤◌, ◌==◌, Bool, true, false, List, [], ◌∷◌, ◌++◌, Option, None, refl, sym, ap, ◌∙◌, subst, ◌⊎◌, inl, inr, ⊎_elim, codes, arith}
use Rattle.std.specs.List.{AllByRecursion, IsDistinct}
use Rattle.std.specs.Prelude.{if◌then◌else◌}
use Rattle.std.specs.Str.{bytes_eq}
use Rattle.std.specs.Fmt.{decimal}
use Rattle.std.proofs.lemmas.Fmt.{decimal_injective}
use Rattle.std.proofs.lemmas.Slice.Eq.{bytes_eq-Decides}
use Rattle.std.proofs.lemmas.List.{append_cancel_left}
use Rattle.std.proofs.lemmas.Bool.{eqb-false}
use Rattle.irc_line.specs.declared.line.TagLimit.TheVariants.{Server, Client}
use Rattle.irc_line.specs.Read.{read}
use Rattle.chat_change.specs.Message.{Message}
use Rattle.chat_change.specs.declared.change.Change.{Change}
use Rattle.chat_change.specs.declared.change.Change.TheVariants as change
use Rattle.upstream_session.specs.declared.connection.TheConstants.{LAST_SERIAL}
use Rattle.cluster_directory.specs.declared.config.SessionConfig.{SessionConfig}
use Rattle.upstream_session.specs.declared.connection.Home.{Home}
use Rattle.upstream_session.specs.declared.connection.ServerSession.{ServerSession}
use Rattle.upstream_session.specs.declared.effect.UpEffect.{UpEffect}
use Rattle.upstream_session.specs.declared.effect.UpEffect.TheVariants.{Send, Put, Relay, Close}
use Rattle.upstream_session.specs.Step.{ServerStep, stays, new}
use Rattle.upstream_session.specs.Messages.{made_text, post}
use Rattle.upstream_session.specs.Sayings.{without_ending, say_line}
use Rattle.upstream_session.specs.Session.{start, opening, reading_step, step, say}
use Rattle.upstream_session.specs.Events.{ServerEvent, step_by, after, effects_of, run, all_effects, IsOwnChange, IsOwnEffect, IsUnheard, IsWelcome, id_given, tags_given, HasTags, IsIdOf, HasPost, ids_made_by, ids_made, HasClose, EndsAtClose}
use Rattle.upstream_session.specs.Events as event
use Rattle.upstream_session.proofs.CourseLemmas.{either, either_by, Course, IsSend, IsPassed, IsOwnRedaction, says, line_course, say_course}
use Rattle.upstream_session.proofs.CourseLemmas as course

-- ---- one event

pub course_of : (u : ServerSession) (e : ServerEvent) → Course (IsWelcome e) (id_given e) (tags_given u e) u (step_by u e)
unfolding step say
course_of u (event.Line now bytes) =
    either (λ (s : ServerStep). Course (IsWelcome (event.Line now bytes)) (id_given (event.Line now bytes)) (tags_given u (event.Line now bytes)) u s) u.is_closed
    (says _ _ _ u [] tt) (line_course u now bytes (read Server bytes))
course_of u (event.Saying now bytes) =
    either (λ (s : ServerStep). Course ⊥ None (tags_given u (event.Saying now bytes)) u s) u.is_closed
    (says _ _ _ u [] tt) (say_course ⊥ None _ u now (without_ending bytes) (read Client (without_ending bytes)) refl)

closed_choice : {X : Type 0} (b : Bool) (x y : X) → b ≡ true → (if b then x else y) ≡ x
closed_choice true x y h = refl
closed_choice false x y h = absurd (cc)

pub closed_step : (u : ServerSession) (e : ServerEvent) → u.is_closed ≡ true → step_by u e ≡ stays u []
unfolding step say
closed_step u (event.Line now bytes) h = closed_choice u.is_closed (stays u []) (reading_step u now bytes (read Server bytes)) h
closed_step u (event.Saying now bytes) h = closed_choice u.is_closed (stays u []) (say_line u now (without_ending bytes)) h

pub closed_start : (u : ServerSession) → u.is_closed ≡ true → start u ≡ []
closed_start u h = closed_choice u.is_closed [] (opening u) h

-- ---- lists of effects

pub all_map : {P Q : UpEffect → Type 0} → ((e : UpEffect) → P e → Q e) → (effects : List UpEffect) → AllByRecursion P effects → AllByRecursion Q effects
all_map f [] all = tt
all_map f (e ∷ effects) all = (f e all.0, all_map f effects all.1)

pub all_append : (P : UpEffect → Type 0) (xs ys : List UpEffect) → AllByRecursion P xs → AllByRecursion P ys → AllByRecursion P (xs ++ ys)
all_append P [] ys p q = q
all_append P (x ∷ xs) ys p q = (p.0, all_append P xs ys p.1 q)

-- of a list that is known by an equation
all_by : (P : UpEffect → Type 0) (xs ys : List UpEffect) → xs ≡ ys → AllByRecursion P ys → AllByRecursion P xs
all_by P xs ys e h = subst (λ (l : List UpEffect). AllByRecursion P l) (sym e) h

-- ---- changes are the session's own

send_is_own : (home : Home) (e : UpEffect) → IsSend e → IsOwnEffect home e
send_is_own home (Send bytes) h = tt
send_is_own home (Put change) h = absurd h
send_is_own home (Relay bytes to) h = tt
send_is_own home Close h = tt

redaction_is_own : (home : Home) (c : Change) → IsOwnRedaction home c → IsOwnChange home c
redaction_is_own home (change.Post r) h = absurd h
redaction_is_own home (change.Redact buffer id at) h = h
redaction_is_own home (change.Mark buffer at) h = h
redaction_is_own home (change.Floor buffer at) h = h
redaction_is_own home (change.AccountFloor account at) h = h

passed_is_own : (home : Home) (e : UpEffect) → IsPassed home e → IsOwnEffect home e
passed_is_own home (Send bytes) h = tt
passed_is_own home (Put c) h = redaction_is_own home c h
passed_is_own home (Relay bytes to) h = tt
passed_is_own home Close h = tt

abbrev pub AreOwn : Home → List UpEffect → Type 0
AreOwn home effects = AllByRecursion (IsOwnEffect home) effects

own : (W : Type 0) (id_of : Option (List ℕ)) (borne : List ℕ) (u : ServerSession) (s : ServerStep) → Course W id_of borne u s → AreOwn u.home s.effects
own W id_of borne u s (course.quiet same all) = all_map (send_is_own u.home) s.effects all
own W id_of borne u s (course.passing up same all) = all_map (passed_is_own u.home) s.effects all
own W id_of borne u s (course.kept id at m up is session effects) = all_by (IsOwnEffect u.home) _ _ effects ((refl, refl), tt)
own W id_of borne u s (course.made before at m up session more all effects) =
    all_by (IsOwnEffect u.home) _ _ effects
    (all_append (IsOwnEffect u.home) before (post u (made_text u.home u.serial) at borne m ∷ []) (all_map (send_is_own u.home) before all) ((refl, refl), tt))
own W id_of borne u s (course.closed session effects) = all_by (IsOwnEffect u.home) _ _ effects (tt, tt)

same_home : (W : Type 0) (id_of : Option (List ℕ)) (borne : List ℕ) (u : ServerSession) (s : ServerStep) → Course W id_of borne u s → s.session.home ≡ u.home
same_home W id_of borne u s (course.quiet same all) = same.home
same_home W id_of borne u s (course.passing up same all) = same.home
same_home W id_of borne u s (course.kept id at m up is session effects) = ap (λ (v : ServerSession). v.home) session
same_home W id_of borne u s (course.made before at m up session more all effects) = ap (λ (v : ServerSession). v.home) session
same_home W id_of borne u s (course.closed session effects) = ap (λ (v : ServerSession). v.home) session

pub home_after : (u : ServerSession) (e : ServerEvent) → (after u e).home ≡ u.home
home_after u e = same_home (IsWelcome e) (id_given e) (tags_given u e) u (step_by u e) (course_of u e)

pub home_run : (u : ServerSession) (events : List ServerEvent) → (run u events).home ≡ u.home
home_run u [] = refl
home_run u (e ∷ events) = home_run (after u e) events ∙ home_after u e

pub own_effects : (u : ServerSession) (events : List ServerEvent) → AreOwn u.home (all_effects u events)
own_effects u [] = tt
own_effects u (e ∷ events) =
    all_append (IsOwnEffect u.home) (effects_of u e) (all_effects (after u e) events)
    (own (IsWelcome e) (id_given e) (tags_given u e) u (step_by u e) (course_of u e))
    (subst (λ (h : Home). AreOwn h (all_effects (after u e) events)) (home_after u e) (own_effects (after u e) events))

-- ---- before the network is up

send_is_unheard : (e : UpEffect) → IsSend e → IsUnheard e
send_is_unheard (Send bytes) h = tt
send_is_unheard (Put change) h = h
send_is_unheard (Relay bytes to) h = h
send_is_unheard Close h = tt

not_up : (b : Bool) → b ≡ false → ¬ (b ≡ true)
not_up true down up = absurd (cc)
not_up false down up = absurd (cc)

unheard : (W : Type 0) (id_of : Option (List ℕ)) (borne : List ℕ) (u : ServerSession) (s : ServerStep) → ¬ (u.entry.is_up ≡ true) → Course W id_of borne u s → AllByRecursion IsUnheard s.effects
unheard W id_of borne u s down (course.quiet same all) = all_map send_is_unheard s.effects all
unheard W id_of borne u s down (course.passing up same all) = absurd (down up)
unheard W id_of borne u s down (course.kept id at m up is session effects) = absurd (down up)
unheard W id_of borne u s down (course.made before at m up session more all effects) = absurd (down up)
unheard W id_of borne u s down (course.closed session effects) = all_by IsUnheard _ _ effects (tt, tt)

stays_down : (W : Type 0) (id_of : Option (List ℕ)) (borne : List ℕ) (u : ServerSession) (s : ServerStep) → ¬ (u.entry.is_up ≡ true) → ¬ W → Course W id_of borne u s → ¬ (s.session.entry.is_up ≡ true)
stays_down W id_of borne u s down never (course.quiet same all) h = ⊎_elim down never (same.up h)
stays_down W id_of borne u s down never (course.passing up same all) h = down up
stays_down W id_of borne u s down never (course.kept id at m up is session effects) h = down up
stays_down W id_of borne u s down never (course.made before at m up session more all effects) h = down up
stays_down W id_of borne u s down never (course.closed session effects) h = down (sym (ap (λ (v : ServerSession). v.entry.is_up) session) ∙ h)

pub unheard_effects : (u : ServerSession) (events : List ServerEvent) → ¬ (u.entry.is_up ≡ true) → AllByRecursion (λ e. ¬ IsWelcome e) events
    → AllByRecursion IsUnheard (all_effects u events)
unheard_effects u [] down never = tt
unheard_effects u (e ∷ events) down never =
    all_append IsUnheard (effects_of u e) (all_effects (after u e) events)
    (unheard (IsWelcome e) (id_given e) (tags_given u e) u (step_by u e) down (course_of u e))
    (unheard_effects (after u e) events (stays_down (IsWelcome e) (id_given e) (tags_given u e) u (step_by u e) down never.0 (course_of u e)) never.1)

pub unheard_from_new : (config : SessionConfig) (node : List ℕ) (incarnation first_serial : ℕ) (events : List ServerEvent)
    → AllByRecursion (λ e. ¬ IsWelcome e) events → AllByRecursion IsUnheard (all_effects (new config node incarnation first_serial) events)
unheard_from_new config node incarnation first_serial events never =
    unheard_effects (new config node incarnation first_serial) events (not_up false refl) never

-- ---- made ids

send_has_id : (old new : ServerSession) (id_of : Option (List ℕ)) (e : UpEffect) → IsSend e → IsIdOf old new id_of e
send_has_id old new id_of (Send bytes) h = tt
send_has_id old new id_of (Put change) h = absurd h
send_has_id old new id_of (Relay bytes to) h = tt
send_has_id old new id_of Close h = tt

redaction_has_id : (old new : ServerSession) (id_of : Option (List ℕ)) (c : Change) → IsOwnRedaction old.home c → IsIdOf old new id_of (Put c)
redaction_has_id old new id_of (change.Post r) h = absurd h
redaction_has_id old new id_of (change.Redact buffer id at) h = tt
redaction_has_id old new id_of (change.Mark buffer at) h = tt
redaction_has_id old new id_of (change.Floor buffer at) h = tt
redaction_has_id old new id_of (change.AccountFloor account at) h = tt

passed_has_id : (old new : ServerSession) (id_of : Option (List ℕ)) (e : UpEffect) → IsPassed old.home e → IsIdOf old new id_of e
passed_has_id old new id_of (Send bytes) h = tt
passed_has_id old new id_of (Put c) h = redaction_has_id old new id_of c h
passed_has_id old new id_of (Relay bytes to) h = tt
passed_has_id old new id_of Close h = tt

ids : (W : Type 0) (id_of : Option (List ℕ)) (borne : List ℕ) (u : ServerSession) (s : ServerStep) → Course W id_of borne u s → AllByRecursion (IsIdOf u s.session id_of) s.effects
ids W id_of borne u s (course.quiet same all) = all_map (send_has_id u s.session id_of) s.effects all
ids W id_of borne u s (course.passing up same all) = all_map (passed_has_id u s.session id_of) s.effects all
ids W id_of borne u s (course.kept id at m up is session effects) =
    all_by (IsIdOf u s.session id_of) _ _ effects (inl (is, ap (λ (v : ServerSession). v.serial) session), tt)
ids W id_of borne u s (course.made before at m up session more all effects) =
    all_by (IsIdOf u s.session id_of) _ _ effects
    (all_append (IsIdOf u s.session id_of) before (post u (made_text u.home u.serial) at borne m ∷ []) (all_map (send_has_id u s.session id_of) before all)
    (inr (refl, ap (λ (v : ServerSession). v.serial) session), tt))
ids W id_of borne u s (course.closed session effects) = all_by (IsIdOf u s.session id_of) _ _ effects (tt, tt)

pub own_ids : (u : ServerSession) (e : ServerEvent) → AllByRecursion (IsIdOf u (after u e) (id_given e)) (effects_of u e)
own_ids u e = ids (IsWelcome e) (id_given e) (tags_given u e) u (step_by u e) (course_of u e)

-- ---- tags

send_has_tags : (tags : List ℕ) (e : UpEffect) → IsSend e → HasTags tags e
send_has_tags tags (Send bytes) h = tt
send_has_tags tags (Put change) h = absurd h
send_has_tags tags (Relay bytes to) h = tt
send_has_tags tags Close h = tt

redaction_has_tags : (home : Home) (tags : List ℕ) (c : Change) → IsOwnRedaction home c → HasTags tags (Put c)
redaction_has_tags home tags (change.Post r) h = absurd h
redaction_has_tags home tags (change.Redact buffer id at) h = tt
redaction_has_tags home tags (change.Mark buffer at) h = tt
redaction_has_tags home tags (change.Floor buffer at) h = tt
redaction_has_tags home tags (change.AccountFloor account at) h = tt

passed_has_tags : (home : Home) (tags : List ℕ) (e : UpEffect) → IsPassed home e → HasTags tags e
passed_has_tags home tags (Send bytes) h = tt
passed_has_tags home tags (Put c) h = redaction_has_tags home tags c h
passed_has_tags home tags (Relay bytes to) h = tt
passed_has_tags home tags Close h = tt

with_tags : (W : Type 0) (id_of : Option (List ℕ)) (borne : List ℕ) (u : ServerSession) (s : ServerStep) → Course W id_of borne u s
    → AllByRecursion (HasTags borne) s.effects
with_tags W id_of borne u s (course.quiet same all) = all_map (send_has_tags borne) s.effects all
with_tags W id_of borne u s (course.passing up same all) = all_map (passed_has_tags u.home borne) s.effects all
with_tags W id_of borne u s (course.kept id at m up is session effects) = all_by (HasTags borne) _ _ effects (refl, tt)
with_tags W id_of borne u s (course.made before at m up session more all effects) =
    all_by (HasTags borne) _ _ effects
    (all_append (HasTags borne) before (post u (made_text u.home u.serial) at borne m ∷ []) (all_map (send_has_tags borne) before all) (refl, tt))
with_tags W id_of borne u s (course.closed session effects) = all_by (HasTags borne) _ _ effects (tt, tt)

pub own_tags : (u : ServerSession) (e : ServerEvent) → AllByRecursion (HasTags (tags_given u e)) (effects_of u e)
own_tags u e = with_tags (IsWelcome e) (id_given e) (tags_given u e) u (step_by u e) (course_of u e)

-- ---- used serial numbers

has_post : (id : List ℕ) (before : List UpEffect) (u : ServerSession) (at : ℕ) (tags : List ℕ) (m : Message) → AllByRecursion IsSend before → HasPost id (before ++ post u id at tags m ∷ [])
has_post id [] u at tags m all = inl refl
has_post id (Send bytes ∷ before) u at tags m all = has_post id before u at tags m all.1
has_post id (Put change ∷ before) u at tags m all = absurd all.0
has_post id (Relay bytes to ∷ before) u at tags m all = absurd all.0
has_post id (Close ∷ before) u at tags m all = absurd all.0

-- the serial number stays, or is used for a post that was put
abbrev pub Counts : ServerSession → ServerStep → Type 0
Counts u s = (s.session.serial ≡ u.serial) ⊎ ((s.session.serial ≡ u.serial + 1) × HasPost (made_text u.home u.serial) s.effects)

counts : (W : Type 0) (id_of : Option (List ℕ)) (borne : List ℕ) (u : ServerSession) (s : ServerStep) → Course W id_of borne u s → Counts u s
counts W id_of borne u s (course.quiet same all) = inl same.serial
counts W id_of borne u s (course.passing up same all) = inl same.serial
counts W id_of borne u s (course.kept id at m up is session effects) = inl (ap (λ (v : ServerSession). v.serial) session)
counts W id_of borne u s (course.made before at m up session more all effects) =
    inr (ap (λ (v : ServerSession). v.serial) session, subst (λ (l : List UpEffect). HasPost (made_text u.home u.serial) l) (sym effects) (has_post _ before u at borne m all))
counts W id_of borne u s (course.closed session effects) = inl (ap (λ (v : ServerSession). v.serial) session)

pub counted : (u : ServerSession) (e : ServerEvent) → Counts u (step_by u e)
counted u e = counts (IsWelcome e) (id_given e) (tags_given u e) u (step_by u e) (course_of u e)

-- so it never falls
serial_grows : (u : ServerSession) (e : ServerEvent) → u.serial ≤ (after u e).serial
serial_grows u e = ⊎_elim (λ h. omega (arith, h)) (λ h. omega (arith, h.0)) (counted u e)

no_more : (W : Type 0) (id_of : Option (List ℕ)) (borne : List ℕ) (u : ServerSession) (s : ServerStep) → u.serial ≤ LAST_SERIAL → Course W id_of borne u s → s.session.serial ≤ LAST_SERIAL
no_more W id_of borne u s h (course.quiet same all) = subst (λ (n : ℕ). n ≤ LAST_SERIAL) (sym same.serial) h
no_more W id_of borne u s h (course.passing up same all) = subst (λ (n : ℕ). n ≤ LAST_SERIAL) (sym same.serial) h
no_more W id_of borne u s h (course.kept id at m up is session effects) = subst (λ (v : ServerSession). v.serial ≤ LAST_SERIAL) (sym session) h
no_more W id_of borne u s h (course.made before at m up session more all effects) =
    subst (λ (v : ServerSession). v.serial ≤ LAST_SERIAL) (sym session) (below_last u.serial LAST_SERIAL h more) where
      below_last : (n last : ℕ) → n ≤ last → ¬ (n ≡ last) → n + 1 ≤ last
      below_last n last h other = omega (arith, other)
no_more W id_of borne u s h (course.closed session effects) = subst (λ (v : ServerSession). v.serial ≤ LAST_SERIAL) (sym session) h

pub last_serial : (u : ServerSession) (e : ServerEvent) → u.serial ≤ LAST_SERIAL → (after u e).serial ≤ LAST_SERIAL
last_serial u e h = no_more (IsWelcome e) (id_given e) (tags_given u e) u (step_by u e) h (course_of u e)

-- an id that is made of a serial number from that one on
abbrev pub IsMadeFrom : Home → ℕ → List ℕ → Type 0
IsMadeFrom home first id = (n : ℕ) × (first ≤ n) × (n ≤ LAST_SERIAL) × (id ≡ made_text home n)

made_weaken : (home : Home) (a b : ℕ) → a ≤ b → (ids : List (List ℕ)) → AllByRecursion (IsMadeFrom home b) ids → AllByRecursion (IsMadeFrom home a) ids
made_weaken home a b h [] all = tt
made_weaken home a b h (id ∷ ids) all = ((all.0.0, omega (arith, all.0.1), all.0.2, all.0.3), made_weaken home a b h ids all.1)

same_number : (home : Home) (a b : ℕ) → a ≤ LAST_SERIAL → b ≤ LAST_SERIAL → made_text home a ≡ made_text home b → a ≡ b
same_number home a b h k e =
    let one = append_cancel_left home.node _ _ e in
    let two = append_cancel_left (codes "-") _ _ one in
    let three = append_cancel_left (decimal home.incarnation) _ _ two in
    let four = append_cancel_left (codes "-") (decimal a) (decimal b) three in
    decimal_injective a b (omega arith) (omega arith) four

different : (b : Bool) → ¬ (b ≡ true) → b ≡ false
different true h = absurd (h refl)
different false h = refl

apart : (home : Home) (n : ℕ) → n ≤ LAST_SERIAL → (ids : List (List ℕ)) → AllByRecursion (IsMadeFrom home (n + 1)) ids
    → AllByRecursion (λ y. bytes_eq (made_text home n) y ≡ false) ids
apart home n h [] all = tt
apart home n h (id ∷ ids) all = (
  different (bytes_eq (made_text home n) id)
      (λ e. let same = same_number home n all.0.0 h all.0.2 ((bytes_eq-Decides (made_text home n) id).0 e ∙ all.0.3) in absurd (omega (arith, all.0.1))),
  apart home n h ids all.1,
)

-- the ids made by one event, and then by others
abbrev pub MadeOnce : ServerSession → List (List ℕ) → Type 0
MadeOnce u ids = AllByRecursion (IsMadeFrom u.home u.serial) ids × IsDistinct bytes_eq ids

joined_ids : (u : ServerSession) (e : ServerEvent) (more : List (List ℕ)) → u.serial ≤ LAST_SERIAL → MadeOnce (after u e) more → MadeOnce u (ids_made_by u e ++ more)
unfolding IsDistinct
joined_ids u e more h rest =
    let home : AllByRecursion (IsMadeFrom u.home (after u e).serial) more =
    subst (λ (k : Home). AllByRecursion (IsMadeFrom k (after u e).serial) more) (home_after u e) rest.0 in
    either_by (λ (l : List (List ℕ)). MadeOnce u (l ++ more)) ((after u e).serial == u.serial) [] (made_text u.home u.serial ∷ [])
    (λ k. (made_weaken u.home u.serial (after u e).serial (serial_grows u e) more home, rest.1))
    (λ k. let next : u.serial + 1 ≤ (after u e).serial = grown (counted u e) (eqb-false (after u e).serial u.serial k) in
    let later = made_weaken u.home (u.serial + 1) (after u e).serial next more home in
    (((u.serial, omega arith, h, refl), made_weaken u.home u.serial (u.serial + 1) (omega arith) more later), (apart u.home u.serial h more later, rest.1))) where
      grown : Counts u (step_by u e) → ¬ ((after u e).serial ≡ u.serial) → u.serial + 1 ≤ (after u e).serial
      grown (inl same) other = absurd (other same)
      grown (inr next) other = omega (arith, next.0)

made_once : (u : ServerSession) (events : List ServerEvent) → u.serial ≤ LAST_SERIAL → MadeOnce u (ids_made u events)
unfolding IsDistinct
made_once u [] h = (tt, tt)
made_once u (e ∷ events) h = joined_ids u e (ids_made (after u e) events) h (made_once (after u e) events (last_serial u e h))

pub once : (u : ServerSession) (events : List ServerEvent) → u.serial ≤ LAST_SERIAL → IsDistinct bytes_eq (ids_made u events)
once u events h = (made_once u events h).1

-- ---- Close

send_no_close : (effects : List UpEffect) → AllByRecursion IsSend effects → ¬ HasClose effects
send_no_close [] all h = h
send_no_close (Send bytes ∷ effects) all h = send_no_close effects all.1 h
send_no_close (Put change ∷ effects) all h = all.0
send_no_close (Relay bytes to ∷ effects) all h = all.0
send_no_close (Close ∷ effects) all h = all.0

passed_no_close : (home : Home) (effects : List UpEffect) → AllByRecursion (IsPassed home) effects → ¬ HasClose effects
passed_no_close home [] all h = h
passed_no_close home (Send bytes ∷ effects) all h = all.0
passed_no_close home (Put change ∷ effects) all h = passed_no_close home effects all.1 h
passed_no_close home (Relay bytes to ∷ effects) all h = passed_no_close home effects all.1 h
passed_no_close home (Close ∷ effects) all h = all.0

post_no_close : (before : List UpEffect) (u : ServerSession) (id : List ℕ) (at : ℕ) (tags : List ℕ) (m : Message) → AllByRecursion IsSend before → ¬ HasClose (before ++ post u id at tags m ∷ [])
post_no_close [] u id at tags m all h = h
post_no_close (Send bytes ∷ before) u id at tags m all h = post_no_close before u id at tags m all.1 h
post_no_close (Put change ∷ before) u id at tags m all h = all.0
post_no_close (Relay bytes to ∷ before) u id at tags m all h = all.0
post_no_close (Close ∷ before) u id at tags m all h = all.0

ends : (W : Type 0) (id_of : Option (List ℕ)) (borne : List ℕ) (u : ServerSession) (s : ServerStep) → Course W id_of borne u s → HasClose s.effects → s.session.is_closed ≡ true
ends W id_of borne u s (course.quiet same all) h = absurd (send_no_close s.effects all h)
ends W id_of borne u s (course.passing up same all) h = absurd (passed_no_close u.home s.effects all h)
ends W id_of borne u s (course.kept id at m up is session effects) h = absurd (post_no_close [] u id at borne m tt (subst HasClose effects h))
ends W id_of borne u s (course.made before at m up session more all effects) h =
    absurd (post_no_close before u (made_text u.home u.serial) at borne m all (subst HasClose effects h))
ends W id_of borne u s (course.closed session effects) h = ap (λ (v : ServerSession). v.is_closed) session

pub closes : (u : ServerSession) (e : ServerEvent) → HasClose (effects_of u e) → (after u e).is_closed ≡ true
closes u e h = ends (IsWelcome e) (id_given e) (tags_given u e) u (step_by u e) (course_of u e) h

-- Close is the last effect
open_ends : (effects : List UpEffect) → ¬ HasClose effects → EndsAtClose effects
open_ends [] none = tt
open_ends (Send bytes ∷ effects) none = open_ends effects none
open_ends (Put change ∷ effects) none = open_ends effects none
open_ends (Relay bytes to ∷ effects) none = open_ends effects none
open_ends (Close ∷ effects) none = absurd (none tt)

last_of : (W : Type 0) (id_of : Option (List ℕ)) (borne : List ℕ) (u : ServerSession) (s : ServerStep) → Course W id_of borne u s → EndsAtClose s.effects
last_of W id_of borne u s (course.quiet same all) = open_ends s.effects (λ h. send_no_close s.effects all h)
last_of W id_of borne u s (course.passing up same all) = open_ends s.effects (λ h. passed_no_close u.home s.effects all h)
last_of W id_of borne u s (course.kept id at m up is session effects) =
    open_ends s.effects (λ h. post_no_close [] u id at borne m tt (subst HasClose effects h))
last_of W id_of borne u s (course.made before at m up session more all effects) =
    open_ends s.effects (λ h. post_no_close before u (made_text u.home u.serial) at borne m all (subst HasClose effects h))
last_of W id_of borne u s (course.closed session effects) = subst EndsAtClose (sym effects) refl

pub close_is_last : (u : ServerSession) (e : ServerEvent) → EndsAtClose (effects_of u e)
close_is_last u e = last_of (IsWelcome e) (id_given e) (tags_given u e) u (step_by u e) (course_of u e)

-- and nothing else closes a session
still_open : (W : Type 0) (id_of : Option (List ℕ)) (borne : List ℕ) (u : ServerSession) (s : ServerStep) → Course W id_of borne u s
    → u.is_closed ≡ false → s.session.is_closed ≡ true → HasClose s.effects
still_open W id_of borne u s (course.quiet same all) was is = absurd (not_up u.is_closed was (sym same.over ∙ is))
still_open W id_of borne u s (course.passing up same all) was is = absurd (not_up u.is_closed was (sym same.over ∙ is))
still_open W id_of borne u s (course.kept id at m up given session effects) was is =
    absurd (not_up u.is_closed was (sym (ap (λ (v : ServerSession). v.is_closed) session) ∙ is))
still_open W id_of borne u s (course.made before at m up session more all effects) was is =
    absurd (not_up u.is_closed was (sym (ap (λ (v : ServerSession). v.is_closed) session) ∙ is))
still_open W id_of borne u s (course.closed session effects) was is = subst HasClose (sym effects) tt

pub only_close_closes : (u : ServerSession) (e : ServerEvent) → u.is_closed ≡ false → (after u e).is_closed ≡ true → HasClose (effects_of u e)
only_close_closes u e was is = still_open (IsWelcome e) (id_given e) (tags_given u e) u (step_by u e) (course_of u e) was is

pub closed_run : (u : ServerSession) (events : List ServerEvent) → u.is_closed ≡ true → run u events ≡ u
closed_run u [] h = refl
closed_run u (e ∷ events) h =
    let same : after u e ≡ u = ap (λ (s : ServerStep). s.session) (closed_step u e h) in
    ap (λ (v : ServerSession). run v events) same ∙ closed_run u events h

pub closed_effects : (u : ServerSession) (events : List ServerEvent) → u.is_closed ≡ true → all_effects u events ≡ []
closed_effects u [] h = refl
closed_effects u (e ∷ events) h =
    let same : after u e ≡ u = ap (λ (s : ServerStep). s.session) (closed_step u e h) in
    let none : effects_of u e ≡ [] = ap (λ (s : ServerStep). s.effects) (closed_step u e h) in
    ap (λ (l : List UpEffect). l ++ all_effects (after u e) events) none
    ∙ ap (λ (v : ServerSession). all_effects v events) same ∙ closed_effects u events h
