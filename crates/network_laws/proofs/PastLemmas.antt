-- What a client is told depends on what the node held of its own account and network alone.
use Rattle.std.proofs.Common.{◌≡◌, ℕ, Bool, true, false, ◌&&◌, List, [], ◌∷◌, ◌++◌, codes, Some, None, refl, sym, ap, ◌∙◌, subst, if◌then◌else◌}
use Rattle.std.specs.List.{AllByRecursion}
use Rattle.std.proofs.lemmas.List.Elements.{filter_agree, filter_passes, recursion_from_All}
use Rattle.std.proofs.lemmas.Option.{same_Some}
use Rattle.irc_line.specs.Line.{Reading}
use Rattle.irc_reply.specs.Reply.{mark_text}
use Rattle.chat_change.specs.Buffer.{buffer_of}
use Rattle.chat_change.specs.Extent.{Extent, OfAccount, OfBuffer}
use Rattle.chat_change.specs.Key.{key_extent, key_of}
use Rattle.chat_change.specs.declared.change.Change.{Change}
use Rattle.chat_history.specs.Buffers.{is_of_network}
use Rattle.chat_history.specs.History.{mark}
use Rattle.chat_history.specs.Retention.{same_account}
use Rattle.chat_query.specs.Answers.{Answer, answer_of, marker_answer, marker_refusal, unknown}
use Rattle.chat_query.specs.OwnPast.{is_own, is_own_extent, own_past}
use Rattle.chat_query.specs.Buffers.{has_buffer, scope_of}
use Rattle.chat_query.specs.Scope.{Scope}
use Rattle.chat_query.specs.declared.facts.Facts.{Facts}
use Rattle.cluster_directory.specs.declared.config.SessionConfig.{SessionConfig}
use Rattle.client_session.specs.declared.effect.Effect.{Effect}
use Rattle.client_session.specs.declared.stage.Stage.{Stage}
use Rattle.client_session.specs.declared.stage.Stage.TheVariants.{Waiting, Registered, Closed}
use Rattle.client_session.specs.Events.{ClientEvent, Answer as Answered}
use Rattle.client_session.specs.Session.{facts_in, session_after}
use Rattle.network_log.specs.Facts.{NodeFacts}
use Rattle.network_log.specs.Host.{BatchEntry, Posted, PassedOn, Renamed, Entered}
use Rattle.network_log.specs.Share.{marker_text, nick_by, share_of}
use Rattle.network_laws.specs.LetIn.{IsOfNetwork}
use Rattle.network_laws.specs.Past.{AreOfNetwork, HasSameOf, holding, scope_in}
use Rattle.network_laws.specs.Told.{Course, Connects, Hears, IsSaid, IsAnswered, IsUnanswered, IsDone, IsOffered, IsShared, IsInformed}

-- what the law of answers says
abbrev pub OfOwnPast : Type 0
OfOwnPast = (changes : List Change) (f : Facts) (line : Reading) → answer_of (own_past (scope_of f) changes) f line ≡ answer_of changes f line

-- ---- the changes of an account and a network

extent-alike : (a b : Scope) → a.account ≡ b.account → a.network ≡ b.network → (extent : Extent) → is_own_extent a extent ≡ is_own_extent b extent
extent-alike a b of_account of_network (OfAccount account) = ap (λ (x : List ℕ). same_account account x) of_account
extent-alike a b of_account of_network (OfBuffer buffer) =
    ap (λ (x : List ℕ). is_of_network x a.network buffer) of_account ∙ ap (λ (x : List ℕ). is_of_network b.account x buffer) of_network

past-alike : (a b : Scope) → a.account ≡ b.account → a.network ≡ b.network → (changes : List Change) → own_past a changes ≡ own_past b changes
past-alike a b of_account of_network changes =
    filter_agree (is_own a) (is_own b) (λ change. extent-alike a b of_account of_network (key_extent (key_of change))) changes

-- the own past of a set is of the account and the network
own-passes : (scope : Scope) (changes : List Change) → AllByRecursion (λ change. is_own scope change ≡ true) (own_past scope changes)
own-passes scope changes = recursion_from_All (λ change. is_own scope change ≡ true) (own_past scope changes) (filter_passes (is_own scope) changes)

-- and is all of its own past
all-kept : (scope : Scope) (changes : List Change) → AllByRecursion (λ change. is_own scope change ≡ true) changes → own_past scope changes ≡ changes
all-kept scope [] all = refl
all-kept scope (change ∷ changes) all = rw (all.0, all-kept scope changes all.1) refl

-- ---- what is told by it

is-of : (config : SessionConfig) (session : Stage) (f : Facts) → IsOfNetwork config session → facts_in session ≡ Some f
    → (f.account ≡ config.account) × (f.network ≡ config.network)
is-of config (Waiting w) f own e = absurd own
is-of config (Registered o) f own e =
    subst (λ (v : Facts). (v.account ≡ config.account) × (v.network ≡ config.network)) (same_Some o f e) own
is-of config Closed f own e = absurd (cc e)

same-answer : OfOwnPast → (config : SessionConfig) (f : Facts) (line : Reading) (a b : List Change) → (f.account ≡ config.account) × (f.network ≡ config.network)
    → own_past (scope_in config) a ≡ own_past (scope_in config) b → answer_of a f line ≡ answer_of b f line
same-answer law config f line a b own e =
    let alike : (changes : List Change) → own_past (scope_of f) changes ≡ own_past (scope_in config) changes = past-alike (scope_of f) (scope_in config) own.0 own.1 in
    sym (law a f line) ∙ ap (λ (changes : List Change). answer_of changes f line) (alike a ∙ e ∙ sym (alike b)) ∙ law b f line

-- the question for a marker
abbrev question_of : List ℕ → Reading
question_of target = record { tags = None; source = None; command = codes "MARKREAD"; parameters = target ∷ [] }

-- the answer to it, by whether the session follows markers and whether it has that buffer
abbrev answer_by : Bool → Bool → Facts → List ℕ → List Change → Answer
answer_by follows has f target held =
    if follows then (if has then marker_answer held f target else marker_refusal f (codes "INVALID_PARAMS") (codes "Invalid parameters")) else unknown f (codes "MARKREAD")

abbrev text_by : Bool → Bool → Facts → List ℕ → List Change → List ℕ
text_by follows has f target held =
    if follows && has then mark_text f.cluster target (mark held (buffer_of f.account f.network target)) else []

text-from : (follows has : Bool) (f : Facts) (target : List ℕ) (a b : List Change) → answer_by follows has f target a ≡ answer_by follows has f target b
    → text_by follows has f target a ≡ text_by follows has f target b
text-from true true f target a b e = ap (λ (v : Answer). v.text) e
text-from true false f target a b e = refl
text-from false has f target a b e = refl

same-marker : OfOwnPast → (config : SessionConfig) (f : Facts) (target : List ℕ) (a b : List Change) → (f.account ≡ config.account) × (f.network ≡ config.network)
    → own_past (scope_in config) a ≡ own_past (scope_in config) b → marker_text a f target ≡ marker_text b f target
same-marker law config f target a b own e =
    text-from f.caps.read_marker (has_buffer f target) f target a b (same-answer law config f (question_of target) a b own e)

same-share : OfOwnPast → (config : SessionConfig) (f : Facts) (nick : List ℕ) (entry : BatchEntry) (a b : List Change) → (f.account ≡ config.account) × (f.network ≡ config.network)
    → own_past (scope_in config) a ≡ own_past (scope_in config) b → share_of a f nick entry ≡ share_of b f nick entry
same-share law config f nick (Posted change is_own) a b own e = refl
same-share law config f nick (PassedOn text to) a b own e = refl
same-share law config f nick (Renamed new is_passed_on) a b own e = refl
same-share law config f nick (Entered channel) a b own e = same-marker law config f channel a b own e

-- ---- courses

pub told-the-same : (facts : NodeFacts) → OfOwnPast → (Other : List Change → Type 0) (config : SessionConfig) → HasSameOf config facts.held Other
    → {events : List ClientEvent} {session : Stage} {todo : List Effect} {waiting : List ℕ} {heard : List BatchEntry} {nick told : List ℕ}
    → Course facts config events session todo waiting heard nick told → Course (holding Other facts) config events session todo waiting heard nick told
told-the-same facts law Other config has Connects = Connects
told-the-same facts law Other config has (Hears event line c) = Hears event line (told-the-same facts law Other config has c)
told-the-same facts law Other config has (IsSaid text c) = IsSaid text (told-the-same facts law Other config has c)
told-the-same facts law Other config has (IsAnswered {events} {session} {todo} {waiting} {heard} {nick} {told} question held f line h e own r c) =
    let other : (o : List Change) × Other o × (own_past (scope_in config) held ≡ own_past (scope_in config) o) = has held h in
    let same : answer_of held f line ≡ answer_of other.0 f line = same-answer law config f line held other.0 (is-of config session f own e) other.2 in
    let P : Answer → Type 0 = λ a. Course (holding Other facts) config (events ++ Answered a.answered ∷ []) (session_after session a.answered) todo (waiting ++ a.text) heard nick told in
    subst P (sym same) (IsAnswered question other.0 f line other.1 e own r (told-the-same facts law Other config has c))
told-the-same facts law Other config has (IsUnanswered question none c) = IsUnanswered question none (told-the-same facts law Other config has c)
told-the-same facts law Other config has (IsDone effect silent c) = IsDone effect silent (told-the-same facts law Other config has c)
told-the-same facts law Other config has (IsOffered count whole c) = IsOffered count whole (told-the-same facts law Other config has c)
told-the-same facts law Other config has (IsShared {events} {session} {todo} {waiting} {heard} {nick} {told} held f entry h e own c) =
    let other : (o : List Change) × Other o × (own_past (scope_in config) held ≡ own_past (scope_in config) o) = has held h in
    let same : share_of held f nick entry ≡ share_of other.0 f nick entry = same-share law config f nick entry held other.0 (is-of config session f own e) other.2 in
    let P : List ℕ → Type 0 = λ t. Course (holding Other facts) config events session todo waiting (heard ++ entry ∷ []) (nick_by nick entry) (told ++ t) in
    subst P (sym same) (IsShared other.0 f entry other.1 e own (told-the-same facts law Other config has c))
told-the-same facts law Other config has (IsInformed {events} {session} {todo} {waiting} {heard} {nick} {told} held f target h e own c) =
    let other : (o : List Change) × Other o × (own_past (scope_in config) held ≡ own_past (scope_in config) o) = has held h in
    let same : marker_text held f target ≡ marker_text other.0 f target = same-marker law config f target held other.0 (is-of config session f own e) other.2 in
    let P : List ℕ → Type 0 = λ t. Course (holding Other facts) config events session todo waiting heard nick (told ++ t) in
    subst P (sym same) (IsInformed other.0 f target other.1 e own (told-the-same facts law Other config has c))

pub told-of-its-own : (facts : NodeFacts) → OfOwnPast → (config : SessionConfig)
    → {events : List ClientEvent} {session : Stage} {todo : List Effect} {waiting : List ℕ} {heard : List BatchEntry} {nick told : List ℕ}
    → Course facts config events session todo waiting heard nick told → Course (holding (AreOfNetwork config) facts) config events session todo waiting heard nick told
told-of-its-own facts law config c =
    told-the-same facts law (AreOfNetwork config) config
    (λ changes h. (
      own_past (scope_in config) changes,
      own-passes (scope_in config) changes,
      sym (all-kept (scope_in config) (own_past (scope_in config) changes) (own-passes (scope_in config) changes)),
    )) c
