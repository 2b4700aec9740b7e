-- What a node holds, what it shows, and what it is after effects.
use Rattle.std.proofs.Common.{◌≡◌, ℕ, ◌+◌, ◌<◌, get_or, Bool, List, [], ◌∷◌, ◌++◌, drop, length, Option, None, Some, Result, Ok, Err, refl, sym, ap, ◌∙◌, subst, inl, inr, append_assoc, append-nil}
use Rattle.std.specs.Prelude.{◌↔◌, OnOk, IfOk, IsTrue, MatchOption}
use Rattle.std.specs.Io.KnownBytes.{Appends}
use Rattle.std.proofs.KnownBytes.{Appends-trans, Appends-nil}
use Rattle.std.specs.List.{list_any}
use Rattle.std.specs.Str.{bytes_eq}
use Rattle.std.specs.Bool.{one_answer}
use Rattle.std.proofs.lemmas.List.{drop_more}
use Rattle.std.proofs.lemmas.List.Folds.{Any-from_list_any, list_any-from_Any}
use Rattle.std.proofs.lemmas.Slice.Eq.{bytes_eq-Decides}
use Rattle.byte_text.specs.Writes.{AppendsPrefix}
use Rattle.byte_text.proofs.CallerLemmas.{prefix_of_first, prefix_of_second, prefix_same}
use Rattle.chat_change.specs.Buffer.{Buffer}
use Rattle.chat_change.specs.Record.{Record}
use Rattle.chat_change.specs.declared.change.Change.{Change}
use Rattle.chat_history.specs.History.{norm}
use Rattle.chat_history.specs.Lookups.{IsShown}
use Rattle.chat_history.specs.StateValue.{StateValue, HasTaken, state_after}
use Rattle.chat_history.specs.Visible.{visible}
use Rattle.cluster_directory.specs.Directory.{Directory}
use Rattle.client_session.specs.Lookup.{MessageName, name_sought}
use Rattle.client_session.specs.Session.{step}
use Rattle.client_session.specs.Step.{Step}
use Rattle.client_session.specs.declared.effect.Effect.{Effect}
use Rattle.client_session.proofs.CallerLemmas.{step_unseen}
use Rattle.bnc_server.specs.declared.fault.ReplayFault.{ReplayFault}
use Rattle.bnc_server.specs.Node.{Node, after_taking, with_session, reply_to_effect, reply_to_effects, is_shown, step_of}
use Rattle.bnc_server.specs.HeldNode.{HeldNode, held_node}
use Rattle.bnc_server.specs.Faults.{MayStop, MayStopIn}

-- a state took a change
pub node_took : (old : HeldNode) (state : StateValue) (changes : List Change) → HasTaken old.state changes state → (node : Node) → old ≡ held_node node
    → record old { state = state } ≡ held_node (after_taking node changes)
node_took old state changes taken node is =
    let new = taken 0 node.taken (ap (λ (h : HeldNode). h.state) is) in
    λ i. record (is i) { state = new i }

-- the history of a node is the normal form of what it took
pub history_is : (held : HeldNode) (node : Node) → held ≡ held_node node → held.state.history ≡ norm node.taken
history_is held node is = ap (λ (h : HeldNode). h.state.history) is

-- ---- what a session sees

-- a look at a state tells whether a visible record has that id
seen : (taken : List Change) (b : Buffer) (id : List ℕ) (shown : Bool) → (IsTrue shown ↔ IsShown (norm taken) b id)
    → shown ≡ list_any (λ (r : Record). bytes_eq r.id id) (visible taken b)
seen taken b id shown is =
    one_answer shown (list_any (λ (r : Record). bytes_eq r.id id) (visible taken b)) is (
      λ e. (let a = Any-from_list_any (λ (r : Record). bytes_eq r.id id) (visible taken b) e in (a.1, ((a.0, a.2, a.3), (bytes_eq-Decides a.1.id id).0 a.4))),
      λ h. list_any-from_Any (λ (r : Record). bytes_eq r.id id) (visible taken b) (h.1.0.0, h.0, h.1.0.1, h.1.0.2, (bytes_eq-Decides h.0.id id).1 h.1.1),
    )

-- what a look at a state tells, if there is one
abbrev pub HasLooked : StateValue → Option MessageName → Bool → StateValue → Type 0
HasLooked old sought shown new =
    MatchOption sought (new ≡ old) (λ m. (new ≡ old) × (IsTrue shown ↔ IsShown old.history m.buffer m.id))

-- a step of what is held is the step of the node
pub step_is : (directory : Directory) (bytes : List ℕ) (shown : Bool) (held : HeldNode) (state : StateValue) (s : Step) (node : Node) → held ≡ held_node node
    → HasLooked held.state (name_sought held.session bytes) shown state → s ≡ step directory shown held.session bytes
    → (s.effects ≡ (step_of directory node bytes).effects) × (record held { session = s.session; state = state } ≡ held_node (with_session node (step_of directory node bytes).session))
step_is directory bytes shown held state s node is looked e =
    let session : held.session ≡ node.session = ap (λ (h : HeldNode). h.session) is in
    let same = go (name_sought held.session bytes) refl looked in
    let all : s ≡ step_of directory node bytes = e ∙ same.1 ∙ (λ i. step directory (is_shown node.taken (name_sought (session i) bytes)) (session i) bytes) in
    let kept : state ≡ state_after 0 node.taken = same.0 ∙ ap (λ (h : HeldNode). h.state) is in
    (ap (λ (t : Step). t.effects) all, λ i. record (is i) { session = (all i).session; state = kept i }) where
      go : (o : Option MessageName) → name_sought held.session bytes ≡ o → HasLooked held.state o shown state
          → (state ≡ held.state) × (step directory shown held.session bytes ≡ step directory (is_shown node.taken o) held.session bytes)
      go None f looked = (looked, step_unseen directory shown held.session bytes f)
      go (Some place) f looked =
          let told = subst (λ h. IsTrue shown ↔ IsShown h place.buffer place.id) (history_is held node is) looked.1 in
          (looked.0, ap (λ b. step directory b held.session bytes) (seen node.taken place.buffer place.id shown told))

-- what holds holds at `Ok`
pub on_ok : {T E : Type 0} (r : Result T E) (P : Type 0) → P → OnOk r P
on_ok (Ok x) P p = p
on_ok (Err e) P p = tt

-- ---- effects so far

-- Of the effects these are left. What was written is the rest of the node's reply before what it still has to say.
pub record HasDone (old new : Option (List ℕ)) (node : Node) (effects rest : List Effect) (self : HeldNode) : Type 0 where
  pub now : Node
  pub is_held : self ≡ held_node now
  pub text : List ℕ
  pub written : Appends old new text
  pub ends : (reply_to_effects node effects).node ≡ (reply_to_effects now rest).node
  pub spelled : (reply_to_effects node effects).text ≡ text ++ (reply_to_effects now rest).text
  pub faults : (fault : ReplayFault) → MayStopIn now rest fault → MayStopIn node effects fault

pub done-nothing : (a : Option (List ℕ)) (node : Node) (effects : List Effect) (self : HeldNode) → self ≡ held_node node → HasDone a a node effects effects self
done-nothing a node effects self is = record {
  now = node;
  is_held = is;
  text = [];
  written = Appends-nil a;
  ends = refl;
  spelled = refl;
  faults = λ fault may. may;
}

module _ (a b : Option (List ℕ)) (node : Node) (effects rest : List Effect) (effect : Effect) (self : HeldNode) (done : HasDone a b node effects (effect ∷ rest) self) where
  pub done-one : (c : Option (List ℕ)) (self' : HeldNode)
      → ((node : Node) → self ≡ held_node node → Appends b c (reply_to_effect node effect).text)
      → ((node : Node) → self ≡ held_node node → self' ≡ held_node (reply_to_effect node effect).node)
      → HasDone a c node effects rest self'
  done-one c self' text is =
      let said = (reply_to_effect done.now effect).text in
      let next = (reply_to_effect done.now effect).node in record {
        now = next;
        is_held = is done.now done.is_held;
        text = done.text ++ said;
        written = Appends-trans a b c done.text said done.written (text done.now done.is_held);
        ends = done.ends;
        spelled = done.spelled ∙ sym (append_assoc done.text said (reply_to_effects next rest).text);
        faults = λ fault may. done.faults fault (inr may);
      }

  pub stopped_text : (c : Option (List ℕ)) → ((node : Node) → self ≡ held_node node → AppendsPrefix b c (reply_to_effect node effect).text)
      → AppendsPrefix a c (reply_to_effects node effects).text
  stopped_text c stops =
      let said = (reply_to_effect done.now effect).text in
      let next = (reply_to_effect done.now effect).node in
      prefix_same a c _ _ (sym done.spelled)
      (prefix_of_second a b c done.text (said ++ (reply_to_effects next rest).text) done.written
      (prefix_of_first b c said (reply_to_effects next rest).text (stops done.now done.is_held)))

  pub stopped_fault : (fault : ReplayFault) → ((node : Node) → self ≡ held_node node → MayStop node effect fault) → MayStopIn node effects fault
  stopped_fault fault may = done.faults fault (inl (may done.now done.is_held))

module _ (a b : Option (List ℕ)) (node : Node) (effects : List Effect) (self : HeldNode) (done : HasDone a b node effects [] self) where
  pub done_text : Appends a b (reply_to_effects node effects).text
  done_text = subst (Appends a b) (sym (done.spelled ∙ append-nil done.text)) done.written

  pub done_node : self ≡ held_node (reply_to_effects node effects).node
  done_node = done.is_held ∙ ap held_node (sym done.ends)

-- the effects that are left begin with the one at that place
pub left : (effects : List Effect) (i : ℕ) (effect : Effect) → effect ≡ get_or effects i effect → i < length effects → drop i effects ≡ effect ∷ drop (i + 1) effects
left effects i effect is h = drop_more effects i effect h ∙ ap (λ e. e ∷ drop (i + 1) effects) (sym is)

-- of an answer that is known
pub if_ok : {T E : Type 0} (r : Result T E) (x : T) (P : T → Type 0) → r ≡ Ok x → P x → IfOk r P
if_ok r x P is p = subst (λ q. IfOk q P) (sym is) p

pub if_err : {T E : Type 0} (r : Result T E) (e : E) (P : T → Type 0) → r ≡ Err e → IfOk r P
if_err r e P is = subst (λ q. IfOk q P) (sym is) tt
