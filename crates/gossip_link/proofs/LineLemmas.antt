-- The lines of a connection, in turn.
use Rattle.std.proofs.Common.{◌≡◌, ℕ, List, [], ◌∷◌, ◌++◌, Option, Some, None, Ok, Err, true, false, refl, sym, ap, ◌∙◌, subst, ◌⊎◌, inl, inr, ⊎_elim}
use Rattle.peer_lines.specs.Gather as gather
use Rattle.peer_lines.specs.Gather.{Gather, pushed}
use Rattle.peer_lines.specs.declared.gather.Arrived.{Arrived}
use Rattle.peer_lines.specs.declared.peer_line.PeerLine.{PeerLine}
use Rattle.cluster_directory.specs.Terms.{Terms}
use Rattle.gossip_link.specs.Handshake.{after, after_all, action, handed_to, last_action}
use Rattle.gossip_link.specs.declared.handshake.Side.{Side}
use Rattle.gossip_link.specs.declared.handshake.Side.TheVariants.{Opener, Acceptor}
use Rattle.gossip_link.specs.declared.handshake.HandshakeStage.{HandshakeStage}
use Rattle.gossip_link.specs.declared.handshake.HandshakeStage.TheVariants.{Silent, Refused}
use Rattle.gossip_link.specs.declared.handshake.Action.{Action}
use Rattle.gossip_link.specs.declared.handshake.Action.TheVariants as act
use Rattle.gossip_link.specs.declared.heard.Heard.TheVariants.{Message, Close}
use Rattle.gossip_link.specs.declared.handshake.Handshake.{Handshake}
use Rattle.gossip_link.specs.Session.{Session, Step, new, step, acted, gathered, greeting, fault_of, is_close}
use Rattle.gossip_link.specs.Pace as pace
use Rattle.gossip_link.specs.Lines.{after_lines, last_step}

-- ---- what is done because of an action

-- the session after it is of the same side, and as far as before, or the connection is over
record Goes (s : Session) (x : Step) : Type 0 where
  side : x.session.handshake.side ≡ s.handshake.side
  stage : (x.session.handshake.stage ≡ s.handshake.stage) ⊎ (x.session.handshake.stage ≡ Refused)
  ends : is_close x.heard ≡ true → x.session.handshake.stage ≡ Refused
  rests : is_close x.heard ≡ true → pace.is_due x.session.pace ≡ false

gathered_goes : (s : Session) (place : ℕ) (g : Gather) (answer : gather.ArrivedOrFault) → Goes s (gathered s place g answer)
gathered_goes s place g (Ok None) = record { side = refl; stage = inl refl; ends = λ e. cc e; rests = λ e. cc e }
gathered_goes s place g (Ok (Some arrived)) = record { side = refl; stage = inl refl; ends = λ e. cc e; rests = λ e. cc e }
gathered_goes s place g (Err fault) = record { side = refl; stage = inr refl; ends = λ _. refl; rests = λ _. refl }

acted_goes : (t : Terms) (s : Session) (l : Option PeerLine) (a : Action) → Goes s (acted t s l a)
acted_goes t s l act.Wait = record { side = refl; stage = inl refl; ends = λ e. cc e; rests = λ e. cc e }
acted_goes t s None (act.GreetAndHandUp place) = record { side = refl; stage = inr refl; ends = λ _. refl; rests = λ _. refl }
acted_goes t s (Some l) (act.GreetAndHandUp place) =
    let goes = gathered_goes s place (pushed s.gather l).gather (pushed s.gather l).answer in
    record { side = goes.side; stage = goes.stage; ends = goes.ends; rests = goes.rests }
acted_goes t s None (act.HandUp place) = record { side = refl; stage = inr refl; ends = λ _. refl; rests = λ _. refl }
acted_goes t s (Some l) (act.HandUp place) = gathered_goes s place (pushed s.gather l).gather (pushed s.gather l).answer
acted_goes t s l act.Close = record { side = refl; stage = inr refl; ends = λ _. refl; rests = λ _. refl }

gathered_place : (s : Session) (place place' : ℕ) (g : Gather) (answer : gather.ArrivedOrFault) (arrived : Arrived) → (gathered s place g answer).heard ≡ Message place' arrived → place ≡ place'
gathered_place s place place' g (Ok None) arrived e = absurd (cc)
gathered_place s place place' g (Ok (Some a)) arrived e = cc e
gathered_place s place place' g (Err fault) arrived e = absurd (cc)

acted_place : (t : Terms) (s : Session) (l : Option PeerLine) (a : Action) (place : ℕ) (arrived : Arrived) → (acted t s l a).heard ≡ Message place arrived → handed_to a ≡ Some place
acted_place t s l act.Wait place arrived e = absurd (cc)
acted_place t s None (act.GreetAndHandUp p) place arrived e = absurd (cc)
acted_place t s (Some l) (act.GreetAndHandUp p) place arrived e =
    ap Some (gathered_place s p place (pushed s.gather l).gather (pushed s.gather l).answer arrived e)
acted_place t s None (act.HandUp p) place arrived e = absurd (cc)
acted_place t s (Some l) (act.HandUp p) place arrived e =
    ap Some (gathered_place s p place (pushed s.gather l).gather (pushed s.gather l).answer arrived e)
acted_place t s l act.Close place arrived e = absurd (cc)

gathered_silent : (s : Session) (place : ℕ) (g : Gather) (answer : gather.ArrivedOrFault) → (gathered s place g answer).sent ≡ []
gathered_silent s place g (Ok None) = refl
gathered_silent s place g (Ok (Some arrived)) = refl
gathered_silent s place g (Err fault) = refl

acted_sent : (t : Terms) (s : Session) (l : Option PeerLine) (a : Action) → ((acted t s l a).sent ≡ []) ⊎ ((place : ℕ) × (a ≡ act.GreetAndHandUp place) × ((acted t s l a).sent ≡ greeting t place))
acted_sent t s l act.Wait = inl refl
acted_sent t s l (act.GreetAndHandUp place) = inr (place, refl, refl)
acted_sent t s None (act.HandUp place) = inl refl
acted_sent t s (Some l) (act.HandUp place) = inl (gathered_silent s place (pushed s.gather l).gather (pushed s.gather l).answer)
acted_sent t s l act.Close = inl refl

-- what comes of a line is what is done because of its action
module _ (t : Terms) (s : Session) (l : Option PeerLine) (a : Action) (h : Handshake) (is : h ≡ record s.handshake { stage = after t s.handshake.stage l }) (e : a ≡ action s.handshake.side h.stage) where
  its_action : action s.handshake.side (after t s.handshake.stage l) ≡ a
  its_action = ap (λ (k : Handshake). action s.handshake.side k.stage) (sym is) ∙ sym e

  acted_as : acted t (record s { handshake = h }) l a ≡ step t s l
  acted_as = λ i. acted t (record s { handshake = is i }) l (sym its_action i)

  pub acted_session : (acted t (record s { handshake = h }) l a).session ≡ (step t s l).session
  acted_session = ap (λ (x : Step). x.session) acted_as

  pub acted_heard : (acted t (record s { handshake = h }) l a).heard ≡ (step t s l).heard
  acted_heard = ap (λ (x : Step). x.heard) acted_as

-- ---- a connection that is over

still_refused : (t : Terms) (l : Option PeerLine) → after t Refused l ≡ Refused
still_refused t None = refl
still_refused t (Some l) = refl

refused_closes : (side : Side) → action side Refused ≡ act.Close
refused_closes (Opener to) = refl
refused_closes Acceptor = refl

-- the action because of a line, where the connection is over
over : (t : Terms) (side : Side) (stage : HandshakeStage) (l : Option PeerLine) → stage ≡ Refused → action side (after t stage l) ≡ act.Close
over t side stage l e = ap (λ x. action side (after t x l)) e ∙ ap (action side) (still_refused t l) ∙ refused_closes side

-- ---- lines

after_one_more : (t : Terms) (x : HandshakeStage) (lines : List (Option PeerLine)) (l : Option PeerLine) → after_all t x (lines ++ l ∷ []) ≡ after t (after_all t x lines) l
after_one_more t x [] l = refl
after_one_more t x (m ∷ lines) l = after_one_more t (after t x m) lines l

record Stands (s : Session) (side : Side) (x : HandshakeStage) : Type 0 where
  same : s.handshake.side ≡ side
  reached : (s.handshake.stage ≡ x) ⊎ (s.handshake.stage ≡ Refused)

stands_after : (t : Terms) (s : Session) (side : Side) (x : HandshakeStage) (l : Option PeerLine) → Stands s side x → Stands (step t s l).session side (after t x l)
stands_after t s side x l h =
    let here : Session = record s { handshake = record s.handshake { stage = after t s.handshake.stage l } } in
    let goes = acted_goes t here l (action s.handshake.side (after t s.handshake.stage l)) in
    record {
      same = goes.side ∙ h.same;
      reached = ⊎_elim
          (λ e. ⊎_elim
          (λ r. inl (e ∙ ap (λ y. after t y l) r))
          (λ r. inr (e ∙ ap (λ y. after t y l) r ∙ still_refused t l)) h.reached)
          (λ e. inr e) goes.stage;
    }

stands : (t : Terms) (s : Session) (side : Side) (x : HandshakeStage) (lines : List (Option PeerLine)) → Stands s side x → Stands (after_lines t s lines) side (after_all t x lines)
stands t s side x [] h = h
stands t s side x (l ∷ lines) h = stands t (step t s l).session side (after t x l) lines (stands_after t s side x l h)

begins : (t : Terms) (side : Side) (lines : List (Option PeerLine)) → Stands (after_lines t (new side) lines) side (after_all t Silent lines)
begins t side lines = stands t (new side) side Silent lines (record { same = refl; reached = inl refl })

-- the action because of the last line is the handshake's, or the connection was over
last_of : (t : Terms) (side : Side) (before : List (Option PeerLine)) (l : Option PeerLine) → let s = after_lines t (new side) before in (action s.handshake.side (after t s.handshake.stage l) ≡ last_action t side (before ++ l ∷ [])) ⊎ (action s.handshake.side (after t s.handshake.stage l) ≡ act.Close)
last_of t side before l =
    let s : Session = after_lines t (new side) before in
    let h = begins t side before in
    ⊎_elim
    (λ r. inl (ap (λ y. action y (after t s.handshake.stage l)) h.same ∙ ap (λ y. action side (after t y l)) r ∙ ap (action side) (sym (after_one_more t Silent before l))))
    (λ r. inr (over t s.handshake.side s.handshake.stage l r)) h.reached

close_is_no_message : (place : ℕ) → None ≡ Some place → ⊥
close_is_no_message place e = cc

close_is_no_greeting : (place : ℕ) → act.Close ≡ act.GreetAndHandUp place → ⊥
close_is_no_greeting place e = cc

pub handed : (t : Terms) (side : Side) (before : List (Option PeerLine)) (l : Option PeerLine) (place : ℕ) (arrived : Arrived) → (last_step t side before l).heard ≡ Message place arrived → handed_to (last_action t side (before ++ l ∷ [])) ≡ Some place
handed t side before l place arrived e =
    let s : Session = after_lines t (new side) before in
    let a : Action = action s.handshake.side (after t s.handshake.stage l) in
    let is : handed_to a ≡ Some place = acted_place t (record s { handshake = record s.handshake { stage = after t s.handshake.stage l } }) l a place arrived e in
    ⊎_elim (λ r. ap handed_to (sym r) ∙ is) (λ r. absurd (close_is_no_message place (ap handed_to (sym r) ∙ is))) (last_of t side before l)

pub sends : (t : Terms) (side : Side) (before : List (Option PeerLine)) (l : Option PeerLine) → ((last_step t side before l).sent ≡ []) ⊎ ((place : ℕ) × (last_action t side (before ++ l ∷ []) ≡ act.GreetAndHandUp place) × ((last_step t side before l).sent ≡ greeting t place))
sends t side before l =
    let s : Session = after_lines t (new side) before in
    let a : Action = action s.handshake.side (after t s.handshake.stage l) in
    ⊎_elim (λ e. inl e)
    (λ is. ⊎_elim (λ r. inr (is.0, sym r ∙ is.1, is.2)) (λ r. absurd (close_is_no_greeting is.0 (sym r ∙ is.1))) (last_of t side before l))
    (acted_sent t (record s { handshake = record s.handshake { stage = after t s.handshake.stage l } }) l a)

closes_at : (t : Terms) (s : Session) (l : Option PeerLine) (a : Action) → a ≡ act.Close → ((acted t s l a).heard ≡ Close (fault_of t.me.node l)) × ((acted t s l a).sent ≡ [])
closes_at t s l a e = subst (λ b. ((acted t s l b).heard ≡ Close (fault_of t.me.node l)) × ((acted t s l b).sent ≡ [])) (sym e) (refl, refl)

pub nothing_follows : (t : Terms) (s : Session) (l next : Option PeerLine) → is_close (step t s l).heard ≡ true → (pace.is_due (step t s l).session.pace ≡ false) × ((step t (step t s l).session next).heard ≡ Close (fault_of t.me.node next)) × ((step t (step t s l).session next).sent ≡ [])
nothing_follows t s l next e =
    let here : Session = record s { handshake = record s.handshake { stage = after t s.handshake.stage l } } in
    let goes = acted_goes t here l (action s.handshake.side (after t s.handshake.stage l)) in
    let then : Session = (step t s l).session in
    let more = closes_at t (record then { handshake = record then.handshake { stage = after t then.handshake.stage next } }) next
    (action then.handshake.side (after t then.handshake.stage next))
    (over t then.handshake.side then.handshake.stage next (goes.ends e)) in
    (goes.rests e, more.0, more.1)
