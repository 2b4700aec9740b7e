-- What came in a course, and what was said by then.
use Rattle.std.proofs.Common.{◌≡◌, ℕ, Bool, true, false, cond, ◌&&◌, List, [], ◌∷◌, ◌++◌, Option, Some, None, Ok, Err, refl, sym, ap, ◌∙◌, subst, ◌⊎◌, inl, inr, ⊎_elim, nat_lt, append-nil, append_assoc}
use Rattle.std.proofs.lemmas.Slice.Zip.{all_zipped_more}
use Rattle.std.specs.Prelude.{slice_get}
use Rattle.irc_line.specs.Stream.{Item, items}
use Rattle.peer_lines.specs.Gather as gather
use Rattle.peer_lines.specs.Gather.{Gather, pushed}
use Rattle.peer_lines.specs.declared.gather.Arrived.{Arrived}
use Rattle.peer_lines.specs.declared.peer_line.PeerLine.{PeerLine}
use Rattle.cluster_directory.specs.Terms.{Terms, names_of}
use Rattle.gossip_link.specs.Handshake.{ArePeers, after, action}
use Rattle.gossip_link.specs.declared.handshake.Handshake.{Handshake}
use Rattle.gossip_link.specs.declared.handshake.Side.{Side}
use Rattle.gossip_link.specs.declared.handshake.Action.{Action}
use Rattle.gossip_link.specs.declared.handshake.Action.TheVariants as act
use Rattle.gossip_link.specs.Lines.{after_lines, last_step}
use Rattle.gossip_link.specs.Pace as pace
use Rattle.gossip_link.specs.Session.{Session, Step, new, step, acted, handed_up, gathered, closed, fault_of, opening}
use Rattle.gossip_link.specs.declared.heard.Fault.{Fault}
use Rattle.gossip_link.specs.declared.heard.Fault.TheVariants.{BadLine}
use Rattle.gossip_link.specs.declared.heard.Heard.{Heard}
use Rattle.gossip_link.specs.declared.heard.Heard.TheVariants.{Nothing, Message}
use Rattle.gossip_link.specs.declared.pace.Pace.{Pace}
use Rattle.gossip_link.specs.declared.pace.TheConstants.{MOST_UNANSWERED}
use Rattle.chat_change.specs.declared.change.Change.{Change}
use Rattle.network_log.specs.Facts.{NodeFacts}
use Rattle.network_log.specs.Peer.{PeerCourse, Opens, Hears, Notes, Replies, Publishes, Ticks, Makes, Repeats, Reminds}
use Rattle.network_log.specs.Putting.{AreBrought}
use Rattle.network_log.specs.Telling.{IsToldToPeer}
use Rattle.network_laws.specs.Stranger.{AreLines, AreOfAPeer, ComesFrom, IsGreeted, IsLine}
use mathlib.Core.List.{IsPrefix}

-- ---- when packets are made plays no part in what comes of a line

-- the sessions differ by when packets are made alone
record Alike (a b : Session) : Type 0 where
  handshake : a.handshake ≡ b.handshake
  gather : a.gather ≡ b.gather

record AlikeSteps (x y : Step) : Type 0 where
  session : Alike x.session y.session
  heard : x.heard ≡ y.heard
  sent : x.sent ≡ y.sent

closed_alike : (a b : Session) → Alike a b → (fault : Fault) → AlikeSteps (closed a fault) (closed b fault)
closed_alike a b k fault = record {
  session = record { handshake = ap (λ (h : Handshake). (closed (record a { handshake = h }) fault).session.handshake) k.handshake; gather = refl };
  heard = refl;
  sent = refl;
}

gathered_alike : (a b : Session) → Alike a b → (place : ℕ) (g : Gather) (answer : gather.ArrivedOrFault) → AlikeSteps (gathered a place g answer) (gathered b place g answer)
gathered_alike a b k place g (Ok None) = record { session = record { handshake = k.handshake; gather = refl }; heard = refl; sent = refl }
gathered_alike a b k place g (Ok (Some arrived)) = record { session = record { handshake = k.handshake; gather = refl }; heard = refl; sent = refl }
gathered_alike a b k place g (Err fault) = closed_alike a b k BadLine

handed_alike : (a b : Session) → Alike a b → (place : ℕ) (l : Option PeerLine) → AlikeSteps (handed_up a place l) (handed_up b place l)
handed_alike a b k place None = closed_alike a b k BadLine
handed_alike a b k place (Some l) =
    subst (λ (x : Gather). AlikeSteps (gathered a place (pushed a.gather l).gather (pushed a.gather l).answer) (gathered b place (pushed x l).gather (pushed x l).answer))
    k.gather (gathered_alike a b k place (pushed a.gather l).gather (pushed a.gather l).answer)

acted_alike : (t : Terms) (a b : Session) → Alike a b → (l : Option PeerLine) (x : Action) → AlikeSteps (acted t a l x) (acted t b l x)
acted_alike t a b k l act.Wait = record { session = k; heard = refl; sent = refl }
acted_alike t a b k l (act.GreetAndHandUp place) =
    let h = handed_alike a b k place l in
    record { session = record { handshake = h.session.handshake; gather = h.session.gather }; heard = h.heard; sent = refl }
acted_alike t a b k l (act.HandUp place) = handed_alike a b k place l
acted_alike t a b k l act.Close = closed_alike a b k (fault_of t.me.node l)

step_alike : (t : Terms) (a b : Session) → Alike a b → (l : Option PeerLine) → AlikeSteps (step t a l) (step t b l)
step_alike t a b k l =
    let heard_by : Handshake → Handshake = λ h. record h { stage = after t h.stage l } in
    let act_of : Handshake → Action = λ h. action h.side (after t h.stage l) in
    let a' : Session = record a { handshake = heard_by a.handshake } in
    let b' : Session = record b { handshake = heard_by b.handshake } in
    let k' : Alike a' b' = record { handshake = ap heard_by k.handshake; gather = k.gather } in
    subst (λ (x : Action). AlikeSteps (acted t a' l (act_of a.handshake)) (acted t b' l x))
    (ap act_of k.handshake) (acted_alike t a' b' k' l (act_of a.handshake))

-- ---- what a line leaves as it was

gathered_side : (s : Session) (place : ℕ) (g : Gather) (answer : gather.ArrivedOrFault) → (gathered s place g answer).session.handshake.side ≡ s.handshake.side
gathered_side s place g (Ok None) = refl
gathered_side s place g (Ok (Some arrived)) = refl
gathered_side s place g (Err fault) = refl

acted_side : (t : Terms) (s : Session) (l : Option PeerLine) (x : Action) → (acted t s l x).session.handshake.side ≡ s.handshake.side
acted_side t s l act.Wait = refl
acted_side t s None (act.GreetAndHandUp place) = refl
acted_side t s (Some l) (act.GreetAndHandUp place) = gathered_side s place (pushed s.gather l).gather (pushed s.gather l).answer
acted_side t s None (act.HandUp place) = refl
acted_side t s (Some l) (act.HandUp place) = gathered_side s place (pushed s.gather l).gather (pushed s.gather l).answer
acted_side t s l act.Close = refl

step_side : (t : Terms) (s : Session) (l : Option PeerLine) → (step t s l).session.handshake.side ≡ s.handshake.side
step_side t s l =
    acted_side t (record s { handshake = record s.handshake { stage = after t s.handshake.stage l } }) l (action s.handshake.side (after t s.handshake.stage l))

gathered_greeted : (s : Session) (place : ℕ) (g : Gather) (answer : gather.ArrivedOrFault) → (gathered s place g answer).session.pace.is_greeted ≡ true → s.pace.is_greeted ≡ true
gathered_greeted s place g (Ok None) e = e
gathered_greeted s place g (Ok (Some arrived)) e = e
gathered_greeted s place g (Err fault) e = absurd (cc)

acted_greeted : (t : Terms) (s : Session) (l : Option PeerLine) (x : Action) → (acted t s l x).session.pace.is_greeted ≡ true → s.pace.is_greeted ≡ true
acted_greeted t s l act.Wait e = e
acted_greeted t s None (act.GreetAndHandUp place) e = absurd (cc)
acted_greeted t s (Some l) (act.GreetAndHandUp place) e = gathered_greeted s place (pushed s.gather l).gather (pushed s.gather l).answer e
acted_greeted t s None (act.HandUp place) e = absurd (cc)
acted_greeted t s (Some l) (act.HandUp place) e = gathered_greeted s place (pushed s.gather l).gather (pushed s.gather l).answer e
acted_greeted t s l act.Close e = absurd (cc)

step_greeted : (t : Terms) (s : Session) (l : Option PeerLine) → (step t s l).session.pace.is_greeted ≡ true → s.pace.is_greeted ≡ true
step_greeted t s l e =
    acted_greeted t (record s { handshake = record s.handshake { stage = after t s.handshake.stage l } }) l (action s.handshake.side (after t s.handshake.stage l)) e

given_up_greeted : (b : Bool) (p : Pace) → (cond b (record p { is_wanted = true; under_way = None }) p).is_greeted ≡ p.is_greeted
given_up_greeted true p = refl
given_up_greeted false p = refl

ticked_greeted : (now : ℕ) (p : Pace) → (pace.ticked now p).is_greeted ≡ p.is_greeted
ticked_greeted now p = given_up_greeted (pace.has_waited now p.under_way && nat_lt p.unanswered MOST_UNANSWERED) p

due_greeted : (a b : Bool) → (a && b) ≡ true → a ≡ true
due_greeted true b e = refl
due_greeted false b e = absurd (cc)

-- ---- lines

after_one_more : (t : Terms) (s : Session) (lines : List (Option PeerLine)) (l : Option PeerLine) → after_lines t s (lines ++ l ∷ []) ≡ (step t (after_lines t s lines) l).session
after_one_more t s [] l = refl
after_one_more t s (m ∷ lines) l = after_one_more t (step t s m).session lines l

greeted_by : {t : Terms} {came : List Item} {lines : List (Option PeerLine)} → AreLines came lines → ArePeers t lines → IsGreeted t came
greeted_by {t} {came} {lines} read are = record { first = came; more = []; lines = lines; all = sym (append-nil came); lines_are = read; are = are }

-- whatever comes behind that
greeted_behind : {t : Terms} {came : List Item} (more : List Item) → IsGreeted t came → IsGreeted t (came ++ more)
greeted_behind {t} {came} more g = record {
  first = g.first;
  more = g.more ++ more;
  lines = g.lines;
  all = ap (λ (x : List Item). x ++ more) g.all ∙ append_assoc g.first g.more more;
  lines_are = g.lines_are;
  are = g.are;
}

greeted_before : {t : Terms} {came : List Item} (item : Item) → IsGreeted t came → IsGreeted t (came ++ item ∷ [])
greeted_before item g = greeted_behind (item ∷ []) g

-- ---- courses

-- the lines are those of the peer at that place
abbrev pub ArePeersAt : Terms → List (Option PeerLine) → ℕ → Type 0
ArePeersAt t lines place = (are : ArePeers t lines) × (slice_get (names_of t) place ≡ Some are.peer.node)

comes_from : {t : Terms} {place : ℕ} {came : List Item} (lines : List (Option PeerLine)) → AreLines came lines → ArePeersAt t lines place → ComesFrom t place came
comes_from {t} {place} {came} lines read are = record { lines = lines; lines_are = read; are = are.0; is_there = are.1 }

greeted_from : {t : Terms} {place : ℕ} {came : List Item} → ComesFrom t place came → IsGreeted t came
greeted_from from = greeted_by from.lines_are from.are

record Stands (t : Terms) (side : Side) (s : Session) (brought : Heard) (noted : Option ℕ) (said : List ℕ) (came : List Item) : Type 0 where
  lines : List (Option PeerLine)
  lines_are : AreLines came lines
  same : s.handshake.side ≡ side
  alike : Alike (after_lines t (new side) lines) s
  opened : (said ≡ opening t side) ⊎ IsGreeted t came
  message : (place : ℕ) (arrived : Arrived) → brought ≡ Message place arrived → ComesFrom t place came
  placed : (place : ℕ) → noted ≡ Some place → IsGreeted t came
  paced : s.pace.is_greeted ≡ true → IsGreeted t came

no_message : (place : ℕ) (arrived : Arrived) → Nothing ≡ Message place arrived → ⊥
no_message place arrived e = cc

no_place : (place : ℕ) → None ≡ Some place → ⊥
no_place place e = cc

not_greeted : false ≡ true → ⊥
not_greeted e = cc

-- what comes of a line is said to nobody but a peer that has said hello, and a message comes from one alone
module _
    (arrives : (t : Terms) (side : Side) (before : List (Option PeerLine)) (line : Option PeerLine) (place : ℕ) (arrived : Arrived) → (last_step t side before line).heard ≡ Message place arrived → ArePeersAt t (before ++ line ∷ []) place)
    (sends : (t : Terms) (side : Side) (before : List (Option PeerLine)) (line : Option PeerLine) → ((last_step t side before line).sent ≡ []) ⊎ ArePeers t (before ++ line ∷ [])) where
  heard_stands : (t : Terms) (side : Side) (s : Session) (noted : Option ℕ) (said : List ℕ) (came : List Item) (item : Item) (l : Option PeerLine) → IsLine item l → Stands t side s Nothing noted said came → Stands t side (step t s l).session (step t s l).heard noted (said ++ (step t s l).sent) (came ++ item ∷ [])
  heard_stands t side s noted said came item l is h =
      let start : Session = after_lines t (new side) h.lines in
      let k : AlikeSteps (step t start l) (step t s l) = step_alike t start s h.alike l in
      let read : AreLines (came ++ item ∷ []) (h.lines ++ l ∷ []) = all_zipped_more IsLine came h.lines item l h.lines_are is in
      record {
        lines = h.lines ++ l ∷ [];
        lines_are = read;
        same = step_side t s l ∙ h.same;
        alike = subst (λ (x : Session). Alike x (step t s l).session) (sym (after_one_more t (new side) h.lines l)) k.session;
        opened = ⊎_elim
            (λ e. ⊎_elim
            (λ o. inl (ap (λ (x : List ℕ). said ++ x) (sym k.sent ∙ e) ∙ append-nil said ∙ o))
            (λ g. inr (greeted_before item g)) h.opened)
            (λ are. inr (greeted_by read are)) (sends t side h.lines l);
        message = λ place arrived e. comes_from (h.lines ++ l ∷ []) read (arrives t side h.lines l place arrived (k.heard ∙ e));
        placed = λ place e. greeted_before item (h.placed place e);
        paced = λ e. greeted_before item (h.paced (step_greeted t s l e));
      }

  replied_stands : (t : Terms) (side : Side) (s : Session) (p : Pace) (noted : Option ℕ) (said text : List ℕ) (came : List Item) (place : ℕ) (arrived : Arrived) → Stands t side s (Message place arrived) noted said came → Stands t side (record s { pace = p }) Nothing noted (said ++ text) came
  replied_stands t side s p noted said text came place arrived h =
      let greeted : IsGreeted t came = greeted_from (h.message place arrived refl) in
      record {
        lines = h.lines;
        lines_are = h.lines_are;
        same = h.same;
        alike = record { handshake = h.alike.handshake; gather = h.alike.gather };
        opened = inr greeted;
        message = λ other arrives e. absurd (no_message other arrives e);
        placed = h.placed;
        paced = λ e. greeted;
      }

  -- the pace alone is another one, and what is said is said to a greeted peer
  paced_stands : (t : Terms) (side : Side) (s : Session) (p : Pace) (brought : Heard) (noted : Option ℕ) (said text : List ℕ) (came : List Item) → (p.is_greeted ≡ true → s.pace.is_greeted ≡ true) → (said ≡ text) ⊎ IsGreeted t came → Stands t side s brought noted said came → Stands t side (record s { pace = p }) brought noted text came
  paced_stands t side s p brought noted said text came same to h = record {
    lines = h.lines;
    lines_are = h.lines_are;
    same = h.same;
    alike = record { handshake = h.alike.handshake; gather = h.alike.gather };
    opened = ⊎_elim (λ e. ⊎_elim (λ o. inl (sym e ∙ o)) (λ g. inr g) h.opened) (λ g. inr g) to;
    message = h.message;
    placed = h.placed;
    paced = λ e. h.paced (same e);
  }

  stands : {facts : NodeFacts} {side : Side} {came : List Item} {s : Session} {brought : Heard} {noted : Option ℕ} {said : List ℕ} → PeerCourse facts side came s brought noted said → Stands facts.terms side s brought noted said came
  stands {facts} {side} Opens = record {
    lines = [];
    lines_are = tt;
    same = refl;
    alike = record { handshake = refl; gather = refl };
    opened = inl refl;
    message = λ other arrives e. absurd (no_message other arrives e);
    placed = λ other e. absurd (no_place other e);
    paced = λ e. absurd (not_greeted e);
  }
  stands {facts} {side} (Hears {heard} {session} {noted} {said} item line is goes_on course) = heard_stands facts.terms side session noted said heard item line is (stands course)
  stands {facts} {side} (Notes {heard} {session} {said} place arrived course) =
      let h = stands course in
      record {
        lines = h.lines;
        lines_are = h.lines_are;
        same = h.same;
        alike = h.alike;
        opened = h.opened;
        message = h.message;
        placed = λ other e. greeted_from (h.message place arrived refl);
        paced = h.paced;
      }
  stands {facts} {side} (Replies {heard} {session} {noted} {said} place arrived link outcome own is taken course) =
      replied_stands facts.terms side session _ noted said _ heard place arrived (stands course)
  stands {facts} {side} (Publishes {heard} {session} {brought} {noted} {said} course) =
      paced_stands facts.terms side session (pace.published session.pace) brought noted said said heard (λ e. e) (inl refl) (stands course)
  stands {facts} {side} (Ticks {heard} {session} {brought} {noted} {said} now course) =
      paced_stands facts.terms side session (pace.ticked now session.pace) brought noted said said heard (λ e. sym (ticked_greeted now session.pace) ∙ e) (inl refl) (stands course)
  stands {facts} {side} (Makes {heard} {session} {brought} {noted} {said} packet now due own course) =
      let is = due_greeted session.pace.is_greeted _ due in
      let h = stands course in
      paced_stands facts.terms side session _ brought noted said _ heard (λ e. is) (inr (h.paced is)) h
  stands {facts} {side} (Repeats {heard} {session} {brought} {said} place course) =
      let h = stands course in
      paced_stands facts.terms side session session.pace brought (Some place) said _ heard (λ e. e) (inr (h.placed place refl)) h
  stands {facts} {side} (Reminds {heard} {session} {brought} {said} place life course) =
      let h = stands course in
      paced_stands facts.terms side session session.pace brought (Some place) said _ heard (λ e. e) (inr (h.placed place refl)) h

  -- until the other node has said hello all that was said is what this one says first
  before-the-hello : {facts : NodeFacts} {side : Side} {came : List Item} {s : Session} {brought : Heard} {noted : Option ℕ} {said : List ℕ} → PeerCourse facts side came s brought noted said → (said ≡ opening facts.terms side) ⊎ IsGreeted facts.terms came
  before-the-hello course = (stands course).opened

  pub first-words : (facts : NodeFacts) (side : Side) (received bytes : List ℕ) → IsToldToPeer facts side received bytes → IsPrefix bytes (opening facts.terms side) ⊎ IsGreeted facts.terms (items received)
  first-words facts side received bytes k =
      ⊎_elim (λ e. inl (k.is_told.0, k.is_told.1 ∙ e)) (λ g. inr (subst (IsGreeted facts.terms) (sym k.own) (greeted_behind k.unheard g))) (before-the-hello k.course)

  pub of-a-peer : (facts : NodeFacts) (changes : List Change) → AreBrought facts changes → AreOfAPeer facts changes
  of-a-peer facts changes k = record {
    origin = k.origin;
    serial = k.serial;
    received = k.received;
    side = k.side;
    came = k.heard;
    later = k.unheard;
    place = k.place;
    arrived = k.arrived;
    it_came = k.it_came;
    is_side = k.is_side;
    are_first = k.own;
    is_message = k.is_message;
    from = (stands k.course).message k.place k.arrived refl;
  }

-- what begins nothing is nothing
pub begins-nothing : (bytes rest : List ℕ) → bytes ++ rest ≡ [] → bytes ≡ []
begins-nothing [] rest e = refl
begins-nothing (b ∷ bytes) rest e = absurd (cons-nil e) where
  cons-nil : b ∷ (bytes ++ rest) ≡ [] → ⊥
  cons-nil e = cc
