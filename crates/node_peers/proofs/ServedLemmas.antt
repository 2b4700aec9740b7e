-- How a course with a peer goes on, and that all that was said in it may be told.
use Rattle.std.proofs.Common.{◌≡◌, ℕ, true, false, List, [], ◌∷◌, ◌++◌, Option, None, Some, take, drop, refl, sym, ap, ◌∙◌, subst, append_assoc, append-nil}
use Rattle.std.proofs.Math.Logic.{∥∥₁_map₂}
use Rattle.std.specs.Prelude.{IfSome}
use Rattle.std.proofs.lemmas.List.{take-append-drop}
use Rattle.std.proofs.lemmas.Option.{same_Some}
use Rattle.irc_line.specs.Stream.{Item, line as whole_line, too_long, Held, holding, bytes_of, held_past, held_with, held_without, items, items_from, next_item}
use Rattle.irc_line.specs.Calls.{with_first}
use Rattle.irc_line.proofs.CallerLemmas.{taken-append, step as one_step}
use Rattle.cluster_directory.specs.Life.{Life}
use Rattle.cluster_directory.specs.Terms.{Terms}
use Rattle.peer_lines.specs.declared.gather.Arrived.{Arrived}
use Rattle.peer_lines.specs.declared.peer_line.PeerLine.{PeerLine}
use Rattle.gossip_link.specs.Arrival.{changes_of}
use Rattle.gossip_link.specs.Link.{Link}
use Rattle.gossip_link.specs.Pace as pace
use Rattle.gossip_link.specs.Session.{Session, IsRead, is_close, step}
use Rattle.gossip_link.specs.declared.handshake.Side.{Side}
use Rattle.gossip_link.specs.declared.handshake.Side.TheVariants.{Opener, Acceptor}
use Rattle.gossip_link.specs.declared.heard.Heard.{Heard}
use Rattle.gossip_link.specs.declared.heard.Heard.TheVariants.{Nothing, Message, Close}
use Rattle.gossip_link.specs.declared.outcome.Outcome.{Outcome}
use Rattle.network_log.specs.Facts.{NodeFacts}
use Rattle.network_log.specs.Peer.{PeerCourse, Opens, Hears, Notes, Replies, Publishes, Ticks, Makes, Repeats, Reminds, IsLinkWith, bytes_in}
use Rattle.network_log.specs.Putting.{AreBrought, IsSide, Accepts, Opens as OpensIt}
use Rattle.network_log.specs.Telling.{IsToldToPeer, MayBeTold}
use Rattle.network_log.specs.declared.origin.Origin.{Origin}
use Rattle.node_peers.specs.PeerState.{PeerState, origin_of, talked}
use Rattle.node_peers.specs.Served.{IsConfigured, IsHeardSo, IsServed}
use Rattle.node_peers.specs.declared.carrying.Carried.{Carried}
use Rattle.node_peers.specs.Talk.{IsAdvanced, IsCarriedOut, Talk, after_step, at_pace, new_talk, noted_by, noting, place_of, reminding, repeating}

-- ---- what came

past-some : (item : Item) (held : Held) → held_without (Some item) held ≡ held_past (bytes_of held)
past-some (whole_line text) held = refl
past-some too_long held = refl

more-given : (received later : List ℕ) (heard : List Item) (unread after : Held) (bytes : List ℕ)
    → later ≡ received ++ bytes → after ≡ held_with unread bytes
    → ((rest : List ℕ) → items (received ++ rest) ≡ heard ++ items_from unread rest)
    → (rest : List ℕ) → items (later ++ rest) ≡ heard ++ items_from after rest
more-given received later heard unread after bytes e f are rest =
    ap (λ (l : List ℕ). items (l ++ rest)) e ∙ ap items (append_assoc received bytes rest) ∙ are (bytes ++ rest)
    ∙ ap (λ (h : Held). heard ++ items (bytes_of h)) (sym (taken-append unread bytes rest))
    ∙ ap (λ (h : Held). heard ++ items_from h rest) (sym f)

next-given : (received : List ℕ) (heard : List Item) (unread : Held) (item : Item) → next_item unread ≡ Some item
    → ((rest : List ℕ) → items (received ++ rest) ≡ heard ++ items_from unread rest)
    → (rest : List ℕ) → items (received ++ rest) ≡ (heard ++ item ∷ []) ++ items_from (held_past (bytes_of unread)) rest
next-given received heard unread item next are rest =
    let P : Option Item → Type 0 = λ o. items_from unread rest ≡ with_first o (items_from (held_without o unread) rest) in
    let Q : Held → Type 0 = λ h. items_from unread rest ≡ item ∷ items_from h rest in
    let first : items_from unread rest ≡ item ∷ items_from (held_past (bytes_of unread)) rest = subst Q (past-some item unread) (subst P next (one_step unread rest)) in
    are rest ∙ ap (λ (l : List Item). heard ++ l) first ∙ sym (append_assoc heard (item ∷ []) (items_from (held_past (bytes_of unread)) rest))

-- what came over the connection is known of it still
pub came-still : (facts : NodeFacts) (origin later : Origin) (serial after : ℕ) (received still : List ℕ)
    → later ≡ origin → after ≡ serial → still ≡ received → ∥ facts.came origin serial received ∥₁ → ∥ facts.came later after still ∥₁
came-still facts origin later serial after received still e f r is =
    subst (λ (o : Origin). ∥ facts.came o after still ∥₁) (sym e)
    (subst (λ (n : ℕ). ∥ facts.came origin n still ∥₁) (sym f)
    (subst (λ (l : List ℕ). ∥ facts.came origin serial l ∥₁) (sym r) is))

-- ---- how it goes on

-- what was said is written so
said-so : {facts : NodeFacts} {side : Side} {heard : List Item} {session : Session} {brought : Heard} {noted : Option ℕ} {said : List ℕ} (other : List ℕ)
    → said ≡ other → PeerCourse facts side heard session brought noted said → PeerCourse facts side heard session brought noted other
said-so {facts} {side} {heard} {session} {brought} {noted} other e course = subst (PeerCourse facts side heard session brought noted) e course

pub opens : (facts : NodeFacts) (side : Side) (now : ℕ) (terms : Terms) (received sent : List ℕ) (unread : Held) (t : Talk)
    → received ≡ [] → sent ≡ [] → unread ≡ holding [] → terms ≡ facts.terms → t ≡ new_talk terms side now
    → IsServed facts side received unread sent t
opens facts side now terms received sent unread t e f u own is =
    let begun : Talk = new_talk facts.terms side now in
    let all : t ≡ begun = is ∙ ap (λ (k : Terms). new_talk k side now) own in
    subst (λ (k : Talk). IsServed facts side received unread sent k) (sym all)
    (subst (λ (h : Held). IsServed facts side received h sent begun) (sym u) (record {
      heard = [];
      course = said-so _ (ap (λ (l : List ℕ). l ++ begun.owed) (sym f)) Opens;
      given = λ rest. ap (λ (l : List ℕ). items (l ++ rest)) e;
    }))

pub receives : {facts : NodeFacts} {side : Side} {received sent : List ℕ} {unread : Held} {t : Talk} (later still : List ℕ) (after : Held) (bytes : List ℕ)
    → later ≡ received ++ bytes → after ≡ held_with unread bytes → still ≡ sent
    → IsServed facts side received unread sent t → IsServed facts side later after still t
receives {facts} {side} {received} {sent} {unread} {t} later still after bytes e f same s =
    subst (λ (l : List ℕ). IsServed facts side later after l t) (sym same) (record {
      heard = s.heard;
      course = s.course;
      given = more-given received later s.heard unread after bytes e f s.given;
    })

pub sends : {facts : NodeFacts} {side : Side} {received sent : List ℕ} {unread : Held} {t : Talk} (still later owed : List ℕ)
    → still ≡ received → later ++ owed ≡ sent ++ t.owed
    → IsServed facts side received unread sent t → IsServed facts side still unread later (record t { owed = owed })
sends {facts} {side} {received} {sent} {unread} {t} still later owed e f s =
    subst (λ (r : List ℕ). IsServed facts side r unread later (record t { owed = owed })) (sym e)
    (record { heard = s.heard; course = said-so _ (sym f) s.course; given = s.given })

pub sends-some : {facts : NodeFacts} {side : Side} {received sent : List ℕ} {unread : Held} {t : Talk} (still later bytes : List ℕ) (n : ℕ) (after : Talk)
    → still ≡ received → bytes ≡ t.owed → later ≡ sent ++ take n bytes → after ≡ record t { owed = drop n t.owed }
    → IsServed facts side received unread sent t → IsServed facts side still unread later after
sends-some {facts} {side} {received} {sent} {unread} {t} still later bytes n after e same f g s =
    let all : later ++ drop n t.owed ≡ sent ++ t.owed =
    ap (λ (l : List ℕ). l ++ drop n t.owed) (f ∙ ap (λ (b : List ℕ). sent ++ take n b) same)
    ∙ append_assoc sent (take n t.owed) (drop n t.owed)
    ∙ ap (λ (l : List ℕ). sent ++ l) (take-append-drop n t.owed) in
    subst (IsServed facts side still unread later) (sym g) (sends still later (drop n t.owed) e all s)

-- the session hears the next line
pub hears : {facts : NodeFacts} {side : Side} {received sent : List ℕ} {unread : Held} {t : Talk} (now : ℕ) (item : Item) (l : Option PeerLine) (after : Talk)
    → next_item unread ≡ Some item → t.brought ≡ Nothing → IsRead (bytes_in item) l
    → is_close (step facts.terms t.session l).heard ≡ false
    → after ≡ after_step (step facts.terms t.session l) now t
    → IsServed facts side received unread sent t → IsServed facts side received (held_past (bytes_of unread)) sent after
hears {facts} {side} {received} {sent} {unread} {t} now item l after next idle read kept e s =
    subst (IsServed facts side received (held_past (bytes_of unread)) sent) (sym e) (record {
      heard = s.heard ++ item ∷ [];
      course = said-so _ (append_assoc sent t.owed (step facts.terms t.session l).sent)
          (Hears item l read kept (subst (λ (b : Heard). PeerCourse facts side s.heard t.session b t.noted (sent ++ t.owed)) idle s.course));
      given = next-given received s.heard unread item next s.given;
    })

-- and so as it is known of the line
pub hears-so : {facts : NodeFacts} {side : Side} {received sent : List ℕ} {unread later : Held} {t after : Talk} (terms : Terms) (now : ℕ)
    → terms ≡ facts.terms → t.brought ≡ Nothing → IsHeardSo terms now unread later t after
    → IsServed facts side received unread sent t → IsServed facts side received later sent after
hears-so {facts} {side} {received} {sent} {unread} {later} {t} {after} terms now own idle k s =
    let k' : IsHeardSo facts.terms now unread later t after = subst (λ (u : Terms). IsHeardSo u now unread later t after) own k in
    subst (λ (h : Held). IsServed facts side received h sent after) (sym k'.is_past)
    (hears now k'.item k'.line after k'.is_next idle k'.is_read k'.is_kept k'.is_new s)

notes-so : {facts : NodeFacts} {side : Side} {heard : List Item} {session : Session} {said : List ℕ} (brought : Heard) (noted : Option ℕ)
    → PeerCourse facts side heard session brought noted said → PeerCourse facts side heard session brought (noted_by brought noted) said
notes-so (Message place arrived) None course = Notes place arrived course
notes-so Nothing None course = course
notes-so (Close fault) None course = course
notes-so brought (Some place) course = course

pub notes : {facts : NodeFacts} {side : Side} {received sent : List ℕ} {unread : Held} {t : Talk} (after : Talk) → after ≡ noting t
    → IsServed facts side received unread sent t → IsServed facts side received unread sent after
notes {facts} {side} {received} {sent} {unread} {t} after e s = subst (IsServed facts side received unread sent) (sym e)
    (record { heard = s.heard; course = notes-so t.brought t.noted s.course; given = s.given })

-- the message is carried out on the link with its peer
pub carries : {facts : NodeFacts} {side : Side} {received sent : List ℕ} {unread : Held} {t : Talk}
    (place : ℕ) (link : Link) (message : Heard) (outcome : Outcome) (now : ℕ) (after : Talk)
    → place_of t.brought ≡ Some place → IsCarriedOut facts link message outcome now t after → IsLinkWith facts place link
    → IsServed facts side received unread sent t → IsServed facts side received unread sent after
carries {facts} {side} {received} {sent} {unread} {t} place link message outcome now after from k own s =
    let same : k.place ≡ place = same_Some k.place place (sym (ap place_of k.is_message) ∙ from) in
    subst (IsServed facts side received unread sent) (sym k.is_new) (record {
      heard = s.heard;
      course = said-so _ (append_assoc sent t.owed _)
          (Replies k.place k.arrived link outcome (subst (λ (p : ℕ). IsLinkWith facts p link) (sym same) own) k.is_outcome k.is_taken
          (subst (λ (b : Heard). PeerCourse facts side s.heard t.session b t.noted (sent ++ t.owed)) k.is_message s.course));
      given = s.given;
    })

-- where there was a message
pub carries-any : {facts : NodeFacts} {side : Side} {received sent : List ℕ} {unread : Held} {t : Talk}
    (place : ℕ) (link : Link) (o : Option Carried) (now : ℕ) (after : Talk)
    → place_of t.brought ≡ Some place → ∥ IsLinkWith facts place link ∥₁
    → IfSome o (λ k. IsCarriedOut facts link k.message k.outcome now t after) → (o ≡ None → after ≡ t)
    → ∥ IsServed facts side received unread sent t ∥₁ → ∥ IsServed facts side received unread sent after ∥₁
carries-any {facts} {side} {received} {sent} {unread} {t} place link None now after from own is none s =
    subst (λ (k : Talk). ∥ IsServed facts side received unread sent k ∥₁) (sym (none refl)) s
carries-any {facts} {side} {received} {sent} {unread} {t} place link (Some k) now after from own is none s =
    ∥∥₁_map₂ own s (carries place link k.message k.outcome now after from is)

pub carried-so : (facts : NodeFacts) (link : Link) (now : ℕ) (p : PeerState) (o : Option Carried) (after : Talk)
    → IfSome o (λ k. IsCarriedOut facts link k.message k.outcome now p.talk after)
    → IfSome o (λ k. (t : Talk) × (talked after p ≡ talked t p) × IsCarriedOut facts link k.message k.outcome now p.talk t)
carried-so facts link now p None after is = tt
carried-so facts link now p (Some k) after is = (after, refl, is)

pub publishes : {facts : NodeFacts} {side : Side} {received sent : List ℕ} {unread : Held} {t : Talk} (after : Talk)
    → after ≡ at_pace (pace.published t.session.pace) t
    → IsServed facts side received unread sent t → IsServed facts side received unread sent after
publishes {facts} {side} {received} {sent} {unread} {t} after e s = subst (IsServed facts side received unread sent) (sym e)
    (record { heard = s.heard; course = Publishes s.course; given = s.given })

pub ticks : {facts : NodeFacts} {side : Side} {received sent : List ℕ} {unread : Held} {t : Talk} (now : ℕ) (after : Talk)
    → after ≡ at_pace (pace.ticked now t.session.pace) t
    → IsServed facts side received unread sent t → IsServed facts side received unread sent after
ticks {facts} {side} {received} {sent} {unread} {t} now after e s = subst (IsServed facts side received unread sent) (sym e)
    (record { heard = s.heard; course = Ticks now s.course; given = s.given })

-- a packet is made where one is due
pub makes : {facts : NodeFacts} {side : Side} {received sent : List ℕ} {unread : Held} {t : Talk} (now : ℕ) (after : Talk)
    → IsAdvanced facts now t after
    → IsServed facts side received unread sent t → IsServed facts side received unread sent after
makes {facts} {side} {received} {sent} {unread} {t} now after k s =
    elim (pace.is_due t.session.pace) as (λ b. pace.is_due t.session.pace ≡ b → IsServed facts side received unread sent after) [
      | true ↦ λ e. (
          let m = k.1 e in
          subst (IsServed facts side received unread sent) (sym m.is_new) (record {
            heard = s.heard;
            course = said-so _ (append_assoc sent t.owed _) (Makes m.packet now e m.is_own s.course);
            given = s.given;
          }))
      | false ↦ λ e. subst (IsServed facts side received unread sent) (sym (k.0 e)) s
    ] refl

pub repeats : {facts : NodeFacts} {side : Side} {received sent : List ℕ} {unread : Held} {t : Talk} (place now : ℕ) (after : Talk)
    → t.noted ≡ Some place → after ≡ repeating facts.terms place now t
    → IsServed facts side received unread sent t → IsServed facts side received unread sent after
repeats {facts} {side} {received} {sent} {unread} {t} place now after is e s =
    let as_noted : Option ℕ → Type 0 = λ n. PeerCourse facts side s.heard t.session t.brought n (sent ++ (repeating facts.terms place now t).owed) in
    subst (IsServed facts side received unread sent) (sym e) (record {
      heard = s.heard;
      course = subst as_noted (sym is) (said-so _ (append_assoc sent t.owed _)
          (Repeats place (subst (λ (n : Option ℕ). PeerCourse facts side s.heard t.session t.brought n (sent ++ t.owed)) is s.course)));
      given = s.given;
    })

pub reminds : {facts : NodeFacts} {side : Side} {received sent : List ℕ} {unread : Held} {t : Talk} (place now : ℕ) (life : Life) (after : Talk)
    → t.noted ≡ Some place → after ≡ reminding facts.terms.me life now t
    → IsServed facts side received unread sent t → IsServed facts side received unread sent after
reminds {facts} {side} {received} {sent} {unread} {t} place now life after is e s =
    let as_noted : Option ℕ → Type 0 = λ n. PeerCourse facts side s.heard t.session t.brought n (sent ++ (reminding facts.terms.me life now t).owed) in
    subst (IsServed facts side received unread sent) (sym e) (record {
      heard = s.heard;
      course = subst as_noted (sym is) (said-so _ (append_assoc sent t.owed _)
          (Reminds place life (subst (λ (n : Option ℕ). PeerCourse facts side s.heard t.session t.brought n (sent ++ t.owed)) is s.course)));
      given = s.given;
    })

-- ---- what may be told, and what was brought

first-lines : (received : List ℕ) (heard : List Item) (unread : Held) → ((rest : List ℕ) → items (received ++ rest) ≡ heard ++ items_from unread rest)
    → items received ≡ heard ++ items_from unread []
first-lines received heard unread are = ap items (sym (append-nil received)) ∙ are []

told : {facts : NodeFacts} {side : Side} {received sent : List ℕ} {unread : Held} {t : Talk} → IsServed facts side received unread sent t
    → IsToldToPeer facts side received (sent ++ t.owed)
told {facts} {side} {received} {sent} {unread} {t} s = record {
  heard = s.heard;
  unheard = items_from unread [];
  session = t.session;
  brought = t.brought;
  noted = t.noted;
  said = sent ++ t.owed;
  course = s.course;
  own = first-lines received s.heard unread s.given;
  is_told = ([], append-nil (sent ++ t.owed));
}

may-so : (facts : NodeFacts) (side : Side) (serial : ℕ) (received bytes : List ℕ) → IsConfigured facts side → IsToldToPeer facts side received bytes
    → MayBeTold facts (origin_of side) serial received bytes
may-so facts Acceptor serial received bytes peer k = k
may-so facts (Opener place) serial received bytes peer k = (peer, k)

pub may : {facts : NodeFacts} {side : Side} {received sent : List ℕ} {unread : Held} {t : Talk} (origin : Origin) (serial : ℕ)
    → origin ≡ origin_of side → IsConfigured facts side → IsServed facts side received unread sent t
    → MayBeTold facts origin serial received (sent ++ t.owed)
may {facts} {side} {received} {sent} {unread} {t} origin serial e peer s =
    subst (λ (o : Origin). MayBeTold facts o serial received (sent ++ t.owed)) (sym e) (may-so facts side serial received (sent ++ t.owed) peer (told s))

sided : (side : Side) → IsSide (origin_of side) side
sided Acceptor = Accepts
sided (Opener place) = OpensIt place

pub brought-by : {facts : NodeFacts} {side : Side} {received sent : List ℕ} {unread : Held} {t : Talk} (origin : Origin) (serial place : ℕ) (arrived : Arrived)
    → origin ≡ origin_of side → t.brought ≡ Message place arrived → facts.came origin serial received → IsServed facts side received unread sent t
    → AreBrought facts (changes_of arrived)
brought-by {facts} {side} {received} {sent} {unread} {t} origin serial place arrived e is came s = record {
  origin = origin;
  serial = serial;
  received = received;
  side = side;
  heard = s.heard;
  unheard = items_from unread [];
  session = t.session;
  place = place;
  arrived = arrived;
  noted = t.noted;
  said = sent ++ t.owed;
  it_came = came;
  is_side = subst (λ (o : Origin). IsSide o side) (sym e) (sided side);
  own = first-lines received s.heard unread s.given;
  course = subst (λ (b : Heard). PeerCourse facts side s.heard t.session b t.noted (sent ++ t.owed)) is s.course;
  is_message = refl;
}
