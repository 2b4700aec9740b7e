-- Which lines bring a connection so far that they are handed up.
use Rattle.std.proofs.Common.{◌≡◌, ◌↔◌, ℕ, zero, suc, ◌<◌, Bool, true, false, cond, Option, Some, None, List, [], ◌∷◌, ◌++◌, length, get_or, refl, sym, ◌∙◌, ap, subst, arith, ◌⊎◌, inl, inr, ⊎_elim}
use Rattle.std.proofs.lemmas.Bool.{false≢true}
use Rattle.std.proofs.lemmas.Bool.Decides.{nat_tests}
use Rattle.std.proofs.lemmas.Option.{slice_get-get_or}
use Rattle.std.specs.List.{AllByRecursion}
use Rattle.std.specs.Prelude.{position, slice_get, ◌==◌}
use Rattle.cluster_directory.specs.Names.{same_name}
use Rattle.cluster_directory.specs.Life.{Life}
use Rattle.cluster_directory.specs.declared.version.Version.{Version}
use Rattle.peer_lines.specs.declared.peer_line.PeerLine.{PeerLine}
use Rattle.peer_lines.specs.declared.peer_line.PeerLine.TheVariants.{Word, Hello, Head, Change, Ack}
use Rattle.gossip_link.specs.declared.handshake.Side.{Side}
use Rattle.gossip_link.specs.declared.handshake.Side.TheVariants.{Opener, Acceptor}
use Rattle.gossip_link.specs.declared.handshake.HandshakeStage.{HandshakeStage}
use Rattle.gossip_link.specs.declared.handshake.HandshakeStage.TheVariants.{Silent, Trusted, Introduced, Known, Refused}
use Rattle.gossip_link.specs.declared.handshake.Action.TheVariants.{Close}
use Rattle.cluster_directory.specs.Terms.{Terms, names_of, index_of}
use Rattle.gossip_link.specs.Handshake.{IsPeer, KeepsTo, ArePeers, introduced_at, still_known, after, after_all, action, last_action, handed_to, greets as does_greet}
use Rattle.cluster_directory.proofs.CallerLemmas.{same_name_is, same_name_itself, same_if, there}

equal_is : (a b : ℕ) → (a == b) ≡ true → a ≡ b
equal_is a b e = grind (arith, nat_tests)

abbrev pub Lines : Type 0
Lines = List (Option PeerLine)

-- the place of the peer that said hello
abbrev pub index_in : HandshakeStage → Option ℕ
index_in (Introduced place) = Some place
index_in (Known place) = Some place
index_in _ = None

-- a stage at which lines are handed up
abbrev pub IsKnown : HandshakeStage → Type 0
IsKnown s = (place : ℕ) × (index_in s ≡ Some place)

-- ---- the place of a peer

module _ (t : Terms) where
  peer_from : (name : List ℕ) (i : ℕ) → index_of t name ≡ Some i → IsPeer t name
  peer_from name i =
      elim (same_name name t.me.node) as (λ b. same_name name t.me.node ≡ b → cond b None (position (λ other. same_name name other) (names_of t)) ≡ Some i → IsPeer t name) [
        | true ↦ λ _ e. cc e
        | false ↦ λ f e. let h = same_if (names_of t) name i e in ((i, h.0, h.1), λ same. false≢true (sym f ∙ ap (same_name name) (sym same) ∙ same_name_itself name))
      ] refl

  place_from : (name : List ℕ) → IsPeer t name → (i : ℕ) × (index_of t name ≡ Some i)
  place_from name h =
      elim (same_name name t.me.node) as (λ b. same_name name t.me.node ≡ b → (i : ℕ) × (cond b None (position (λ other. same_name name other) (names_of t)) ≡ Some i)) [
        | true ↦ λ e. absurd (h.1 (same_name_is name t.me.node e))
        | false ↦ λ _. there (names_of t) name h.0
      ] refl

  place_holds : (name : List ℕ) (i : ℕ) → index_of t name ≡ Some i → (i < length (names_of t)) × (get_or (names_of t) i name ≡ name)
  place_holds name i =
      elim (same_name name t.me.node) as (λ s. cond s None (position (λ other. same_name name other) (names_of t)) ≡ Some i → (i < length (names_of t)) × (get_or (names_of t) i name ≡ name)) [ true ↦ λ e. cc e | false ↦ λ e. same_if (names_of t) name i e ]

  one_place : (a b : List ℕ) (i : ℕ) → index_of t a ≡ Some i → index_of t b ≡ Some i → a ≡ b
  one_place a b i p q =
      let x = place_holds a i p in
      let y = place_holds b i q in
      sym x.1 ∙ same_default (names_of t) i a b x.0 ∙ y.1
    where
      same_default : (ns : List (List ℕ)) (i : ℕ) (a b : List ℕ) → i < length ns → get_or ns i a ≡ get_or ns i b
      same_default [] i a b l = absurd (omega (arith, l))
      same_default (n ∷ ns) zero a b l = refl
      same_default (n ∷ ns) (suc i) a b l = same_default ns i a b (omega (arith, l))

  -- ---- stages

  not_known : (place : ℕ) → None ≡ Some place → ⊥
  not_known place e = cc

  never : (lines : Lines) → IsKnown (after_all t Refused lines) → ⊥
  never [] h = not_known h.0 h.1
  never (None ∷ lines) h = never lines h
  never (Some line ∷ lines) h = never lines h

  still : (known : ℕ) (o : Option ℕ) → ((still_known known o ≡ Known known) × (o ≡ Some known)) ⊎ (still_known known o ≡ Refused)
  still known None = inr refl
  still known (Some place) =
      elim (place == known) as (λ b. (place == known) ≡ b → ((cond b (Known place) Refused ≡ Known known) × (Some place ≡ Some known)) ⊎ (cond b (Known place) Refused ≡ Refused)) [
        | true ↦ λ e. let same = equal_is place known e in inl (ap Known same, ap Some same)
        | false ↦ λ _. inr refl
      ] refl

  keeps : (peer : Life) (place : ℕ) → index_of t peer.node ≡ Some place → (lines : Lines) → IsKnown (after_all t (Known place) lines) → AllByRecursion (KeepsTo peer) lines
  keeps peer place at [] h = tt
  keeps peer place at (None ∷ lines) h = absurd (never lines h)
  keeps peer place at (Some (Word word) ∷ lines) h = absurd (never lines h)
  keeps peer place at (Some (Hello life version) ∷ lines) h = ⊎_elim
      (λ s. (one_place life.node peer.node place s.1 at, keeps peer place at lines (subst (λ stage. IsKnown (after_all t stage lines)) s.0 h)))
      (λ r. absurd (never lines (subst (λ stage. IsKnown (after_all t stage lines)) r h)))
      (still place (index_of t life.node))
  keeps peer place at (Some (Head head) ∷ lines) h = (tt, keeps peer place at lines h)
  keeps peer place at (Some (Change change) ∷ lines) h = (tt, keeps peer place at lines h)
  keeps peer place at (Some (Ack ack) ∷ lines) h = (tt, keeps peer place at lines h)

  -- after its first hello it may do what it may do later
  keeps_first : (peer : Life) (place : ℕ) → index_of t peer.node ≡ Some place → (lines : Lines) → IsKnown (after_all t (Introduced place) lines) → AllByRecursion (KeepsTo peer) lines
  keeps_first peer place at [] h = tt
  keeps_first peer place at (None ∷ lines) h = absurd (never lines h)
  keeps_first peer place at (Some line ∷ lines) h = keeps peer place at (Some line ∷ lines) h

  kept : (peer : Life) (place : ℕ) → index_of t peer.node ≡ Some place → (lines : Lines) → AllByRecursion (KeepsTo peer) lines → after_all t (Known place) lines ≡ Known place
  kept peer place at [] k = refl
  kept peer place at (None ∷ lines) k = absurd k.0
  kept peer place at (Some (Word word) ∷ lines) k = absurd k.0
  kept peer place at (Some (Hello life version) ∷ lines) k =
      let same : index_of t life.node ≡ Some place = ap (index_of t) k.0 ∙ at in
      ap (λ stage. after_all t stage lines) (ap (still_known place) same ∙ itself place) ∙ kept peer place at lines k.1
    where
      itself : (n : ℕ) → still_known n (Some n) ≡ Known n
      itself n = ap (λ b. cond b (Known n) Refused) (let e : (n == n) ≡ true = grind (arith, nat_tests) in e)
  kept peer place at (Some (Head head) ∷ lines) k = kept peer place at lines k.1
  kept peer place at (Some (Change change) ∷ lines) k = kept peer place at lines k.1
  kept peer place at (Some (Ack ack) ∷ lines) k = kept peer place at lines k.1

  kept_first : (peer : Life) (place : ℕ) → index_of t peer.node ≡ Some place → (lines : Lines) → AllByRecursion (KeepsTo peer) lines → index_in (after_all t (Introduced place) lines) ≡ Some place
  kept_first peer place at [] k = refl
  kept_first peer place at (None ∷ lines) k = absurd k.0
  kept_first peer place at (Some line ∷ lines) k = ap index_in (kept peer place at (Some line ∷ lines) k)

  -- ---- a trusted node

  abbrev Greeted : Lines → Type 0
  Greeted lines = (peer : Life) × (version : Version) × (more : Lines) × (lines ≡ Some (Hello peer version) ∷ more) × IsPeer t peer.node × AllByRecursion (KeepsTo peer) more

  greeted : (lines : Lines) → IsKnown (after_all t Trusted lines) → Greeted lines
  greeted [] h = cc h.1
  greeted (None ∷ lines) h = absurd (never lines h)
  greeted (Some (Word word) ∷ lines) h = absurd (never lines h)
  greeted (Some (Hello life version) ∷ lines) h = said (index_of t life.node) refl h
    where
      said : (o : Option ℕ) → index_of t life.node ≡ o → IsKnown (after_all t (introduced_at o) lines) → Greeted (Some (Hello life version) ∷ lines)
      said None e h = absurd (never lines h)
      said (Some place) e h = (life, version, lines, refl, peer_from life.node place e, keeps_first life place e lines h)
  greeted (Some (Head head) ∷ lines) h = absurd (never lines h)
  greeted (Some (Change change) ∷ lines) h = absurd (never lines h)
  greeted (Some (Ack ack) ∷ lines) h = absurd (never lines h)

  -- ---- a connection

  trusted : (word : List ℕ) (lines : Lines) → IsKnown (after_all t (cond (same_name word t.word) Trusted Refused) lines) → (word ≡ t.word) × IsKnown (after_all t Trusted lines)
  trusted word lines =
      elim (same_name word t.word) as (λ b. same_name word t.word ≡ b → IsKnown (after_all t (cond b Trusted Refused) lines) → (word ≡ t.word) × IsKnown (after_all t Trusted lines)) [
        | true ↦ λ e h. (same_name_is word t.word e, h)
        | false ↦ λ _ h. absurd (never lines h)
      ] refl

  pub known_are_peers : (lines : Lines) → IsKnown (after_all t Silent lines) → ArePeers t lines
  known_are_peers [] h = cc h.1
  known_are_peers (None ∷ lines) h = absurd (never lines h)
  known_are_peers (Some (Word word) ∷ lines) h =
      let w = trusted word lines h in
      let g = greeted lines w.1 in
      record { peer = g.0; version = g.1; more = g.2; are = (let p = w.0 in let q = g.3 in λ i. Some (Word (p i)) ∷ q i); is_peer = g.4; keeps = g.5 }
  known_are_peers (Some (Hello life version) ∷ lines) h = absurd (never lines h)
  known_are_peers (Some (Head head) ∷ lines) h = absurd (never lines h)
  known_are_peers (Some (Change change) ∷ lines) h = absurd (never lines h)
  known_are_peers (Some (Ack ack) ∷ lines) h = absurd (never lines h)

  right_word : after t Silent (Some (Word t.word)) ≡ Trusted
  right_word = ap (λ b. cond b Trusted Refused) (same_name_itself t.word)

  introduced_then : (lines : Lines) (h : ArePeers t lines) → after_all t Silent lines ≡ after_all t (Introduced (place_from h.peer.node h.is_peer).0) h.more
  introduced_then lines h =
      let place = place_from h.peer.node h.is_peer in
      ap (after_all t Silent) h.are
      ∙ ap (λ stage. after_all t stage (Some (Hello h.peer h.version) ∷ h.more)) right_word
      ∙ ap (λ o. after_all t (introduced_at o) h.more) place.1

  peers_known_at : (lines : Lines) (h : ArePeers t lines) → index_in (after_all t Silent lines) ≡ Some (place_from h.peer.node h.is_peer).0
  peers_known_at lines h =
      let place = place_from h.peer.node h.is_peer in
      ap index_in (introduced_then lines h) ∙ kept_first h.peer place.0 place.1 h.more h.keeps

  pub peers_are_known : (lines : Lines) → ArePeers t lines → IsKnown (after_all t Silent lines)
  peers_are_known lines h = ((place_from h.peer.node h.is_peer).0, peers_known_at lines h)

-- ---- what is done

module _ (t : Terms) where
  -- a line is handed up to the place of the peer that said hello
  handed_at : (side : Side) (s : HandshakeStage) → handed_to (action side s) ≡ index_in s
  handed_at (Opener to) Silent = refl
  handed_at Acceptor Silent = refl
  handed_at (Opener to) Trusted = refl
  handed_at Acceptor Trusted = refl
  handed_at (Opener to) (Introduced place) = refl
  handed_at Acceptor (Introduced place) = refl
  handed_at (Opener to) (Known place) = refl
  handed_at Acceptor (Known place) = refl
  handed_at (Opener to) Refused = refl
  handed_at Acceptor Refused = refl

  pub handed_up : (side : Side) (lines : Lines) → ((place : ℕ) × (handed_to (last_action t side lines) ≡ Some place)) ↔ ArePeers t lines
  handed_up side lines =
      let at = handed_at side (after_all t Silent lines) in (
        λ h. known_are_peers t lines (h.0, sym at ∙ h.1),
        λ h. let k = peers_are_known t lines h in (k.0, at ∙ k.1),
      )

  -- it is handed up to the place of that peer
  pub placed : (side : Side) (lines : Lines) (place : ℕ) → handed_to (last_action t side lines) ≡ Some place → (h : ArePeers t lines) → slice_get (names_of t) place ≡ Some h.peer.node
  placed side lines place e h =
      let found = place_from t h.peer.node h.is_peer in
      let same : found.0 ≡ place = one_place_alone found.0 place (sym (peers_known_at t lines h) ∙ sym (handed_at side (after_all t Silent lines)) ∙ e) in
      let here = place_holds t h.peer.node found.0 found.1 in
      ap (slice_get (names_of t)) (sym same) ∙ slice_get-get_or (names_of t) found.0 h.peer.node here.0 ∙ ap Some here.1
    where
      one_place_alone : (m n : ℕ) → Some m ≡ Some n → m ≡ n
      one_place_alone m n e = cc e

  -- ---- where a peer has said its first hello and nothing since

  refused_stays : (lines : Lines) → after_all t Refused lines ≡ Refused
  refused_stays [] = refl
  refused_stays (None ∷ lines) = refused_stays lines
  refused_stays (Some line ∷ lines) = refused_stays lines

  refused_no : (q : ℕ) (lines : Lines) → after_all t Refused lines ≡ Introduced q → ⊥
  refused_no q lines e = differ (sym (refused_stays lines) ∙ e)
    where
      differ : Refused ≡ Introduced q → ⊥
      differ e = cc e

  known_no : (q place : ℕ) (lines : Lines) → after_all t (Known place) lines ≡ Introduced q → ⊥
  known_no q place [] e = cc e
  known_no q place (None ∷ lines) e = refused_no q lines e
  known_no q place (Some (Word word) ∷ lines) e = refused_no q lines e
  known_no q place (Some (Hello life version) ∷ lines) e = ⊎_elim
      (λ s. known_no q place lines (ap (λ stage. after_all t stage lines) (sym s.0) ∙ e))
      (λ r. refused_no q lines (ap (λ stage. after_all t stage lines) (sym r) ∙ e))
      (still t place (index_of t life.node))
  known_no q place (Some (Head head) ∷ lines) e = known_no q place lines e
  known_no q place (Some (Change change) ∷ lines) e = known_no q place lines e
  known_no q place (Some (Ack ack) ∷ lines) e = known_no q place lines e

  more_no : (q place : ℕ) (line : Option PeerLine) (lines : Lines) → after_all t (Introduced place) (line ∷ lines) ≡ Introduced q → ⊥
  more_no q place None lines e = refused_no q lines e
  more_no q place (Some line) lines e = known_no q place (Some line ∷ lines) e

  hello_alone : (q : ℕ) (o : Option ℕ) (lines : Lines) → after_all t (introduced_at o) lines ≡ Introduced q → length lines ≡ 0
  hello_alone q None lines e = absurd (refused_no q lines e)
  hello_alone q (Some place) [] e = refl
  hello_alone q (Some place) (line ∷ lines) e = absurd (more_no q place line lines e)

  one_line : (q : ℕ) (lines : Lines) → after_all t Trusted lines ≡ Introduced q → length lines ≡ 1
  one_line q [] e = cc e
  one_line q (None ∷ lines) e = absurd (refused_no q lines e)
  one_line q (Some (Word word) ∷ lines) e = absurd (refused_no q lines e)
  one_line q (Some (Hello life version) ∷ lines) e = ap suc (hello_alone q (index_of t life.node) lines e)
  one_line q (Some (Head head) ∷ lines) e = absurd (refused_no q lines e)
  one_line q (Some (Change change) ∷ lines) e = absurd (refused_no q lines e)
  one_line q (Some (Ack ack) ∷ lines) e = absurd (refused_no q lines e)

  after_word : (q : ℕ) (b : Bool) (lines : Lines) → after_all t (cond b Trusted Refused) lines ≡ Introduced q → length lines ≡ 1
  after_word q true lines e = one_line q lines e
  after_word q false lines e = absurd (refused_no q lines e)

  two_lines : (q : ℕ) (lines : Lines) → after_all t Silent lines ≡ Introduced q → length lines ≡ 2
  two_lines q [] e = cc e
  two_lines q (None ∷ lines) e = absurd (refused_no q lines e)
  two_lines q (Some (Word word) ∷ lines) e = ap suc (after_word q (same_name word t.word) lines e)
  two_lines q (Some (Hello life version) ∷ lines) e = absurd (refused_no q lines e)
  two_lines q (Some (Head head) ∷ lines) e = absurd (refused_no q lines e)
  two_lines q (Some (Change change) ∷ lines) e = absurd (refused_no q lines e)
  two_lines q (Some (Ack ack) ∷ lines) e = absurd (refused_no q lines e)

  greets_at : (side : Side) (s : HandshakeStage) → does_greet (action side s) ≡ true → (side ≡ Acceptor) × ((place : ℕ) × (s ≡ Introduced place))
  greets_at (Opener to) Silent e = absurd (false≢true e)
  greets_at Acceptor Silent e = absurd (false≢true e)
  greets_at (Opener to) Trusted e = absurd (false≢true e)
  greets_at Acceptor Trusted e = absurd (false≢true e)
  greets_at (Opener to) (Introduced place) e = absurd (false≢true e)
  greets_at Acceptor (Introduced place) e = (refl, (place, refl))
  greets_at (Opener to) (Known place) e = absurd (false≢true e)
  greets_at Acceptor (Known place) e = absurd (false≢true e)
  greets_at (Opener to) Refused e = absurd (false≢true e)
  greets_at Acceptor Refused e = absurd (false≢true e)

  none_left : (more : Lines) → length more ≡ 0 → more ≡ []
  none_left [] e = refl
  none_left (line ∷ more) e = absurd (omega (arith, e))

  -- the stage after the word and the first hello of a peer
  introduced : (lines : Lines) (h : ArePeers t lines) → length lines ≡ 2 → after_all t Silent lines ≡ Introduced (place_from t h.peer.node h.is_peer).0
  introduced lines h two =
      let place = (place_from t h.peer.node h.is_peer).0 in
      let same = ap length h.are in
      let nothing : length h.more ≡ 0 = omega (arith, same, two) in
      introduced_then t lines h ∙ ap (after_all t (Introduced place)) (none_left h.more nothing)

  pub greets : (side : Side) (lines : Lines) → (does_greet (last_action t side lines) ≡ true) ↔ ((side ≡ Acceptor) × ArePeers t lines × (length lines ≡ 2))
  greets side lines = (
    λ h.
        let g = greets_at side (after_all t Silent lines) h in
        (g.0, known_are_peers t lines (g.1.0, ap index_in g.1.1), two_lines g.1.0 lines g.1.1),
    λ h.
        ap (λ s. does_greet (last_action t s lines)) h.0
        ∙ ap (λ stage. does_greet (action Acceptor stage)) (introduced lines h.1 h.2),
  )

  -- ---- what is closed stays closed

  closed_at : (side : Side) (s : HandshakeStage) → action side s ≡ Close → s ≡ Refused
  closed_at (Opener to) Silent e = cc
  closed_at Acceptor Silent e = cc
  closed_at (Opener to) Trusted e = cc
  closed_at Acceptor Trusted e = cc
  closed_at (Opener to) (Introduced place) e = cc
  closed_at Acceptor (Introduced place) e = cc
  closed_at (Opener to) (Known place) e = cc
  closed_at Acceptor (Known place) e = cc
  closed_at (Opener to) Refused e = refl
  closed_at Acceptor Refused e = refl

  after_more_lines : (s : HandshakeStage) (lines more : Lines) → after_all t s (lines ++ more) ≡ after_all t (after_all t s lines) more
  after_more_lines s [] more = refl
  after_more_lines s (line ∷ lines) more = after_more_lines (after t s line) lines more

  pub closed : (side : Side) (lines more : Lines) → last_action t side lines ≡ Close → last_action t side (lines ++ more) ≡ Close
  closed side lines more h =
      ap (action side) (after_more_lines Silent lines more ∙ ap (λ s. after_all t s more) (closed_at side (after_all t Silent lines) h) ∙ refused_stays more) ∙ closes side
    where
      closes : (side : Side) → action side Refused ≡ Close
      closes (Opener to) = refl
      closes Acceptor = refl
