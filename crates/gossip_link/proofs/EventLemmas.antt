-- Each event keeps what holds of a cluster.
use Rattle.std.proofs.Common.{◌≡◌, ℕ, ◌≤◌, true, false, cond, ◌&&◌, ◌||◌, Option, Some, None, List, [], ◌∷◌, ◌++◌, length, take, drop, refl, sym, ◌∙◌, ap, subst, arith}
use Rattle.std.proofs.lemmas.Bool.Decides.{nat_tests}
use Rattle.std.proofs.lemmas.List.{append-nil, take-append-drop, take_at, length-append}
use Rattle.std.proofs.lemmas.List.Elements.{All-nil, All-cons, All-append, All-take, All-weaker, All-contains_itself}
use Rattle.std.specs.List.{All}
use Rattle.std.specs.Prelude.{◌==◌, Contains, nat_le, nat_lt, not, slice_get}
use Rattle.std.specs.FinMap.{get}
use Rattle.chat_change.specs.declared.change.Change.{Change}
use Rattle.chat_history.specs.History.{norm, changes_of}
use Rattle.chat_change.specs.Key.{Key}
use Rattle.chat_history.specs.Numbering.{delta, front}
use Rattle.chat_history.proofs.CallerLemmas.{norm_left, front_rises, on_and_on}
use Rattle.chat_history.specs.UpTo.{IncludesUpTo}
use Rattle.chat_history.proofs.CallerLemmas.{UpTo-delta, UpTo-later, UpTo-start, delta_within, delta_all, same_at_fronts}
use Rattle.cluster_directory.specs.Life.{Life, same_life}
use Rattle.peer_lines.specs.Packet.{Packet, Ack}
use Rattle.cluster_directory.specs.Version.{is_lower}
use Rattle.cluster_directory.specs.declared.version.Version.{Version}
use Rattle.cluster_directory.specs.Names.{same_name}
use Rattle.gossip_link.specs.declared.link.KnownLife.{KnownLife}
use Rattle.gossip_link.specs.Peer.{Peer, is_news, hello_is_news, after_hello, packet_of, after_packet, packet_is_mine, ack_of, is_known, ack_is_mine, ack_is_too_high, after_ack}
use Rattle.gossip_link.specs.Cluster.{Node, Made, World, ClusterEvent, Make, Take, Ask, Greet, Hello_comes, Send, Packet_comes, Part_comes, Ack_comes, Restart, with_value, life, with_node, with_peer, with_used, with_taken, new_node, take_made, hear, with_packet, send, packet_comes, part_comes, ack_comes, happens, run, start, IsFresh, LivesDiffer}
use Rattle.gossip_link.specs.Promises.{ComesFrom, incarnation_of, Knows, PeerIncludes, IsAcknowledged}
use Rattle.cluster_directory.proofs.CallerLemmas.{same_name_is, both_true}
use Rattle.gossip_link.proofs.NameLemmas.{same_life_is, equal_is, changed_here, at_each, Begins, shorter_begins, All-got}
use Rattle.gossip_link.proofs.ComesLemmas.{ComesFrom-more, ComesFrom-made, pieces_come}
use Rattle.gossip_link.proofs.SoundLemmas.{Nodes, Lived, Reached, LinkIsSound, HelloIsSound, PacketIsSound, AckIsSound, IsSound, GoesOn, GoOn, go_on, same_life_goes_on, Lived-now, restart_goes_on, Lived-later, Reached-later, LinkIsSound-later, IsSound-node}

front_grows : (start : ℕ) (cs more : List Change) → front start cs ≤ front start (cs ++ more)
front_grows start cs more =
    on_and_on (λ ds. front start cs ≤ front start ds) (λ ds d h. let r = front_rises ds d start in omega arith) cs more (omega arith)

take_begin : (first rest whole : List Change) → first ++ rest ≡ whole → take (length first) whole ≡ first
take_begin first rest whole e = ap (take (length first)) (sym e) ∙ take_at first rest (length first) refl

-- ---- a list of messages

got : {A : Type 0} (P : A → Type 0) (Q : Option A → Type 0) (xs : List A) (i : ℕ) → All P xs → Q None → ((x : A) → P x → Q (Some x)) → Q (slice_get xs i)
got P Q xs i h none some =
    elim (slice_get xs i) as (λ o. slice_get xs i ≡ o → Q o) [
      | None ↦ λ _. none
      | Some x ↦ λ e. some x (All-got P xs i x h e)
    ] refl

-- ---- changes are made, and taken

IsSound-make : (w : World) (m : Made) → IsSound w → IsSound (record { nodes = w.nodes; made = m ∷ w.made; hellos = w.hellos; packets = w.packets; acks = w.acks })
IsSound-make w m s = record {
  holds = s.holds;
  uses = s.uses;
  comes = λ name. All-weaker (ComesFrom w.made) (ComesFrom (m ∷ w.made)) (ComesFrom-more w.made m) (w.nodes name).taken (s.comes name);
  links = s.links;
  hellos = s.hellos;
  packets = All-weaker (PacketIsSound w.nodes w.made) (PacketIsSound w.nodes (m ∷ w.made))
      (λ p h. record {
        sender = h.sender;
        receiver = h.receiver;
        comes = All-weaker (ComesFrom w.made) (ComesFrom (m ∷ w.made)) (ComesFrom-more w.made m) p.changes h.comes;
        first = h.first;
        reached = h.reached;
        changes = h.changes;
        to = h.to;
      }) w.packets s.packets;
  acks = s.acks;
}

module _ (w : World) (name : List ℕ) (cs : List Change) where
  abbrev me : Node
  me = w.nodes name

  took_goes_on : GoesOn me (with_taken me cs)
  took_goes_on = same_life_goes_on me (with_taken me cs) refl refl cs refl (λ peer. omega arith)

  IsSound-took : IsSound w → All (ComesFrom w.made) cs → IsSound (with_node w name (with_taken me cs))
  IsSound-took s comes =
      IsSound-node w name (with_taken me cs) s took_goes_on
      (ap (λ h. norm (changes_of h ++ cs)) (s.holds name) ∙ norm_left me.taken cs)
      (All-append (ComesFrom w.made) me.taken cs (s.comes name) comes)
      (λ peer. let fits = s.uses name peer in omega (arith, length-append me.taken cs, fits))
      (λ peer. LinkIsSound-later w.nodes (with_value w.nodes name (with_taken me cs)) (go_on w.nodes name (with_taken me cs) took_goes_on) (life name me) peer (me.peers peer) (Lived-now w.nodes name) (s.links name peer))

made_comes : (made : List Made) (m : Made) (count : ℕ) → Contains made m → All (ComesFrom made) (take count m.changes)
made_comes made m count h =
    All-take (ComesFrom made) count m.changes
    (All-weaker (Contains m.changes) (ComesFrom made) (λ c in'. ComesFrom-made made c (m, h, in')) m.changes (All-contains_itself m.changes))

IsSound-take : (w : World) (name : List ℕ) (which count : ℕ) → IsSound w → IsSound (take_made w name count (slice_get w.made which))
IsSound-take w name which count s =
    got (Contains w.made) (λ o. IsSound (take_made w name count o)) w.made which (All-contains_itself w.made) s
    (λ m in'. elim (same_name m.by name) as (λ b. IsSound (cond b (with_node w name (with_taken (w.nodes name) (take count m.changes))) w)) [
      | true ↦ IsSound-took w name (take count m.changes) s (made_comes w.made m count in')
      | false ↦ s
    ])

-- ---- what a node knows of one peer changes

module _ (w : World) (name peer : List ℕ) (p : Peer) where
  abbrev mine : Node
  mine = w.nodes name

  abbrev then' : Nodes
  then' = with_value w.nodes name (with_peer mine peer p)

  peer_goes_on : GoesOn mine (with_peer mine peer p)
  peer_goes_on = same_life_goes_on mine (with_peer mine peer p) refl refl [] (sym (append-nil mine.taken)) (λ other. omega arith)

  peer_all_on : GoOn w.nodes then'
  peer_all_on = go_on w.nodes name (with_peer mine peer p) peer_goes_on

  IsSound-peer : IsSound w → LinkIsSound w.nodes (life name mine) peer p → IsSound (with_node w name (with_peer mine peer p))
  IsSound-peer s link =
      IsSound-node w name (with_peer mine peer p) s peer_goes_on (s.holds name) (s.comes name) (s.uses name)
      (at_each mine.peers peer p (λ other q. LinkIsSound then' (life name mine) other q)
      (LinkIsSound-later w.nodes then' peer_all_on (life name mine) peer p (Lived-now w.nodes name) link)
      (λ other. LinkIsSound-later w.nodes then' peer_all_on (life name mine) other (mine.peers other) (Lived-now w.nodes name) (s.links name other)))

-- whoever it is, and whatever was taken: of nothing all is taken
nothing_reached : (nodes : Nodes) (holder taker : Life) → Reached nodes holder taker [] 0
nothing_reached nodes holder taker = record {
  within = omega arith;
  begins = λ _. (((nodes holder.node).taken, refl), omega arith);
  includes = λ _. UpTo-start 0 (nodes taker.node).taken;
}

heard_link : (w : World) (name peer : List ℕ) (hello : Life) (version : Version) → IsSound w → Lived w.nodes hello → LinkIsSound w.nodes (life name (w.nodes name)) peer (after_hello peer ((w.nodes name).peers peer) hello version)
heard_link w name peer hello version s lived =
    let me = life name (w.nodes name) in
    let p = (w.nodes name).peers peer in
    let heard : KnownLife = record { incarnation = hello.incarnation; version = version } in
    elim (hello_is_news peer p hello) as (λ b. hello_is_news peer p hello ≡ b → LinkIsSound w.nodes me peer (cond b (record { heard = Some heard; acked = 0; sent = 0 }) p)) [
      | true ↦ λ e known is.
          let named = sym (same_name_is peer hello.node (both_true (same_name peer hello.node) (is_news p.heard hello.incarnation) e).0) in
          let own : heard ≡ known = cc is in
          let them : Life = record { node = peer; incarnation = known.incarnation } in
          let same : hello ≡ them = λ j. record { node = named j; incarnation = (own j).incarnation } in
          (subst (Lived w.nodes) same lived, ([], nothing_reached w.nodes me them))
      | false ↦ λ _. s.links name peer
    ] refl

IsSound-hear : (w : World) (name peer : List ℕ) (which : ℕ) → IsSound w → IsSound (hear w name peer (slice_get w.hellos which))
IsSound-hear w name peer which s =
    got (HelloIsSound w.nodes) (λ o. IsSound (hear w name peer o)) w.hellos which s.hellos s
    (λ hello lived. IsSound-peer w name peer (after_hello peer ((w.nodes name).peers peer) hello.life hello.version) s (heard_link w name peer hello.life hello.version s lived))

known_is : (heard : Option KnownLife) (known : KnownLife) (i : ℕ) → heard ≡ Some known → is_known heard i ≡ true → known.incarnation ≡ i
known_is heard known i is e = equal_is known.incarnation i (subst (λ o. is_known o i ≡ true) is e)

acked_link : (w : World) (name peer : List ℕ) (a : Ack) → IsSound w → AckIsSound w.nodes a → LinkIsSound w.nodes (life name (w.nodes name)) peer (after_ack (life name (w.nodes name)) peer ((w.nodes name).peers peer) a)
acked_link w name peer a s sound =
    let me = life name (w.nodes name) in
    let p = (w.nodes name).peers peer in
    let news = not (ack_is_too_high p a) && nat_lt p.acked a.upto in
    elim (ack_is_mine me peer p a && news) as (λ b. (ack_is_mine me peer p a && news) ≡ b → LinkIsSound w.nodes me peer (cond b (record { heard = p.heard; acked = a.upto; sent = p.sent }) p)) [
      | true ↦ λ e known is.
          let mine = both_true (same_life a.receiver me) (same_name a.sender.node peer && is_known p.heard a.sender.incarnation) (both_true (ack_is_mine me peer p a) news e).0 in
          let from_peer = both_true (same_name a.sender.node peer) (is_known p.heard a.sender.incarnation) mine.1 in
          let for_me = same_life_is a.receiver me mine.0 in
          let named = same_name_is a.sender.node peer from_peer.0 in
          let own = sym (known_is p.heard known a.sender.incarnation is from_peer.1) in
          let them : Life = record { node = peer; incarnation = known.incarnation } in
          let same : a.sender ≡ them = λ j. record { node = named j; incarnation = own j } in (
            subst (Lived w.nodes) same sound.sender,
            (sound.first, subst (λ l. Reached w.nodes me l sound.first a.upto) same (subst (λ l. Reached w.nodes l a.sender sound.first a.upto) for_me sound.reached)),
          )
      | false ↦ λ _. s.links name peer
    ] refl

IsSound-ack : (w : World) (name peer : List ℕ) (which : ℕ) → IsSound w → IsSound (ack_comes w name peer (slice_get w.acks which))
IsSound-ack w name peer which s =
    got (AckIsSound w.nodes) (λ o. IsSound (ack_comes w name peer o)) w.acks which s.acks s
    (λ a sound. IsSound-peer w name peer (after_ack (life name (w.nodes name)) peer ((w.nodes name).peers peer) a) s (acked_link w name peer a s sound))

-- ---- a packet comes

module _ (w : World) (name peer : List ℕ) (p : Packet) (s : IsSound w) (sound : PacketIsSound w.nodes w.made p) where
  abbrev at : Node
  at = w.nodes name

  abbrev after : Nodes
  after = with_value w.nodes name (with_taken at p.changes)

  on : GoOn w.nodes after
  on = go_on w.nodes name (with_taken at p.changes) (took_goes_on w name p.changes)

  acked_now : p.receiver ≡ life name at → AckIsSound after (ack_of (life name at) p)
  acked_now is =
      let reached = subst (λ l. Reached w.nodes p.sender l sound.first p.from) is sound.reached in
      let later = Reached-later w.nodes after on p.sender (life name at) sound.first p.from sound.sender (Lived-now w.nodes name) reached in
      record {
        sender = Lived-later w.nodes after on (life name at) (Lived-now w.nodes name);
        receiver = Lived-later w.nodes after on p.sender sound.sender;
        first = sound.first;
        reached = record {
          within = subst (λ n. n ≤ front 0 sound.first) (sym sound.to) (delta_within 0 p.from sound.first reached.within);
          begins = later.begins;
          includes = λ _.
              subst (λ x. IncludesUpTo x.taken 0 sound.first p.to) (sym (changed_here w.nodes name (with_taken at p.changes)))
              (subst (λ n. IncludesUpTo (at.taken ++ p.changes) 0 sound.first n) (sym sound.to)
              (subst (λ cs. IncludesUpTo (at.taken ++ cs) 0 sound.first (delta 0 sound.first p.from).to) (sym sound.changes)
              (UpTo-delta 0 p.from at.taken sound.first (reached.includes refl))));
        };
      }

  packet_came : IsSound (packet_comes w name peer (Some p))
  packet_came =
      let me = life name at in
      let taken = IsSound-took w name p.changes s sound.comes in
      elim (packet_is_mine me peer p) as (λ b. packet_is_mine me peer p ≡ b → IsSound (cond b (record { nodes = after; made = w.made; hellos = w.hellos; packets = w.packets; acks = ack_of me p ∷ w.acks }) w)) [
        | true ↦ λ e.
            let is = same_life_is p.receiver me (both_true (same_life p.receiver me) (same_name p.sender.node peer) e).0 in
            record {
              holds = taken.holds;
              comes = taken.comes;
              uses = taken.uses;
              links = taken.links;
              hellos = taken.hellos;
              packets = taken.packets;
              acks = All-cons (AckIsSound after) (ack_of me p) w.acks (acked_now is) taken.acks;
            }
        | false ↦ λ _. s
      ] refl

  part_came : (count : ℕ) → IsSound (part_comes w name peer count (Some p))
  part_came count =
      elim (packet_is_mine (life name at) peer p) as (λ b. IsSound (cond b (with_node w name (with_taken at (take count p.changes))) w)) [
        | true ↦ IsSound-took w name (take count p.changes) s (All-take (ComesFrom w.made) count p.changes sound.comes)
        | false ↦ s
      ]

IsSound-packet : (w : World) (name peer : List ℕ) (which : ℕ) → IsSound w → IsSound (packet_comes w name peer (slice_get w.packets which))
IsSound-packet w name peer which s =
    got (PacketIsSound w.nodes w.made) (λ o. IsSound (packet_comes w name peer o)) w.packets which s.packets s (λ p sound. packet_came w name peer p s sound)

IsSound-part : (w : World) (name peer : List ℕ) (which count : ℕ) → IsSound w → IsSound (part_comes w name peer count (slice_get w.packets which))
IsSound-part w name peer which count s =
    got (PacketIsSound w.nodes w.made) (λ o. IsSound (part_comes w name peer count o)) w.packets which s.packets s (λ p sound. part_came w name peer p s sound count)

-- ---- a packet is sent

module _ (w : World) (name peer : List ℕ) (first : List Change) (begins : Begins first (w.nodes name).taken) (s : IsSound w) where
  abbrev x : Node
  x = w.nodes name

  abbrev p : Peer
  p = x.peers peer

  -- the packet of a known life
  abbrev packet : ℕ → Packet
  packet i = record {
    sender = life name x;
    receiver = record { node = peer; incarnation = i };
    from = p.acked;
    to = (delta 0 first p.acked).to;
    changes = (delta 0 first p.acked).changes;
  }

  abbrev sender : Peer → Node
  sender q = with_used (with_peer x peer q) peer (length first)

  module _ (enough : x.used peer ≤ length first) (known : KnownLife) (heard : p.heard ≡ Some known) where
    abbrev i : ℕ
    i = known.incarnation

    abbrev them : Life
    them = record { node = peer; incarnation = i }

    abbrev q : Peer
    q = after_packet p (packet i)

    abbrev sending : Nodes
    sending = with_value w.nodes name (sender q)

    sender_goes_on : GoesOn x (sender q)
    sender_goes_on = same_life_goes_on x (sender q) refl refl [] (sym (append-nil x.taken)) (at_each x.used peer (length first) (λ other n. x.used other ≤ n) enough (λ other. omega arith))

    all_on : GoOn w.nodes sending
    all_on = go_on w.nodes name (sender q) sender_goes_on

    shorter : length first ≤ length x.taken
    shorter = omega (arith, length-append first begins.0, ap length begins.1)

    sender_sound : IsSound (with_node w name (sender q))
    sender_sound =
        IsSound-node w name (sender q) s sender_goes_on (s.holds name) (s.comes name) (at_each x.used peer (length first) (λ other n. n ≤ length x.taken) shorter (s.uses name))
        (at_each x.peers peer q (λ other r. LinkIsSound sending (life name x) other r)
        (LinkIsSound-later w.nodes sending all_on (life name x) peer p (Lived-now w.nodes name) (s.links name peer))
        (λ other. LinkIsSound-later w.nodes sending all_on (life name x) other (x.peers other) (Lived-now w.nodes name) (s.links name other)))

    link : Lived w.nodes them × ((shorter : List Change) × Reached w.nodes (life name x) them shorter p.acked)
    link = s.links name peer known heard

    -- what was acknowledged was of a beginning that this delta's goes on from
    goes_on : Begins link.1.0 first
    goes_on =
        let before = link.1.1.begins refl in
        let fits = before.1 in
        shorter_begins link.1.0 first before.0.0 begins.0 (before.0.1 ∙ sym begins.1) (omega (arith, fits, enough))

    reached_now : Reached sending (life name x) them first p.acked
    reached_now =
        let old = link.1.1 in
        let later = Reached-later w.nodes sending all_on (life name x) them link.1.0 p.acked (Lived-now w.nodes name) link.0 old in
        let within = old.within in
        let grows = front_grows 0 link.1.0 goes_on.0 in
        let longer : front 0 link.1.0 ≤ front 0 first = subst (λ cs. front 0 link.1.0 ≤ front 0 cs) goes_on.1 grows in
        record {
          within = omega (arith, within, longer);
          begins = λ _.
              subst (λ (y : Node). Begins first y.taken × (length first ≤ y.used peer)) (sym (changed_here w.nodes name (sender q)))
              (begins, subst (λ n. length first ≤ n) (sym (changed_here x.used peer (length first))) (omega arith));
          includes = λ now.
              subst (λ cs. IncludesUpTo (sending peer).taken 0 cs p.acked) goes_on.1
              (UpTo-later 0 p.acked (sending peer).taken link.1.0 goes_on.0 old.within (later.includes now));
        }

    first_comes : All (ComesFrom w.made) first
    first_comes = subst (All (ComesFrom w.made)) (take_begin first begins.0 x.taken begins.1) (All-take (ComesFrom w.made) (length first) x.taken (s.comes name))

    packet_sound : PacketIsSound sending w.made (packet i)
    packet_sound = record {
      sender = Lived-later w.nodes sending all_on (life name x) (Lived-now w.nodes name);
      receiver = Lived-later w.nodes sending all_on them link.0;
      comes = delta_all 0 p.acked first (ComesFrom w.made) (pieces_come w.made first first_comes);
      first = first;
      reached = reached_now;
      changes = refl;
      to = refl;
    }

    sent_sound : IsSound (with_packet w name peer (length first) (Some (packet i)))
    sent_sound =
        let now = sender_sound in
        record {
          holds = now.holds;
          comes = now.comes;
          uses = now.uses;
          links = now.links;
          hellos = now.hellos;
          packets = All-cons (PacketIsSound sending w.made) (packet i) w.packets packet_sound now.packets;
          acks = now.acks;
        }

  send_sound : IsSound (send w name peer first)
  send_sound =
      elim (nat_le (x.used peer) (length first)) as (λ b. nat_le (x.used peer) (length first) ≡ b → IsSound (cond b (with_packet w name peer (length first) (packet_of x.version (life name x) peer p.heard (delta 0 first p.acked))) w)) [
        | true ↦ λ t.
            let enough : x.used peer ≤ length first = grind (arith, nat_tests) in
            elim (p.heard) as (λ o. p.heard ≡ o → IsSound (with_packet w name peer (length first) (packet_of x.version (life name x) peer o (delta 0 first p.acked)))) [
              | None ↦ λ _. s
              | Some known ↦ λ heard. elim (is_lower known.version x.version || (length (delta 0 first p.acked).changes == 0)) as (λ b. IsSound (with_packet w name peer (length first) (cond b None (Some (packet known.incarnation))))) [
                | true ↦ s
                | false ↦ sent_sound enough known heard
              ]
            ] refl
        | false ↦ λ _. s
      ] refl

-- ---- every event, and every schedule

IsSound-happens : (w : World) (e : ClusterEvent) → IsFresh w e → IsSound w → IsSound (happens w e)
IsSound-happens w (Make name changes) f s = IsSound-make w (record { by = name; changes = changes }) s
IsSound-happens w (Take name which count) f s = IsSound-take w name which count s
IsSound-happens w (Ask name) f s = s
IsSound-happens w (Greet name version) f s = record {
  holds = s.holds;
  comes = s.comes;
  uses = s.uses;
  links = s.links;
  hellos = All-cons (HelloIsSound w.nodes) (record { life = life name (w.nodes name); version = version }) w.hellos (Lived-now w.nodes name) s.hellos;
  packets = s.packets;
  acks = s.acks;
}
IsSound-happens w (Hello_comes name peer which) f s = IsSound-hear w name peer which s
IsSound-happens w (Send name peer count) f s = send_sound w name peer (take count (w.nodes name).taken) (drop count (w.nodes name).taken, take-append-drop count (w.nodes name).taken) s
IsSound-happens w (Packet_comes name peer which) f s = IsSound-packet w name peer which s
IsSound-happens w (Part_comes name peer which count) f s = IsSound-part w name peer which count s
IsSound-happens w (Ack_comes name peer which) f s = IsSound-ack w name peer which s
IsSound-happens w (Restart name incarnation version) f s =
    let x = w.nodes name in
    let new = new_node incarnation (x.incarnation ∷ x.earlier) version in
    IsSound-node w name new s (restart_goes_on x incarnation version f) refl (All-nil (ComesFrom w.made)) (λ peer. omega arith) (λ peer known e. cc e)

pub IsSound-run : (events : List ClusterEvent) (w : World) → LivesDiffer events w → IsSound w → IsSound (run events w)
IsSound-run [] w d s = s
IsSound-run (e ∷ es) w d s = IsSound-run es (happens w e) d.1 (IsSound-happens w e d.0 s)

pub IsSound-start : (incarnations : List ℕ → ℕ) (versions : List ℕ → Version) → IsSound (start incarnations versions)
IsSound-start incarnations versions = record {
  holds = λ name. refl;
  comes = λ name. All-nil (ComesFrom []);
  uses = λ name peer. omega arith;
  links = λ name peer known e. cc e;
  hellos = All-nil (HelloIsSound (start incarnations versions).nodes);
  packets = All-nil (PacketIsSound (start incarnations versions).nodes []);
  acks = All-nil (AckIsSound (start incarnations versions).nodes);
}

-- ---- what follows

-- what is known of a peer whose incarnation is known
pub known_life : (heard : Option KnownLife) (i : ℕ) → incarnation_of heard ≡ Some i → (known : KnownLife) × (heard ≡ Some known) × (known.incarnation ≡ i)
known_life None i e = cc e
known_life (Some known) i e = let same : known.incarnation ≡ i = cc e in (known, refl, same)

module _ (w : World) (s : IsSound w) where
  pub comes_from : (name : List ℕ) (k : Key) (c : Change) → get (w.nodes name).history k ≡ Some c → ComesFrom w.made c
  comes_from name k c e = pieces_come w.made (w.nodes name).taken (s.comes name) k c (ap (λ h. get h k) (sym (s.holds name)) ∙ e)

  -- a peer in its present life is up to date with all that the node took
  pub up_to_date : (name peer : List ℕ) → Knows w name peer → IncludesUpTo (w.nodes peer).taken 0 (w.nodes name).taken ((w.nodes name).peers peer).acked
  up_to_date name peer knows =
      let acked = ((w.nodes name).peers peer).acked in
      let known = known_life ((w.nodes name).peers peer).heard (w.nodes peer).incarnation knows in
      let link = s.links name peer known.0 known.1 in
      let reached = link.1.1 in
      let begins = (reached.begins refl).0 in
      subst (λ cs. IncludesUpTo (w.nodes peer).taken 0 cs acked) begins.1
      (UpTo-later 0 acked (w.nodes peer).taken link.1.0 begins.0 reached.within (reached.includes (sym known.2)))

  pub peer_includes : (name peer : List ℕ) → Knows w name peer → PeerIncludes w name peer
  peer_includes name peer knows k c e b = up_to_date name peer knows k c (ap (λ h. get h k) (sym (s.holds name)) ∙ e) b

  pub same_histories : (name peer : List ℕ) → IsAcknowledged w name peer → IsAcknowledged w peer name → (w.nodes name).history ≡ (w.nodes peer).history
  same_histories name peer h g =
      let xs = (w.nodes name).taken in
      let ys = (w.nodes peer).taken in
      s.holds name
      ∙ same_at_fronts 0 0 xs ys (subst (IncludesUpTo ys 0 xs) h.1 (up_to_date name peer h.0)) (subst (IncludesUpTo xs 0 ys) g.1 (up_to_date peer name g.0))
      ∙ sym (s.holds peer)
