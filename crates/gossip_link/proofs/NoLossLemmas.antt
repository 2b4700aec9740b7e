-- A packet that comes, and its acknowledgement that comes: then all of its delta is acknowledged.
use Rattle.std.proofs.Common.{◌≡◌, ◌≢◌, ℕ, ◌≤◌, ◌<◌, max, true, false, cond, ◌&&◌, ◌||◌, Some, None, List, [], ◌∷◌, length, refl, sym, ◌∙◌, ap, arith}
use Rattle.std.proofs.lemmas.Bool.Decides.{nat_tests}
use Rattle.std.proofs.lemmas.List.{take_all}
use Rattle.std.specs.Prelude.{◌==◌, nat_le, nat_lt, not}
use Rattle.chat_history.specs.Numbering.{Delta, delta}
use Rattle.cluster_directory.specs.Life.{Life, same_life}
use Rattle.peer_lines.specs.Packet.{Packet, Ack}
use Rattle.cluster_directory.specs.Names.{same_name}
use Rattle.cluster_directory.specs.Version.{is_lower}
use Rattle.cluster_directory.specs.declared.version.Version.{Version}
use Rattle.gossip_link.specs.Peer.{Peer, packet_of, after_packet, packet_is_mine, ack_of, is_known, after_ack}
use Rattle.gossip_link.specs.Cluster.{Node, World, Send, Packet_comes, Ack_comes, with_value, life, with_peer, with_used, with_taken, with_packet, send, happens, run}
use Rattle.cluster_directory.proofs.CallerLemmas.{same_name_is, same_name_itself}
use Rattle.gossip_link.proofs.NameLemmas.{changed_here}

pub apart : (a b : List ℕ) → a ≢ b → same_name a b ≡ false
apart a b ne = elim (same_name a b) as (λ t. same_name a b ≡ t → t ≡ false) [ true ↦ λ e. absurd (ne (same_name_is a b e)) | false ↦ λ _. refl ] refl

pub equal_itself : (n : ℕ) → (n == n) ≡ true
equal_itself n = grind (arith, nat_tests)

pub changed_there : {A : Type 0} (f : List ℕ → A) (name other : List ℕ) (x : A) → same_name name other ≡ false → with_value f name x other ≡ f other
changed_there f name other x e = ap (λ b. cond b x (f other)) e

pub same_life_itself : (l : Life) → same_life l l ≡ true
same_life_itself l = ap (λ b. b && (l.incarnation == l.incarnation)) (same_name_itself l.node) ∙ equal_itself l.incarnation

-- the present life of the peer is known, and speaks no lower version
module _ (w : World) (name peer : List ℕ) (differ : name ≢ peer) (version : Version)
    (knows : ((w.nodes name).peers peer).heard ≡ Some (record { incarnation = (w.nodes peer).incarnation; version = version }))
    (serves : is_lower version (w.nodes name).version ≡ false) (enough : (w.nodes name).used peer ≤ length (w.nodes name).taken) where
  abbrev x : Node
  x = w.nodes name

  abbrev y : Node
  y = w.nodes peer

  abbrev p : Peer
  p = x.peers peer

  abbrev d : Delta
  d = delta 0 x.taken p.acked

  abbrev packet : Packet
  packet = record { sender = life name x; receiver = life peer y; from = d.from; to = d.to; changes = d.changes }

  abbrev q : Peer
  q = after_packet p packet

  abbrev sender : Node
  sender = with_used (with_peer x peer q) peer (length x.taken)

  abbrev after_send : World
  after_send = with_packet w name peer (length x.taken) (Some packet)

  module _ (some : 0 < length d.changes) (further : p.acked < d.to) where
    sends : happens w (Send name peer (length x.taken)) ≡ after_send
    sends =
        let fits : nat_le (x.used peer) (length x.taken) ≡ true = grind (arith, nat_tests) in
        let any : (length d.changes == 0) ≡ false = grind (arith, nat_tests) in
        ap (send w name peer) (take_all (length x.taken) x.taken (omega arith))
        ∙ ap (λ b. cond b (with_packet w name peer (length x.taken) (packet_of x.version (life name x) peer p.heard d)) w) fits
        ∙ ap (λ o. with_packet w name peer (length x.taken) (packet_of x.version (life name x) peer o d)) knows
        ∙ (λ i. with_packet w name peer (length x.taken) (cond (serves i || any i) None (Some packet)))

    there : after_send.nodes peer ≡ y
    there = changed_there w.nodes name peer sender (apart name peer differ)

    is_mine : packet_is_mine (life peer (after_send.nodes peer)) name packet ≡ true
    is_mine =
        ap (λ z. packet_is_mine (life peer z) name packet) there
        ∙ ap (λ b. b && same_name name name) (same_life_itself (life peer y))
        ∙ same_name_itself name

    abbrev ack : Ack
    ack = ack_of (life peer (after_send.nodes peer)) packet

    abbrev after_take : World
    after_take = record {
      nodes = with_value after_send.nodes peer (with_taken (after_send.nodes peer) packet.changes);
      made = w.made;
      hellos = w.hellos;
      packets = packet ∷ w.packets;
      acks = ack ∷ w.acks;
    }

    takes : happens after_send (Packet_comes peer name 0) ≡ after_take
    takes = ap (λ b. cond b after_take after_send) is_mine

    here : after_take.nodes name ≡ sender
    here =
        changed_there after_send.nodes peer name (with_taken (after_send.nodes peer) packet.changes) (apart peer name (λ e. differ (sym e)))
        ∙ changed_here w.nodes name sender

    known : is_known p.heard y.incarnation ≡ true
    known = ap (λ o. is_known o y.incarnation) knows ∙ equal_itself y.incarnation

    abbrev answer : Ack
    answer = record { sender = life peer y; receiver = life name x; upto = d.to }

    acked_after : (after_ack (life name x) peer q answer).acked ≡ d.to
    acked_after =
        let not_high : nat_lt (max p.sent d.to) d.to ≡ false = grind (arith, nat_tests) in
        let news : nat_lt p.acked d.to ≡ true = grind (arith, nat_tests) in
        ap (λ b. (cond b (record { heard = p.heard; acked = d.to; sent = max p.sent d.to }) q).acked)
        ((λ i. (same_life_itself (life name x) i && (same_name_itself peer i && known i)) && (not (not_high i) && news i)))

    comes : ((happens after_take (Ack_comes name peer 0)).nodes name).peers peer ≡ after_ack (life name x) peer q answer
    comes =
        let z = after_take.nodes name in
        let now = after_ack (life name z) peer (z.peers peer) ack in
        ap (λ (n : Node). n.peers peer) (changed_here after_take.nodes name (with_peer z peer now))
        ∙ changed_here z.peers peer now
        ∙ ap (λ (n : Node). after_ack (life name n) peer (n.peers peer) ack) here
        ∙ ap (λ (r : Peer). after_ack (life name x) peer r ack) (changed_here x.peers peer q)
        ∙ ap (λ (n : Node). after_ack (life name x) peer q (ack_of (life peer n) packet)) there

    pub arrives : ((run (Send name peer (length x.taken) ∷ Packet_comes peer name 0 ∷ Ack_comes name peer 0 ∷ []) w).nodes name).peers peer ≡ after_ack (life name x) peer q answer
    arrives =
        ap (λ v. ((happens (happens v (Packet_comes peer name 0)) (Ack_comes name peer 0)).nodes name).peers peer) sends
        ∙ ap (λ v. ((happens v (Ack_comes name peer 0)).nodes name).peers peer) takes
        ∙ comes

    pub acknowledged : (((run (Send name peer (length x.taken) ∷ Packet_comes peer name 0 ∷ Ack_comes name peer 0 ∷ []) w).nodes name).peers peer).acked ≡ d.to
    acknowledged = ap (λ (r : Peer). r.acked) arrives ∙ acked_after
