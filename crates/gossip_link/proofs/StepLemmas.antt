-- Schedules, put together event by event: what each event leads to where it comes at once and isn't refused.
use Rattle.std.proofs.Common.{◌≡◌, ℕ, true, false, cond, Option, Some, List, [], ◌∷◌, ◌++◌, length, take, refl, sym, ◌∙◌, ap, subst, arith}
use Rattle.std.specs.Prelude.{nat_le, slice_get}
use Rattle.std.proofs.lemmas.Bool.Decides.{nat_tests}
use Rattle.std.proofs.lemmas.List.{take_all}
use Rattle.chat_change.specs.declared.change.Change.{Change}
use Rattle.chat_history.specs.Numbering.{delta}
use Rattle.peer_lines.specs.Packet.{Packet, Ack}
use Rattle.cluster_directory.specs.declared.version.Version.{Version}
use Rattle.gossip_link.specs.Peer.{after_hello, packet_of, packet_is_mine, ack_of, after_ack}
use Rattle.gossip_link.specs.Cluster.{World, ClusterEvent, Make, Take, Greet, Hello_comes, Send, Packet_comes, Ack_comes, Restart, with_value, life, with_node, with_peer, with_taken, new_node, with_packet, packet_comes, ack_comes, happens, run, start, has_lived, LivesDiffer}
use Rattle.gossip_link.specs.Promises.{IsReached}
use Rattle.cluster_directory.proofs.CallerLemmas.{same_name_itself}
use Rattle.gossip_link.proofs.SoundLemmas.{IsSound}
use Rattle.gossip_link.proofs.EventLemmas.{IsSound-run, IsSound-start}

-- some events lead from one world to another, and each restart among them has an incarnation that its node never had
pub record Leads (old new : World) : Type 0 where
  pub events : List ClusterEvent
  pub differ : LivesDiffer events old
  pub ends : run events old ≡ new

pub nothing_happens : (w : World) → Leads w w
nothing_happens w = record { events = []; differ = tt; ends = refl }

run-append : (es fs : List ClusterEvent) (w : World) → run (es ++ fs) w ≡ run fs (run es w)
run-append [] fs w = refl
run-append (e ∷ es) fs w = run-append es fs (happens w e)

differ-append : (es fs : List ClusterEvent) (w : World) → LivesDiffer es w → LivesDiffer fs (run es w) → LivesDiffer (es ++ fs) w
differ-append [] fs w p q = q
differ-append (e ∷ es) fs w p q = (p.0, differ-append es fs (happens w e) p.1 q)

pub Leads-then : (u v w : World) → Leads u v → Leads v w → Leads u w
Leads-then u v w p q = record {
  events = p.events ++ q.events;
  differ = differ-append p.events q.events u p.differ (subst (LivesDiffer q.events) (sym p.ends) q.differ);
  ends = run-append p.events q.events u ∙ ap (run q.events) p.ends ∙ q.ends;
}

-- what events lead to from a world that is reached is reached
pub reached_then : (v w : World) → IsReached v → Leads v w → IsReached w
reached_then v w r p =
    let first : Leads (start r.incarnations r.versions) v = record { events = r.events; differ = r.differ; ends = r.ends } in
    let all = Leads-then (start r.incarnations r.versions) v w first p in
    record { incarnations = r.incarnations; versions = r.versions; events = all.events; differ = all.differ; ends = all.ends }

pub reached_sound : (w : World) → IsReached w → IsSound w
reached_sound w r = subst IsSound r.ends (IsSound-run r.events (start r.incarnations r.versions) r.differ (IsSound-start r.incarnations r.versions))

-- ---- a node makes changes, and takes them

pub takes_own : (w : World) (name : List ℕ) (changes : List Change)
    → Leads w (record w { nodes = with_value w.nodes name (with_taken (w.nodes name) changes); made = record { by = name; changes = changes } ∷ w.made })
takes_own w name changes =
    let v : World = record w { made = record { by = name; changes = changes } ∷ w.made } in
    record {
      events = Make name changes ∷ Take name 0 (length changes) ∷ [];
      differ = (tt, (tt, tt));
      ends =
          ap (λ b. cond b (with_node v name (with_taken (w.nodes name) (take (length changes) changes))) v) (same_name_itself name)
          ∙ ap (λ cs. with_node v name (with_taken (w.nodes name) cs)) (take_all (length changes) changes (omega arith));
    }

-- ---- a node hears the hello of a peer's present life

pub hears_hello : (w : World) (name peer : List ℕ) (version : Version)
    → Leads w (record w {
      nodes = with_value w.nodes name (with_peer (w.nodes name) peer (after_hello peer ((w.nodes name).peers peer) (life peer (w.nodes peer)) version));
      hellos = record { life = life peer (w.nodes peer); version = version } ∷ w.hellos;
    })
hears_hello w name peer version = record { events = Greet peer version ∷ Hello_comes name peer 0 ∷ []; differ = (tt, (tt, tt)); ends = refl }

-- ---- packets and acknowledgements

-- the packet of all that a node took
abbrev pub next_packet : World → List ℕ → List ℕ → Option Packet
next_packet w name peer =
    let x = w.nodes name in
    packet_of x.version (life name x) peer (x.peers peer).heard (delta 0 x.taken (x.peers peer).acked)

pub sends_all : (w : World) (name peer : List ℕ) → IsReached w
    → Leads w (with_packet w name peer (length (w.nodes name).taken) (next_packet w name peer))
sends_all w name peer r =
    let x = w.nodes name in
    let uses = (reached_sound w r).uses name peer in
    let fits : nat_le (x.used peer) (length x.taken) ≡ true = grind (arith, nat_tests) in
    record {
      events = Send name peer (length x.taken) ∷ [];
      differ = (tt, tt);
      ends =
          ap (λ cs. cond (nat_le (x.used peer) (length cs)) (with_packet w name peer (length cs) (packet_of x.version (life name x) peer (x.peers peer).heard (delta 0 cs (x.peers peer).acked))) w)
          (take_all (length x.taken) x.taken (omega arith))
          ∙ ap (λ b. cond b (with_packet w name peer (length x.taken) (next_packet w name peer)) w) fits;
    }

pub packet_comes_in : (w : World) (name peer : List ℕ) (which : ℕ) (p : Packet) → slice_get w.packets which ≡ Some p
    → packet_is_mine (life name (w.nodes name)) peer p ≡ true
    → Leads w (record w {
      nodes = with_value w.nodes name (with_taken (w.nodes name) p.changes);
      acks = ack_of (life name (w.nodes name)) p ∷ w.acks;
    })
packet_comes_in w name peer which p there mine =
    let v : World = record w {
      nodes = with_value w.nodes name (with_taken (w.nodes name) p.changes);
      acks = ack_of (life name (w.nodes name)) p ∷ w.acks;
    } in
    record {
      events = Packet_comes name peer which ∷ [];
      differ = (tt, tt);
      ends = ap (packet_comes w name peer) there ∙ ap (λ b. cond b v w) mine;
    }

pub ack_comes_in : (w : World) (name peer : List ℕ) (which : ℕ) (a : Ack) → slice_get w.acks which ≡ Some a
    → Leads w (with_node w name (with_peer (w.nodes name) peer (after_ack (life name (w.nodes name)) peer ((w.nodes name).peers peer) a)))
ack_comes_in w name peer which a there =
    record { events = Ack_comes name peer which ∷ []; differ = (tt, tt); ends = ap (ack_comes w name peer) there }

-- ---- a node starts again

pub restarts : (w : World) (name : List ℕ) (incarnation : ℕ) (version : Version) → has_lived (w.nodes name) incarnation ≡ false
    → Leads w (with_node w name (new_node incarnation ((w.nodes name).incarnation ∷ (w.nodes name).earlier) version))
restarts w name incarnation version fresh = record { events = Restart name incarnation version ∷ []; differ = (fresh, tt); ends = refl }
