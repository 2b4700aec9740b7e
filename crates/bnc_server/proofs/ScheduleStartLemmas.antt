-- Every script is a schedule of a cluster, from its beginning on.
use Rattle.std.proofs.Common.{◌≡◌, ◌≢◌, ℕ, zero, suc, ◌≤◌, ◌<◌, true, false, not, cond, ◌&&◌, ◌||◌, Option, Some, None, List, [], ◌∷◌, length, get_or, map, refl, sym, ◌∙◌, ap, subst, arith, ⊎_elim}
use Rattle.std.specs.Prelude.{◌==◌, nat_lt, nat_le, ⊤}
use Rattle.std.proofs.lemmas.Bool.{and_parts, not-true, true≢false}
use Rattle.std.proofs.lemmas.Bool.Decides.{nat_tests}
use Rattle.std.proofs.lemmas.List.{get_or_past}
use Rattle.cluster_directory.specs.Life.{Life}
use Rattle.peer_lines.specs.Packet.{Packet, Ack}
use Rattle.cluster_directory.specs.declared.version.TheConstants.Version.{OWN}
use Rattle.gossip_link.specs.Peer.{unheard, after_hello}
use Rattle.gossip_link.specs.Cluster as cluster
use Rattle.gossip_link.specs.Cluster.{has_lived}
use Rattle.gossip_link.specs.Promises.{IsReached}
use Rattle.gossip_link.proofs.CallerLemmas.{equal_is}
use Rattle.bnc_server.specs.Command.{NodeCommand, select, exchange, lose, hold_back, hand_over, restart, bad_form, is_node_digit, index_of, on_node, on_pair, between, between_and, command_of}
use Rattle.client_session.specs.declared.stage.Stage.{Stage}
use Rattle.client_session.specs.declared.stage.Stage.TheVariants.{Registered}
use Rattle.bnc_server.specs.Links.{link_with, no_link, late_ack}
use Rattle.bnc_server.specs.World.{World, no_node, node_at, next_life, life_of, after_restart, after_command, after_sending, after_packet_of, packet_of, ack_of, delivering, taking_ack, holding_back}
use Rattle.bnc_server.specs.Script.{places, name_of, first_life, first_lives, none_late, first_node}
use Rattle.bnc_server.specs.Schedule.{node_count, ArePlaces}
use Rattle.bnc_server.proofs.ScheduleLemmas.{equal_or_not, LinkAgrees, Agrees, IsShownBySome, exchange_shown, loss_shown, holding_shown, handing_shown}
use Rattle.bnc_server.proofs.ScheduleHelloLemmas.{hears_others, restarted_shown}

-- ---- at each place

at_place : {A : Type 0} (f : ℕ → A) (d : A) (l : ℕ) → l < node_count → get_or (map f places) l d ≡ f l
at_place f d zero h = refl
at_place f d (suc zero) h = refl
at_place f d (suc (suc zero)) h = refl
at_place f d (suc (suc (suc zero))) h = refl
at_place f d (suc (suc (suc (suc zero)))) h = refl
at_place f d (suc (suc (suc (suc (suc zero))))) h = refl
at_place f d (suc (suc (suc (suc (suc (suc zero)))))) h = refl
at_place f d (suc (suc (suc (suc (suc (suc (suc zero))))))) h = refl
at_place f d (suc (suc (suc (suc (suc (suc (suc (suc zero)))))))) h = refl
at_place f d (suc (suc (suc (suc (suc (suc (suc (suc (suc n))))))))) h = absurd (omega (arith, h))

-- ---- the beginning: each node hears of all others

record IsReady (j : ℕ) (x : cluster.Node) : Type 0 where
  incarnation : x.incarnation ≡ 1
  earlier : x.earlier ≡ []
  version : x.version ≡ OWN
  taken : x.taken ≡ []
  known : (l : ℕ) → l ≢ j → l < node_count → x.peers (name_of l) ≡ after_hello (name_of l) unheard (first_life l) OWN

record Begun (n : ℕ) : Type 0 where
  world : cluster.World
  reached : IsReached world
  acks : world.acks ≡ []
  ready : (j : ℕ) → j < n → IsReady j (world.nodes (name_of j))
  fresh : (j : ℕ) → n ≤ j → world.nodes (name_of j) ≡ cluster.new_node 1 [] OWN

first_is : (n : ℕ) (t : Begun n) (j : ℕ) → cluster.life (name_of j) (t.world.nodes (name_of j)) ≡ first_life j
first_is n t j =
    let one : (t.world.nodes (name_of j)).incarnation ≡ 1 = elim (nat_lt j n) as (λ b. nat_lt j n ≡ b → (t.world.nodes (name_of j)).incarnation ≡ 1) [
      | true ↦ λ e. (t.ready j (grind (arith, nat_tests))).incarnation
      | false ↦ λ e. ap (λ (z : cluster.Node). z.incarnation) (t.fresh j (grind (arith, nat_tests)))
    ] refl in
    (λ i. record { node = name_of j; incarnation = one i })

begun : (n : ℕ) → Begun n
begun zero = record {
  world = cluster.start (λ _. 1) (λ _. OWN);
  reached = record { incarnations = λ _. 1; versions = λ _. OWN; events = []; differ = tt; ends = refl };
  acks = refl;
  ready = λ j h. absurd (omega (arith, h));
  fresh = λ j h. refl;
}
begun (suc n) =
    let t = begun n in
    let now = t.fresh n (omega arith) in
    let heard = hears_others t.world n t.reached (λ l d. ap (λ (z : cluster.Node). z.peers (name_of l)) now) node_count in
    record {
      world = heard.world;
      reached = heard.reached;
      acks = heard.acks ∙ t.acks;
      ready = λ j h. ⊎_elim
          (λ same. subst (λ m. IsReady m (heard.world.nodes (name_of m))) (sym same) (record {
            incarnation = heard.incarnation ∙ ap (λ (z : cluster.Node). z.incarnation) now;
            earlier = heard.earlier ∙ ap (λ (z : cluster.Node). z.earlier) now;
            version = heard.version ∙ ap (λ (z : cluster.Node). z.version) now;
            taken = heard.taken ∙ ap (λ (z : cluster.Node). z.taken) now;
            known = λ l d lt. heard.known l d lt ∙ ap (λ (z : Life). after_hello (name_of l) unheard z OWN) (first_is n t l);
          }))
          (λ ne. subst (IsReady j) (sym (heard.others j ne)) (t.ready j (omega (arith, h, ne))))
          (equal_or_not j n);
      fresh = λ j h. heard.others j (λ e. omega (arith, h, e)) ∙ t.fresh j (omega (arith, h));
    }

none_is_late : (l : ℕ) → get_or none_late l None ≡ None
none_is_late l = elim (nat_lt l node_count) as (λ b. nat_lt l node_count ≡ b → get_or none_late l None ≡ None) [
  | true ↦ λ e. at_place (λ _. None) None l (grind (arith, nat_tests))
  | false ↦ λ e. get_or_past none_late l None (grind (arith, nat_tests))
] refl

lived_once : (x : cluster.Node) (i : ℕ) → x.incarnation ≡ 1 → x.earlier ≡ [] → has_lived x i ≡ true → i ≤ x.incarnation
lived_once x i e f h =
    let one : has_lived (record x { incarnation = 1; earlier = [] }) i ≡ true = (λ j. has_lived (record x { incarnation = sym e j; earlier = sym f j }) i) ∙ h in
    elim (1 == i) as (λ b. (1 == i) ≡ b → (b || false) ≡ true → i ≤ x.incarnation) [
      | true ↦ λ t g. (let same = equal_is 1 i t in omega (arith, same, e))
      | false ↦ λ t g. absurd (true≢false (sym g))
    ] refl one

ready_agrees : (session : Stage) (j : ℕ) (x : cluster.Node) → IsReady j x → Agrees [] j x (first_node session (first_life j))
ready_agrees session j x is = record {
  life = own;
  version = is.version;
  taken = is.taken;
  size = refl;
  links = λ l lt. subst (LinkAgrees j x l) (sym (at_place (λ p. link_with (first_life j) (first_life p)) no_link l lt))
      (record { me = sym own; name = refl; peer = λ d. is.known l (λ e. d (sym e)) lt });
  newest = λ i h. lived_once x i is.incarnation is.earlier h;
  late = λ l a e. (let no' : None ≡ Some a = sym (none_is_late l) ∙ e in (cc));
} where
  own : cluster.life (name_of j) x ≡ first_life j
  own = (λ i. record { node = name_of j; incarnation = is.incarnation i })

pub begun_shown : (v : World) (session : Stage) → v.nodes ≡ map (first_node session) first_lives → IsShownBySome v
begun_shown v session is =
    let t = begun node_count in (
      t.world,
      record {
        reached = t.reached;
        count = ap length is;
        agree = λ j lt.
            subst (λ sent. Agrees sent j (t.world.nodes (name_of j)) (node_at v j)) (sym t.acks)
            (subst (Agrees [] j (t.world.nodes (name_of j))) (sym (ap (λ ns. get_or ns j no_node) is ∙ at_place (λ p. first_node session (first_life p)) no_node j lt))
            (ready_agrees session j (t.world.nodes (name_of j)) (t.ready j lt)));
      },
    )

-- ---- commands

-- the nodes of a command are nodes, and those of a pair differ
abbrev pub IsCommand : NodeCommand → Type 0
IsCommand (select node) = node < node_count
IsCommand (exchange sender receiver) = ArePlaces sender receiver
IsCommand (lose sender receiver) = ArePlaces sender receiver
IsCommand (hold_back sender receiver) = ArePlaces sender receiver
IsCommand (hand_over sender receiver) = ArePlaces sender receiver
IsCommand (restart node) = node < node_count
IsCommand bad_form = ⊤

digit_place : (d : ℕ) → is_node_digit d ≡ true → (index_of d < node_count) × (49 ≤ d)
digit_place d e =
    let both = and_parts (nat_le 49 d) (nat_le d 57) e in
    let low : 49 ≤ d = (let b = both.0 in grind (arith, nat_tests)) in
    let high : d ≤ 57 = (let b = both.1 in grind (arith, nat_tests)) in
    (omega (arith, low, high), low)

node_command : (d : ℕ) (c : ℕ → NodeCommand) → ((n : ℕ) → n < node_count → IsCommand (c n)) → IsCommand (on_node d c)
node_command d c is =
    elim (is_node_digit d) as (λ t. is_node_digit d ≡ t → IsCommand (cond t (c (index_of d)) bad_form)) [
      | true ↦ λ e. is (index_of d) (digit_place d e).0
      | false ↦ λ e. tt
    ] refl

pair_command : (one two : ℕ) (c : ℕ → ℕ → NodeCommand) → ((s r : ℕ) → ArePlaces s r → IsCommand (c s r)) → IsCommand (on_pair one two c)
pair_command one two c is =
    elim (is_node_digit one && (is_node_digit two && not (one == two))) as (λ t. (is_node_digit one && (is_node_digit two && not (one == two))) ≡ t → IsCommand (cond t (c (index_of one) (index_of two)) bad_form)) [
      | true ↦ λ e.
          let a = and_parts (is_node_digit one) (is_node_digit two && not (one == two)) e in
          let b = and_parts (is_node_digit two) (not (one == two)) a.1 in
          let first = digit_place one a.0 in
          let second = digit_place two b.0 in
          let apart : (one == two) ≡ false = not-true (one == two) b.1 in
          let low = first.1 in
          let low_too = second.1 in
          let ne : one ≢ two = (λ f. true≢false (sym (sym apart ∙ equal_both f))) in
          is (index_of one) (index_of two) (record { is_one = first.0; is_other = second.0; differ = λ f. ne (omega (arith, f, low, low_too)) })
      | false ↦ λ e. tt
    ] refl
  where
    equal_both : one ≡ two → (one == two) ≡ true
    equal_both f = grind (arith, nat_tests)

between_command : (one sign two : ℕ) → IsCommand (between one sign two)
between_command one sign two =
    elim (sign == 62) as (λ t. IsCommand (cond t (on_pair one two exchange) (cond (sign == 60) (on_pair one two hand_over) bad_form))) [
      | true ↦ pair_command one two exchange (λ s r are. are)
      | false ↦ elim (sign == 60) as (λ t. IsCommand (cond t (on_pair one two hand_over) bad_form)) [
        | true ↦ pair_command one two hand_over (λ s r are. are)
        | false ↦ tt
      ]
    ]

between_and_command : (one two last : ℕ) → IsCommand (between_and one two last)
between_and_command one two last =
    elim (last == 33) as (λ t. IsCommand (cond t (on_pair one two lose) (cond (last == 45) (on_pair one two hold_back) bad_form))) [
      | true ↦ pair_command one two lose (λ s r are. are)
      | false ↦ elim (last == 45) as (λ t. IsCommand (cond t (on_pair one two hold_back) bad_form)) [
        | true ↦ pair_command one two hold_back (λ s r are. are)
        | false ↦ tt
      ]
    ]

pub command_is : (bytes : List ℕ) → IsCommand (command_of bytes)
command_is [] = tt
command_is (one ∷ []) = node_command one select (λ n h. h)
command_is (one ∷ sign ∷ []) = elim (sign == 42) as (λ t. IsCommand (cond t (on_node one restart) bad_form)) [
  | true ↦ node_command one restart (λ n h. h)
  | false ↦ tt
]
command_is (one ∷ sign ∷ two ∷ []) = between_command one sign two
command_is (one ∷ sign ∷ two ∷ last ∷ []) = elim (sign == 62) as (λ t. IsCommand (cond t (between_and one two last) bad_form)) [
  | true ↦ between_and_command one two last
  | false ↦ tt
]
command_is (one ∷ sign ∷ two ∷ last ∷ more ∷ rest) = tt

-- the client goes on talking to its node
taking_selected : (v : World) (s r : ℕ) (o : Option Ack) → (taking_ack v s r o).world.selected ≡ v.selected
taking_selected v s r None = refl
taking_selected v s r (Some a) = refl

delivering_selected : (v : World) (s r : ℕ) (o : Option Packet) → (delivering v s r o).selected ≡ v.selected
delivering_selected v s r None = refl
delivering_selected v s r (Some p) = refl

holding_selected : (v : World) (s r : ℕ) (o : Option Ack) → (holding_back v s r o).selected ≡ v.selected
holding_selected v s r None = refl
holding_selected v s r (Some a) = refl

sent_selected : (v : World) (s r : ℕ) → (after_command v (exchange s r)).world.selected ≡ v.selected
sent_selected v s r = taking_selected (after_packet_of v s r) s r (ack_of v s r) ∙ delivering_selected (after_sending v s r) s r (packet_of v s r)

held_selected : (v : World) (s r : ℕ) → (after_command v (hold_back s r)).world.selected ≡ v.selected
held_selected v s r = holding_selected (after_packet_of v s r) s r (ack_of v s r) ∙ delivering_selected (after_sending v s r) s r (packet_of v s r)

-- the world stays one that a cluster shows, and whose client talks to a node
pub record Goes (v : World) : Type 0 where
  pub selected : v.selected < node_count
  pub shown : IsShownBySome v

pub command_goes : (v : World) (c : NodeCommand) → IsCommand c → Goes v → Goes (after_command v c).world
command_goes v (select node) is g = record { selected = is; shown = (g.shown.0, record { reached = g.shown.1.reached; count = g.shown.1.count; agree = g.shown.1.agree }) }
command_goes v (exchange sender receiver) is g = record { selected = subst (λ n. n < node_count) (sym (sent_selected v sender receiver)) g.selected; shown = exchange_shown v sender receiver is g.shown }
command_goes v (lose sender receiver) is g = record { selected = g.selected; shown = loss_shown v sender receiver is g.shown }
command_goes v (hold_back sender receiver) is g = record { selected = subst (λ n. n < node_count) (sym (held_selected v sender receiver)) g.selected; shown = holding_shown v sender receiver is g.shown }
command_goes v (hand_over sender receiver) is g = record { selected = subst (λ n. n < node_count) (sym (taking_selected v sender receiver (late_ack (node_at v sender) receiver))) g.selected; shown = handing_shown v sender receiver is g.shown }
command_goes v (restart node) is g = record {
  selected = g.selected;
  shown = restarted_shown g.shown.0 v g.shown.1 node is (Registered v.facts) (after_restart v node (next_life (life_of (node_at v node)))) refl;
}
command_goes v bad_form is g = g
