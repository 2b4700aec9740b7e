-- What a node sends the others and takes from them, over its link with each.
use Rattle.std.specs.Prelude.{ℕ, Option, None, Some, List, [], map, Result, Ok, Err, slice_index_or, slice_set, if◌then◌else◌}
use Rattle.chat_history.specs.Numbering.{delta}
use Rattle.cluster_directory.specs.Life.{Life}
use Rattle.peer_lines.specs.Packet.{Packet, Ack}
use Rattle.cluster_directory.specs.declared.version.TheConstants.Version.{OWN}
use Rattle.cluster_directory.specs.declared.fault.LinkFault.{LinkFault}
use Rattle.cluster_directory.specs.declared.fault.LinkFault.TheVariants.{WrongLife, AckTooHigh}
use Rattle.gossip_link.specs.Link.{Link}
use Rattle.gossip_link.specs.Peer.{Peer, unheard, after_hello, packet_of, after_make, packet_is_mine, ack_of, ack_is_mine, ack_is_too_high, after_ack}
use Rattle.client_session.specs.declared.stage.Stage.{Stage}
use Rattle.bnc_server.specs.Node.{Node, after_taking}

-- ---- links

-- with a node whose life is heard of at once. All nodes of a script speak this program's own version
abbrev pub link_with : Life → Life → Link
link_with me other = record {
  me = me;
  name = other.node;
  peer = after_hello other.node unheard other OWN;
}

-- a node in a new life, which has heard of these
abbrev pub new_node : Stage → Life → List Life → List (Option Ack) → Node
new_node session life lives late = record {
  life = life;
  session = session;
  taken = [];
  links = map (link_with life) lives;
  late = late;
}

-- where there is no node
abbrev pub no_link : Link
no_link = record { me = record { node = []; incarnation = 0 }; name = []; peer = unheard }

abbrev pub link_at : Node → ℕ → Link
link_at node place = slice_index_or node.links place no_link

abbrev pub with_peer : Node → ℕ → Peer → Node
with_peer node place peer =
    record node { links = slice_set node.links place (record (link_at node place) { peer = peer }) }

-- ---- packets

-- a packet is made of all that the node took
abbrev pub packet_along : Link → Node → Option Packet
packet_along link node =
    packet_of OWN link.me link.name link.peer.heard (delta 0 node.taken link.peer.acked)

abbrev pub packet_for : Node → ℕ → Option Packet
packet_for node place = packet_along (link_at node place) node

abbrev pub after_making : Node → ℕ → Node
after_making node place =
    with_peer node place (after_make (link_at node place).peer (packet_for node place))

-- a packet for another life is passed over
abbrev pub ack_along : Link → Packet → Option Ack
ack_along link packet =
    if packet_is_mine link.me link.name packet then Some (ack_of link.me packet) else None

abbrev pub ack_for : Node → ℕ → Packet → Option Ack
ack_for node place packet = ack_along (link_at node place) packet

abbrev pub after_packet : Node → ℕ → Packet → Node
after_packet node place packet =
    if packet_is_mine (link_at node place).me (link_at node place).name packet
    then after_taking node packet.changes
    else node

-- ---- acknowledgements

abbrev pub answer_along : Link → Ack → Result (Unit {0}) LinkFault
answer_along link ack =
    if ack_is_mine link.me link.name link.peer ack
    then (if ack_is_too_high link.peer ack then Err AckTooHigh else Ok tt)
    else Err WrongLife

abbrev pub ack_answer : Node → ℕ → Ack → Result (Unit {0}) LinkFault
ack_answer node place ack = answer_along (link_at node place) ack

abbrev pub after_ack_of : Node → ℕ → Ack → Node
after_ack_of node place ack =
    with_peer node place
    (after_ack (link_at node place).me (link_at node place).name (link_at node place).peer ack)

-- the last that was held back, which stays held
abbrev pub late_ack : Node → ℕ → Option Ack
late_ack node place = slice_index_or node.late place None

abbrev pub with_late : Node → ℕ → Ack → Node
with_late node place ack = record node { late = slice_set node.late place (Some ack) }

-- ---- hellos

-- the node hears of a life of the node at a place
abbrev pub hearing : ℕ → Life → Node → Node
hearing place life node =
    with_peer node place (after_hello (link_at node place).name (link_at node place).peer life OWN)
