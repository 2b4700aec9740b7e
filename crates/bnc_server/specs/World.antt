-- The nodes of a script together, and what each command does to them.
use Rattle.std.specs.Prelude.{ℕ, ◌+◌, Option, None, Some, List, [], ◌++◌, codes, map, Result, Ok, Err, slice_index_or, slice_set}
use Rattle.byte_text.specs.Bytes.{line_ending}
use Rattle.chat_query.specs.declared.facts.Facts.{Facts}
use Rattle.cluster_directory.specs.Directory.{Directory}
use Rattle.client_session.specs.declared.stage.Stage.TheVariants.{Registered, Closed}
use Rattle.cluster_directory.specs.Life.{Life}
use Rattle.peer_lines.specs.Packet.{Packet, Ack}
use Rattle.cluster_directory.specs.declared.fault.LinkFault.{LinkFault}
use Rattle.cluster_directory.specs.declared.fault.LinkFault.TheVariants.{WrongLife}
use Rattle.bnc_server.specs.Node.{Node}
use Rattle.bnc_server.specs.Command.{NodeCommand, select, exchange, lose, hold_back, hand_over, restart, bad_form}
use Rattle.bnc_server.specs.Links.{new_node, packet_for, after_making, ack_for, after_packet, ack_answer, after_ack_of, late_ack, with_late, hearing}

pub record World : Type 0 where
  pub directory : Directory
  pub facts : Facts  -- of each new session
  pub nodes : List Node  -- by their places
  pub selected : ℕ  -- the place of the node that the client talks to

-- what the world is after a line, and what is printed
pub record Outcome : Type 0 where
  pub world : World
  pub text : List ℕ

abbrev pub printing : World → List ℕ → Outcome
printing w text = record { world = w; text = text }

-- ---- nodes

-- where there is no node
abbrev pub no_node : Node
no_node = record {
  life = record { node = []; incarnation = 0 };
  session = Closed;
  taken = [];
  links = [];
  late = [];
}

abbrev pub node_at : World → ℕ → Node
node_at w place = slice_index_or w.nodes place no_node

abbrev pub with_node : World → ℕ → Node → World
with_node w place node = record w { nodes = slice_set w.nodes place node }

-- ---- packets

abbrev pub after_sending : World → ℕ → ℕ → World
after_sending w sender receiver =
    with_node w sender (after_making (node_at w sender) receiver)

abbrev pub packet_of : World → ℕ → ℕ → Option Packet
packet_of w sender receiver = packet_for (node_at w sender) receiver

abbrev pub delivering : World → ℕ → ℕ → Option Packet → World
delivering w sender receiver None = w
delivering w sender receiver (Some packet) =
    with_node w receiver (after_packet (node_at w receiver) sender packet)

abbrev pub ack_from : World → ℕ → ℕ → Option Packet → Option Ack
ack_from w sender receiver None = None
ack_from w sender receiver (Some packet) = ack_for (node_at w receiver) sender packet

-- the sender makes its packet, and the receiver takes it
abbrev pub after_packet_of : World → ℕ → ℕ → World
after_packet_of w sender receiver =
    delivering (after_sending w sender receiver) sender receiver (packet_of w sender receiver)

abbrev pub ack_of : World → ℕ → ℕ → Option Ack
ack_of w sender receiver =
    ack_from (after_sending w sender receiver) sender receiver (packet_of w sender receiver)

-- ---- acknowledgements

abbrev pub refusal_of : LinkFault → List ℕ
refusal_of WrongLife = codes "% WrongLife" ++ line_ending
refusal_of _ = codes "% AckTooHigh" ++ line_ending

abbrev pub ack_text : Result (Unit {0}) LinkFault → List ℕ
ack_text (Ok u) = []
ack_text (Err fault) = refusal_of fault

-- the sender takes the acknowledgement, if there is one
abbrev pub taking_ack : World → ℕ → ℕ → Option Ack → Outcome
taking_ack w sender receiver None = printing w []
taking_ack w sender receiver (Some ack) =
    printing (with_node w sender (after_ack_of (node_at w sender) receiver ack))
    (ack_text (ack_answer (node_at w sender) receiver ack))

-- it is held back
abbrev pub holding_back : World → ℕ → ℕ → Option Ack → World
holding_back w sender receiver None = w
holding_back w sender receiver (Some ack) =
    with_node w sender (with_late (node_at w sender) receiver ack)

-- ---- restarts

abbrev pub next_life : Life → Life
next_life life = record life { incarnation = life.incarnation + 1 }

abbrev pub life_of : Node → Life
life_of node = node.life

-- the present lives, where the node at a place has begun another
abbrev pub lives_with : World → ℕ → Life → List Life
lives_with w place life = slice_set (map life_of w.nodes) place life

-- The node begins another life, with a new session and nothing taken. It and all others hear each other's hello.
abbrev pub after_restart : World → ℕ → Life → World
after_restart w place life = record w {
  nodes = slice_set (map (hearing place life) w.nodes) place
      (new_node (Registered w.facts) life (lives_with w place life) (node_at w place).late);
}

-- ---- the commands

abbrev pub bad_form_text : List ℕ
bad_form_text = codes "% BadForm" ++ line_ending

abbrev pub after_command : World → NodeCommand → Outcome
after_command w (select node) = printing (record w { selected = node }) []
after_command w (exchange sender receiver) =
    taking_ack (after_packet_of w sender receiver) sender receiver (ack_of w sender receiver)
after_command w (lose sender receiver) = printing (after_sending w sender receiver) []
after_command w (hold_back sender receiver) =
    printing (holding_back (after_packet_of w sender receiver) sender receiver
    (ack_of w sender receiver)) []
after_command w (hand_over sender receiver) =
    taking_ack w sender receiver (late_ack (node_at w sender) receiver)
after_command w (restart node) =
    printing (after_restart w node (next_life (life_of (node_at w node)))) []
after_command w bad_form = printing w bad_form_text
