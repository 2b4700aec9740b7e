-- The code's node and world: those of a script, with what is held in place of the changes that were taken.
use Rattle.std.specs.Prelude.{◌≡◌, ◌<◌, ⊤, ℕ, List, map, Option, None, Some, Result, Ok, Err, OnOk, IfErr}
use Rattle.byte_text.specs.Writes.{WritesKnown}
use Rattle.chat_change.specs.declared.change.Change.{Change}
use Rattle.chat_history.specs.StateValue.{StateValue, state_after}
use Rattle.chat_state.specs.declared.faults.StateFault.{StateFault}
use Rattle.chat_state.specs.declared.faults.StateFault.TheVariants as state_fault
use Rattle.change_lines.specs.declared.fault.ChangeLineFault.{ChangeLineFault}
use Rattle.change_lines.specs.declared.fault.ChangeLineFault.TheVariants as line_fault
use Rattle.cluster_directory.specs.Directory.{Directory}
use Rattle.client_session.specs.declared.stage.Stage.{Stage}
use Rattle.chat_query.specs.declared.facts.Facts.{Facts}
use Rattle.cluster_directory.specs.Life.{Life}
use Rattle.peer_lines.specs.Packet.{Ack}
use Rattle.gossip_link.specs.Link.{Link}
use Rattle.bnc_server.specs.Node.{Node}
use Rattle.bnc_server.specs.Links.{after_ack_of, late_ack}
use Rattle.bnc_server.specs.World.{World}
use Rattle.bnc_server.specs.Schedule.{node_count, ArePlaces}
use Rattle.bnc_server.specs.Command.{NodeCommand, select, exchange, lose, hold_back, hand_over, restart, bad_form}
use Rattle.bnc_server.specs.declared.fault.ReplayFault.{ReplayFault}
use Rattle.bnc_server.specs.declared.fault.ReplayFault.TheVariants.{NoMemory, Read}
use Rattle.bnc_server.specs.declared.command.NodeCommand as code
use Rattle.bnc_server.specs.declared.command.NodeCommand.TheVariants as variant

pub record HeldNode : Type 0 where
  pub life : Life
  pub session : Stage
  pub state : StateValue
  pub links : List Link
  pub late : List (Option Ack)

-- what a node holds
abbrev pub held_node : Node → HeldNode
held_node node = record {
  life = node.life;
  session = node.session;
  state = state_after 0 node.taken;
  links = node.links;
  late = node.late;
}

-- a node takes what is held back of the node at a place, if there is anything
abbrev pub after_ack_if : Node → ℕ → Option Ack → Node
after_ack_if node place None = node
after_ack_if node place (Some ack) = after_ack_of node place ack

abbrev pub after_late : Node → ℕ → Node
after_late node place = after_ack_if node place (late_ack node place)

pub record HeldWorld : Type 0 where
  pub directory : Directory
  pub facts : Facts
  pub nodes : List HeldNode
  pub selected : ℕ

abbrev pub held_world : World → HeldWorld
held_world w = record {
  directory = w.directory;
  facts = w.facts;
  nodes = map held_node w.nodes;
  selected = w.selected;
}

-- ---- what a call does to each node, or each world, that holds this

-- a call writes a text of it
abbrev pub WritesTextOf : {W T E S H : Type 0} → (W → Option (List ℕ)) → W → W → Result T E
    → (S → H) → H → (S → List ℕ) → Type 0
WritesTextOf {W} {T} {E} {S} {H} contents old new result hold held text =
    (s : S) → held ≡ hold s → WritesKnown (contents old) (contents new) result (text s)

-- at `Ok` it has become another
abbrev pub Becomes : {T E S H : Type 0} → Result T E → (S → H) → H → (S → S) → H → Type 0
Becomes {T} {E} {S} {H} result hold old after new =
    OnOk result ((s : S) → old ≡ hold s → new ≡ hold (after s))

-- the fault is one of it
abbrev pub EndsBy : {T E S H : Type 0} → Result T E → (S → H) → H → (S → E → Type 0) → Type 0
EndsBy {T} {E} {S} {H} result hold held MayEnd =
    IfErr result (λ fault. (s : S) → held ≡ hold s → MayEnd s fault)

-- ---- faults of the crates below

-- the fault is the line's own, or there was no memory for the change that it spells
abbrev pub IsFaultOf : Result Change ChangeLineFault → ChangeLineFault → Type 0
IsFaultOf read line_fault.NoMemory = (change : Change) × (read ≡ Ok change)
IsFaultOf read fault = read ≡ Err fault

-- of a change that isn't taken
abbrev pub of_state : StateFault → ReplayFault
of_state state_fault.Exhausted = Read
of_state state_fault.NoMemory = NoMemory

-- ---- commands

abbrev pub value_of : code.NodeCommand → NodeCommand
value_of (variant.Select node) = select node
value_of (variant.Exchange sender receiver) = exchange sender receiver
value_of (variant.Lose sender receiver) = lose sender receiver
value_of (variant.HoldBack sender receiver) = hold_back sender receiver
value_of (variant.HandOver sender receiver) = hand_over sender receiver
value_of (variant.Restart node) = restart node
value_of variant.BadForm = bad_form

-- the nodes of a command are there, and two of them differ
abbrev pub HasNodes : code.NodeCommand → Type 0
HasNodes (variant.Select node) = node < node_count
HasNodes (variant.Exchange sender receiver) = ArePlaces sender receiver
HasNodes (variant.Lose sender receiver) = ArePlaces sender receiver
HasNodes (variant.HoldBack sender receiver) = ArePlaces sender receiver
HasNodes (variant.HandOver sender receiver) = ArePlaces sender receiver
HasNodes (variant.Restart node) = node < node_count
HasNodes variant.BadForm = ⊤
