-- Which fault a request of a script may end with.
use Rattle.std.specs.Prelude.{ℕ, ◌-◌, ◌^◌, ◌≡◌, ◌≢◌, ◌⊎◌, ⊤, List, [], ◌∷◌, ◌++◌, take, Some, Ok, Err}
use Rattle.chat_change.specs.declared.change.Change.{Change}
use Rattle.chat_history.specs.Numbering.{front}
use Rattle.chat_history.specs.StateValue.{state_after, IsPastTheLast, greatest_number}
use Rattle.peer_lines.specs.Packet.{Packet}
use Rattle.client_session.specs.Session.{too_long}
use Rattle.client_session.specs.Step.{Step}
use Rattle.client_session.specs.declared.effect.Effect.{Effect}
use Rattle.client_session.specs.declared.effect.Effect.TheVariants.{Send, Put, Ask, Upstream, Close}
use Rattle.bnc_server.specs.declared.fault.ReplayFault.{ReplayFault}
use Rattle.bnc_server.specs.declared.fault.ReplayFault.TheVariants.{NoMemory, Read, Write}
use Rattle.bnc_server.specs.Request.{Request, of_change, of_command, of_client, over_long}
use Rattle.bnc_server.specs.Command.{NodeCommand, select, exchange, lose, hold_back, hand_over, restart, bad_form}
use Rattle.bnc_server.specs.Node.{Node, with_session, reply_to_effect, step_of}
use Rattle.bnc_server.specs.World.{World, node_at, life_of, packet_of, after_sending, after_command}
use Rattle.bnc_server.specs.Script.{selected_node}

-- a count is at its last value, which is answered as Read, or else there was no memory
abbrev pub MayLack : (count last : ℕ) → ReplayFault → Type 0
MayLack count last NoMemory = count ≢ last
MayLack count last Read = count ≡ last
MayLack count last Write = ⊥

-- ---- changes

-- a change that is taken writes nothing, and is refused as Read exactly where no number is left
abbrev pub MayRefuse : Node → Change → ReplayFault → Type 0
MayRefuse node change NoMemory = ⊤
MayRefuse node change Read = IsPastTheLast (state_after 0 node.taken) change
MayRefuse node change Write = ⊥

-- So many of the changes of a packet were taken, and no more: then no number was left, or there was no memory.
abbrev pub MayCutShort : Node → List Change → ReplayFault → Type 0
MayCutShort node changes fault =
    (count : ℕ) × MayLack (front 0 (node.taken ++ take count changes)) greatest_number fault

-- ---- lines of a client

-- what takes no memory and no change can only fail to write
abbrev pub MayStop : Node → Effect → ReplayFault → Type 0
MayStop node (Send bytes) fault = fault ≡ Write
MayStop node (Put change) fault = MayRefuse node change fault
MayStop node (Ask line) fault = fault ≢ Read
MayStop node (Upstream bytes) fault = ⊥
MayStop node Close fault = ⊥

-- the fault is of one of the effects, by what the node is then
abbrev pub MayStopIn : Node → List Effect → ReplayFault → Type 0
MayStopIn node [] fault = ⊥
MayStopIn node (effect ∷ effects) fault =
    MayStop node effect fault ⊎ MayStopIn (reply_to_effect node effect).node effects fault

-- there was no memory for the step, or the fault is of its effects
abbrev pub MayEndStep : Node → Step → ReplayFault → Type 0
MayEndStep node s fault =
    (fault ≡ NoMemory) ⊎ MayStopIn (with_session node s.session) s.effects fault

-- ---- commands

-- there was no memory for the packet, or its receiver takes only a part of it
abbrev pub MayStopSending : World → (sender receiver : ℕ) → ReplayFault → Type 0
MayStopSending w sender receiver fault =
    (fault ≡ NoMemory)
    ⊎ ((packet : Packet) × (packet_of w sender receiver ≡ Some packet)
    × MayCutShort (node_at (after_sending w sender receiver) receiver) packet.changes fault)

-- only what prints something can fail to write
abbrev pub MayFailToPrint : World → NodeCommand → ReplayFault → Type 0
MayFailToPrint w command fault = (fault ≡ Write) × ((after_command w command).text ≢ [])

abbrev pub greatest_incarnation : ℕ
greatest_incarnation = 2 ^ 64 - 1

abbrev pub MayEndCommand : World → NodeCommand → ReplayFault → Type 0
MayEndCommand w (select node) fault = ⊥
MayEndCommand w (exchange sender receiver) fault =
    MayStopSending w sender receiver fault
    ⊎ MayFailToPrint w (exchange sender receiver) fault
MayEndCommand w (lose sender receiver) fault = fault ≡ NoMemory
MayEndCommand w (hold_back sender receiver) fault = MayStopSending w sender receiver fault
MayEndCommand w (hand_over sender receiver) fault =
    MayFailToPrint w (hand_over sender receiver) fault
MayEndCommand w (restart node) fault =
    MayLack (life_of (node_at w node)).incarnation greatest_incarnation fault
MayEndCommand w bad_form fault = MayFailToPrint w bad_form fault

-- ---- requests

-- the fault may come of a world that is asked
abbrev pub MayEnd : World → Request → ReplayFault → Type 0
MayEnd w (of_change (Ok change)) fault = MayRefuse (selected_node w) change fault
MayEnd w (of_change (Err refusal)) fault = fault ≡ Write
MayEnd w (of_command command) fault = MayEndCommand w command fault
MayEnd w (of_client bytes) fault =
    MayEndStep (selected_node w) (step_of w.directory (selected_node w) bytes) fault
MayEnd w over_long fault =
    MayEndStep (selected_node w) (too_long w.directory (selected_node w).session) fault
