-- All that a script prints is lines that read back.
use Rattle.std.proofs.Common.{◌≡◌, ℕ, List, [], ◌∷◌, ◌++◌, map, codes, Option, None, Some, Result, Ok, Err, refl, lit<, lit≤}
use Rattle.std.specs.Prelude.{IfOk, IfSome}
use Rattle.std.specs.List.{AllByRecursion}
use Rattle.byte_text.specs.Bytes.{line_ending}
use Rattle.irc_line.specs.declared.line.LineFault.{LineFault}
use Rattle.irc_line.specs.declared.line.TagLimit.{TagLimit}
use Rattle.irc_line.specs.declared.line.TagLimit.TheVariants.{Client, Server}
use Rattle.irc_line.specs.CanStand.{HasNoBadByte}
use Rattle.irc_line.specs.Line.{Reading}
use Rattle.irc_line.specs.Read.{read}
use Rattle.irc_line.specs.Stream.{Item, items}
use Rattle.irc_line.proofs.CallerLemmas.{middle_from, no_space_from}
use Rattle.irc_reply.specs.Standing.{IsCluster}
use Rattle.chat_change.specs.Faults.{buffer_fault}
use Rattle.chat_query.specs.Answers.{answer_of}
use Rattle.chat_query.proofs.CallerLemmas.{target_word, answer_lines}
use Rattle.change_lines.specs.declared.fault.ChangeLineFault.TheVariants.{BadForm, BadField, NoMemory}
use Rattle.cluster_directory.specs.Life.{Life}
use Rattle.peer_lines.specs.Packet.{Packet, Ack}
use Rattle.cluster_directory.specs.declared.fault.LinkFault.{LinkFault}
use Rattle.cluster_directory.specs.declared.fault.LinkFault.TheVariants.{WrongLife, AckTooHigh, NoEntry, NotTaken, NoMemory as NoRoom, BadForm as NoPeerLine}
use Rattle.client_session.specs.Session.{facts_in, too_long}
use Rattle.client_session.specs.Step.{Step}
use Rattle.client_session.specs.declared.effect.Effect.{Effect}
use Rattle.client_session.specs.declared.effect.Effect.TheVariants.{Send, Put, Ask, Upstream, Close}
use Rattle.client_session.specs.declared.stage.Stage.{Stage}
use Rattle.client_session.specs.declared.stage.Stage.TheVariants as stage
use Rattle.client_session.proofs.CallerLemmas.{EffectStands, EffectsStand, IsSoundStage, StepStands, step_stands, too_long_stands}
use Rattle.bnc_server.specs.Node.{Node, Reply, after_taking, with_session, answer_to, reply_to_effect, reply_to_effects, reply_to_step, is_shown, step_of}
use Rattle.client_session.specs.Lookup.{name_sought}
use Rattle.bnc_server.specs.Request.{Request, of_change, of_command, of_client, over_long, request_of}
use Rattle.bnc_server.specs.Command.{NodeCommand, select, exchange, lose, hold_back, hand_over, restart, bad_form}
use Rattle.bnc_server.specs.Links.{after_making, after_packet, after_ack_of, ack_answer, late_ack, with_late, new_node, hearing}
use Rattle.bnc_server.specs.World.{World, node_at, after_sending, packet_of, delivering, after_packet_of, ack_of, refusal_of, ack_text, taking_ack, holding_back, after_restart, next_life, life_of, lives_with, after_command}
use Rattle.bnc_server.specs.Script.{start, cluster, session_of, first_lives, none_late, selected_node, outcome, text_of, script}
use Rattle.bnc_server.specs.Printed.{IsPrinted}
use Rattle.bnc_server.proofs.PrintedLemmas.{printed-append, no_print, note_printed, lines_printed}
use Rattle.bnc_server.proofs.SoundLemmas.{IsSoundNode, IsSoundWorld, IsSoundRequest, IsSoundPacket, names_of_buffer, directory_sound, request_sound, question_sound, mark_sound, node_sound, set_sound, heard_sound, new_sound, took_sound, with_sound, packet_sound, received_sound, answered_sound}

cluster_is : IsCluster cluster
cluster_is = ((lit< tt, no_space_from cluster refl, refl), lit≤ tt)

-- what is printed is within the limits of a server's line
abbrev limit : TagLimit
limit = Server

-- a reply is printed as lines, and leaves a node whose fields may stand in lines
record IsRight (reply : Reply) : Type 0 where
  text : IsPrinted limit reply.text
  node : IsSoundNode reply.node

-- ---- effects

question_right : (node : Node) (session : Stage) → IsSoundNode node → IsSoundStage session → (r : Result Reading LineFault) → IfOk r (λ line. AllByRecursion HasNoBadByte line.parameters)
    → IsRight (answer_to node (facts_in session) r)
question_right node (stage.Waiting w) sound is r good = absurd is
question_right node stage.Closed sound is r good = record { text = no_print limit; node = sound }
question_right node (stage.Registered f) sound is (Err fault) good = record { text = no_print limit; node = sound }
question_right node (stage.Registered f) sound is (Ok line) good = record {
  text = lines_printed limit _ (answer_lines node.taken f sound.taken is.session line good);
  node = record { taken = sound.taken; session = answered_sound node.session (answer_of node.taken f line).answered sound.session };
}

effect_right : (node : Node) (effect : Effect) → IsSoundNode node → EffectStands limit effect → IsRight (reply_to_effect node effect)
effect_right node (Send bytes) sound stands = record { text = lines_printed limit bytes stands; node = sound }
effect_right node (Put change) sound stands = record {
  text = no_print limit;
  node = took_sound node (change ∷ []) sound (mark_sound change stands, tt);
}
effect_right node (Ask line) sound stands = question_right node node.session sound sound.session (read Client line) (question_sound line)
effect_right node (Upstream bytes) sound stands = record { text = no_print limit; node = sound }
effect_right node Close sound stands = record { text = no_print limit; node = sound }

effects_right : (effects : List Effect) (node : Node) → IsSoundNode node → EffectsStand limit effects → IsRight (reply_to_effects node effects)
effects_right [] node sound stand = record { text = no_print limit; node = sound }
effects_right (effect ∷ effects) node sound stand =
    let one = effect_right node effect sound stand.0 in
    let more = effects_right effects (reply_to_effect node effect).node one.node stand.1 in
    record { text = printed-append limit (reply_to_effect node effect).text _ one.text more.text; node = more.node }

step_right : (node : Node) (s : Step) → IsSoundNode node → StepStands limit s → IsRight (reply_to_step node s)
step_right node s sound stands = effects_right s.effects (with_session node s.session) (record { taken = sound.taken; session = stands.session }) stands.effects

-- ---- lines

bad_form_printed : IsPrinted limit (codes "% BadForm" ++ line_ending)
bad_form_printed = note_printed limit (codes " BadForm") refl (lit≤ tt)

bad_field : IsPrinted limit (codes "% BadField" ++ line_ending)
bad_field = note_printed limit (codes " BadField") refl (lit≤ tt)

too_high : IsPrinted limit (codes "% AckTooHigh" ++ line_ending)
too_high = note_printed limit (codes " AckTooHigh") refl (lit≤ tt)

refusal_printed : (fault : LinkFault) → IsPrinted limit (refusal_of fault)
refusal_printed WrongLife = note_printed limit (codes " WrongLife") refl (lit≤ tt)
refusal_printed AckTooHigh = too_high
refusal_printed NoEntry = too_high
refusal_printed NotTaken = too_high
refusal_printed NoRoom = too_high
refusal_printed NoPeerLine = too_high

ack_printed : (answer : Result (Unit {0}) LinkFault) → IsPrinted limit (ack_text answer)
ack_printed (Ok u) = no_print limit
ack_printed (Err fault) = refusal_printed fault

-- ---- nodes

selected_sound : (w : World) → IsSoundWorld w → IsSoundNode (selected_node w)
selected_sound w sound = node_sound w.nodes sound.nodes w.selected

line_right : (w : World) → IsSoundWorld w → (bytes : List ℕ) → IsRight (reply_to_step (selected_node w) (step_of w.directory (selected_node w) bytes))
line_right w sound bytes =
    let node = selected_node w in
    let right = selected_sound w sound in
    step_right node (step_of w.directory node bytes) right
    (step_stands limit w.directory sound.directory (is_shown node.taken (name_sought node.session bytes)) node.session bytes right.session)

long_right : (w : World) → IsSoundWorld w → IsRight (reply_to_step (selected_node w) (too_long w.directory (selected_node w).session))
long_right w sound =
    let node = selected_node w in
    let right = selected_sound w sound in
    step_right node (too_long w.directory node.session) right (too_long_stands limit w.directory sound.directory node.session right.session)

sent_sound : (w : World) → IsSoundWorld w → (sender receiver : ℕ) → IsSoundWorld (after_sending w sender receiver)
sent_sound w sound sender receiver =
    let node = node_sound w.nodes sound.nodes sender in
    with_sound w sound sender (after_making (node_at w sender) receiver) (record { taken = node.taken; session = node.session })

delivered_sound : (w : World) → IsSoundWorld w → (sender receiver : ℕ) (packet : Option Packet) → IfSome packet IsSoundPacket → IsSoundWorld (delivering w sender receiver packet)
delivered_sound w sound sender receiver None all = sound
delivered_sound w sound sender receiver (Some packet) all =
    with_sound w sound receiver (after_packet (node_at w receiver) sender packet) (received_sound (node_at w receiver) sender packet (node_sound w.nodes sound.nodes receiver) all)

exchanged_sound : (w : World) → IsSoundWorld w → (sender receiver : ℕ) → IsSoundWorld (after_packet_of w sender receiver)
exchanged_sound w sound sender receiver =
    delivered_sound (after_sending w sender receiver) (sent_sound w sound sender receiver) sender receiver (packet_of w sender receiver)
    (packet_sound (node_at w sender) receiver (node_sound w.nodes sound.nodes sender))

acked_sound : (w : World) → IsSoundWorld w → (sender receiver : ℕ) (ack : Option Ack) → IsSoundWorld (taking_ack w sender receiver ack).world
acked_sound w sound sender receiver None = sound
acked_sound w sound sender receiver (Some ack) =
    let node = node_sound w.nodes sound.nodes sender in
    with_sound w sound sender (after_ack_of (node_at w sender) receiver ack) (record { taken = node.taken; session = node.session })

acked_printed : (w : World) (sender receiver : ℕ) (ack : Option Ack) → IsPrinted limit (taking_ack w sender receiver ack).text
acked_printed w sender receiver None = no_print limit
acked_printed w sender receiver (Some ack) = ack_printed (ack_answer (node_at w sender) receiver ack)

held_back_sound : (w : World) → IsSoundWorld w → (sender receiver : ℕ) (ack : Option Ack) → IsSoundWorld (holding_back w sender receiver ack)
held_back_sound w sound sender receiver None = sound
held_back_sound w sound sender receiver (Some ack) =
    let node = node_sound w.nodes sound.nodes sender in
    with_sound w sound sender (with_late (node_at w sender) receiver ack) (record { taken = node.taken; session = node.session })

restarted_sound : (w : World) → IsSoundWorld w → (place : ℕ) (life : Life) → IsSoundWorld (after_restart w place life)
restarted_sound w sound place life = record {
  directory = sound.directory;
  facts = sound.facts;
  nodes = set_sound (map (hearing place life) w.nodes) (heard_sound place life w.nodes sound.nodes) place
      (new_node (stage.Registered w.facts) life (lives_with w place life) (node_at w place).late) (record { taken = tt; session = sound.facts });
}

command_printed : (w : World) (command : NodeCommand) → IsPrinted limit (after_command w command).text
command_printed w (select node) = no_print limit
command_printed w (exchange sender receiver) = acked_printed (after_packet_of w sender receiver) sender receiver (ack_of w sender receiver)
command_printed w (lose sender receiver) = no_print limit
command_printed w (hold_back sender receiver) = no_print limit
command_printed w (hand_over sender receiver) = acked_printed w sender receiver (late_ack (node_at w sender) receiver)
command_printed w (restart node) = no_print limit
command_printed w bad_form = bad_form_printed

command_sound : (w : World) → IsSoundWorld w → (command : NodeCommand) → IsSoundWorld (after_command w command).world
command_sound w sound (select node) = record { directory = sound.directory; facts = sound.facts; nodes = sound.nodes }
command_sound w sound (exchange sender receiver) = acked_sound (after_packet_of w sender receiver) (exchanged_sound w sound sender receiver) sender receiver (ack_of w sender receiver)
command_sound w sound (lose sender receiver) = sent_sound w sound sender receiver
command_sound w sound (hold_back sender receiver) = held_back_sound (after_packet_of w sender receiver) (exchanged_sound w sound sender receiver) sender receiver (ack_of w sender receiver)
command_sound w sound (hand_over sender receiver) = acked_sound w sound sender receiver (late_ack (node_at w sender) receiver)
command_sound w sound (restart node) = restarted_sound w sound node (next_life (life_of (node_at w node)))
command_sound w sound bad_form = sound

answered : (w : World) (a : Request) → IsSoundWorld w → IsSoundRequest a → IsPrinted limit (outcome w a).text
answered w (of_change (Ok change)) sound is = no_print limit
answered w (of_change (Err BadForm)) sound is = bad_form_printed
answered w (of_change (Err BadField)) sound is = bad_field
answered w (of_change (Err NoMemory)) sound is = bad_field
answered w (of_command command) sound is = command_printed w command
answered w (of_client bytes) sound is = (line_right w sound bytes).text
answered w over_long sound is = (long_right w sound).text

stays_sound : (w : World) (a : Request) → IsSoundWorld w → IsSoundRequest a → IsSoundWorld (outcome w a).world
stays_sound w (of_change (Ok change)) sound is =
    with_sound w sound w.selected (after_taking (selected_node w) (change ∷ [])) (took_sound (selected_node w) (change ∷ []) (selected_sound w sound) (is, tt))
stays_sound w (of_change (Err fault)) sound is = sound
stays_sound w (of_command command) sound is = command_sound w sound command
stays_sound w (of_client bytes) sound is = with_sound w sound w.selected _ (line_right w sound bytes).node
stays_sound w over_long sound is = with_sound w sound w.selected _ (long_right w sound).node

-- ---- the whole

all_printed : (items : List Item) (w : World) → IsSoundWorld w → IsPrinted limit (text_of w items)
all_printed [] w sound = no_print limit
all_printed (item ∷ items) w sound =
    printed-append limit (outcome w (request_of item)).text _ (answered w (request_of item) sound (request_sound item))
    (all_printed items (outcome w (request_of item)).world (stays_sound w (request_of item) sound (request_sound item)))

start_sound : (account network nick : List ℕ) → buffer_fault account network nick ≡ None → IsSoundWorld (start account network nick)
start_sound account network nick e =
    let names = names_of_buffer account network nick e in
    let word = target_word nick names.1 in
    let session : IsSoundStage (session_of account network nick) = record {
      session = record { cluster = cluster_is; nick = word; reference = lit≤ tt };
      cluster = middle_from cluster refl;
      network = names.0;
    } in record {
      directory = directory_sound account network nick word;
      facts = session;
      nodes = new_sound (session_of account network nick) first_lives none_late session first_lives;
    }

pub script_printed : (input account network nick : List ℕ) → buffer_fault account network nick ≡ None → IsPrinted limit (script input account network nick)
script_printed input account network nick e = all_printed (items input) (start account network nick) (start_sound account network nick e)
