-- The changes that the nodes of a script take are lawful, and their sessions stay such that their facts may stand in lines.
use Rattle.std.proofs.Common.{◌≡◌, ℕ, zero, suc, ◌+◌, ◌≤◌, Bool, true, false, cond, ◌&&◌, ◌||◌, List, [], ◌∷◌, drop, map, length, get_or, set, Option, None, Some, Result, Ok, Err, refl, arith}
use Rattle.std.specs.Prelude.{◌==◌, IfOk, IfSome}
use Rattle.std.specs.List.{AllByRecursion}
use Rattle.std.specs.Str.{bytes_eq}
use Rattle.std.proofs.lemmas.Bool.{and_parts}
use Rattle.std.proofs.lemmas.Bool.Decides.{nat_tests}
use Rattle.byte_text.specs.Bytes.{begins_with}
use Rattle.irc_line.specs.Stream.{Item, line, too_long}
use Rattle.irc_line.specs.declared.line.LineFault.{LineFault}
use Rattle.irc_line.specs.declared.line.TagLimit.TheVariants.{Client}
use Rattle.irc_line.specs.Line.{Reading, Reads}
use Rattle.irc_line.specs.Read.{read}
use Rattle.irc_line.specs.CanStand.{HasNoBadByte}
use Rattle.irc_line.proofs.CallerLemmas.{read_ok, read_parameters_whole}
use Rattle.irc_reply.specs.Standing.{IsWordTo, target_limit}
use Rattle.chat_query.specs.Reference.{greatest_reference, after_reference, after_answer}
use Rattle.chat_query.specs.declared.facts.Answered.{Answered}
use Rattle.chat_query.specs.declared.facts.Answered.TheVariants.{Batch, Plain, NotAQuery}
use Rattle.chat_change.specs.Words.{is_name, is_target}
use Rattle.chat_change.specs.Faults.{unless_lawful, buffer_fault}
use Rattle.chat_change.specs.Lawful.{IsLawfulChange}
use Rattle.chat_change.specs.declared.change.Change.{Change}
use Rattle.chat_change.specs.declared.change.Change.TheVariants.{Post, Redact, Mark, Floor, AccountFloor}
use Rattle.chat_change.specs.declared.faults.ChangeFault.{ChangeFault}
use Rattle.change_lines.specs.ChangeLine.{read_change}
use Rattle.change_lines.specs.declared.fault.ChangeLineFault.{ChangeLineFault}
use Rattle.change_lines.proofs.CallerLemmas.{one_spelling}
use Rattle.chat_history.specs.Numbering.{Delta, delta}
use Rattle.cluster_directory.specs.Life.{Life}
use Rattle.peer_lines.specs.Packet.{Packet, Ack}
use Rattle.cluster_directory.specs.Version.{is_lower}
use Rattle.cluster_directory.specs.declared.version.TheConstants.Version.{OWN}
use Rattle.gossip_link.specs.declared.link.KnownLife.{KnownLife}
use Rattle.gossip_link.specs.Peer.{packet_of, packet_is_mine}
use Rattle.cluster_directory.specs.Directory.{Directory, Account, Network, entry_if, entry_of, entry_of_account, entry_in}
use Rattle.client_session.specs.Session.{session_after}
use Rattle.client_session.specs.declared.stage.Stage.{Stage}
use Rattle.client_session.specs.declared.stage.Stage.TheVariants as stage
use Rattle.client_session.proofs.CallerLemmas.{IsTimedMark, IsSoundStage, NickStands}
use Rattle.bnc_server.specs.Node.{Node, after_taking}
use Rattle.bnc_server.specs.Request.{Request, of_change, of_command, of_client, is_change_line, request_in, request_of}
use Rattle.bnc_server.specs.Command.{command_of}
use Rattle.bnc_server.specs.Links.{link_at, packet_for, after_packet, new_node, hearing}
use Rattle.bnc_server.specs.World.{World, no_node, with_node}
use Rattle.bnc_server.specs.Script.{directory_of}
use Rattle.irc_time.proofs.CallerLemmas.{time_within}
use Rattle.bnc_server.proofs.DeltaLemmas.{delta_lawful}
use Rattle.bnc_server.proofs.PrintedLemmas.{all-append}

pub record IsSoundNode (node : Node) : Type 0 where
  pub taken : AllByRecursion IsLawfulChange node.taken
  pub session : IsSoundStage node.session

-- the nicks of a directory may stand in lines
abbrev pub IsSoundDirectory : Directory → Type 0
IsSoundDirectory directory = (account network : List ℕ) → NickStands (entry_in directory account network)

pub record IsSoundWorld (w : World) : Type 0 where
  pub directory : IsSoundDirectory w.directory
  pub facts : IsSoundStage (stage.Registered w.facts)
  pub nodes : AllByRecursion IsSoundNode w.nodes

-- a change that is asked to be taken is lawful
abbrev pub IsSoundRequest : Request → Type 0
IsSoundRequest (of_change (Ok change)) = IsLawfulChange change
IsSoundRequest _ = Unit {0}

-- ---- names

both_behind : (names target : Bool) (f g : ChangeFault) → unless_lawful names f (unless_lawful target g None) ≡ None → (names ≡ true) × (target ≡ true)
both_behind true true f g e = (refl, refl)
both_behind true false f g e = cc
both_behind false target f g e = cc

pub names_of_buffer : (account network given : List ℕ) → buffer_fault account network given ≡ None → (is_name network ≡ true) × (is_target given ≡ true)
names_of_buffer account network given e =
    let both = both_behind (is_name account && is_name network) (is_target given) _ _ e in
    ((and_parts (is_name account) (is_name network) both.0).1, both.1)

-- ---- directories

one_network : (b : Bool) (found : Network) → IsWordTo target_limit found.entry.nick → NickStands (entry_if (cond b (Some found) None))
one_network true found n = n
one_network false found n = tt

one_account : (b : Bool) (account : Account) (network : List ℕ) → NickStands (entry_of account network) → NickStands (entry_of_account (cond b (Some account) None) network)
one_account true account network n = n
one_account false account network n = tt

pub directory_sound : (account network nick : List ℕ) → IsWordTo target_limit nick → IsSoundDirectory (directory_of account network nick)
directory_sound account network nick n a m = one_account (bytes_eq account a) _ m (one_network (bytes_eq network m) _ n)

-- ---- requests

asked_change : (change : Result Change ChangeLineFault) → ((c : Change) → change ≡ Ok c → IsLawfulChange c) → IsSoundRequest (of_change change)
asked_change (Ok change) h = h change refl
asked_change (Err fault) h = tt

-- the change that a line spells is lawful
change_sound : (bytes : List ℕ) → IsSoundRequest (of_change (read_change bytes))
change_sound bytes = asked_change (read_change bytes) (λ c e. (one_spelling bytes c e).1)

either_asked : (b : Bool) (one two : Request) → IsSoundRequest one → IsSoundRequest two → IsSoundRequest (cond b one two)
either_asked true one two p q = p
either_asked false one two p q = q

line_sound : (bytes : List ℕ) → IsSoundRequest (request_in bytes)
unfolding request_in
line_sound bytes =
    either_asked (is_change_line bytes) _ _ (change_sound bytes)
    (either_asked (begins_with 37 bytes) (of_command (command_of (drop 1 bytes))) (of_client bytes) tt tt)

pub request_sound : (item : Item) → IsSoundRequest (request_of item)
request_sound (line bytes) = line_sound bytes
request_sound too_long = tt

-- ---- questions

good_reading : (bytes : List ℕ) (r : Result Reading LineFault) → IfOk r (Reads Client bytes) → IfOk r (λ reading. AllByRecursion HasNoBadByte reading.parameters)
good_reading bytes (Ok reading) reads = read_parameters_whole Client bytes reading reads
good_reading bytes (Err fault) reads = tt

pub question_sound : (bytes : List ℕ) → IfOk (read Client bytes) (λ reading. AllByRecursion HasNoBadByte reading.parameters)
question_sound bytes = good_reading bytes (read Client bytes) (read_ok Client bytes)

-- ---- markers

pub mark_sound : (change : Change) → IsTimedMark change → IsLawfulChange change
mark_sound (Post r) is = absurd is
mark_sound (Redact b m t) is = absurd is
mark_sound (Mark b t) is = (is.0, time_within is.1.0 t is.1.1)
mark_sound (Floor b t) is = absurd is
mark_sound (AccountFloor a t) is = absurd is

-- ---- nodes

pub node_sound : (nodes : List Node) → AllByRecursion IsSoundNode nodes → (place : ℕ) → IsSoundNode (get_or nodes place no_node)
node_sound [] all place = record { taken = tt; session = tt }
node_sound (n ∷ ns) all zero = all.0
node_sound (n ∷ ns) all (suc place) = node_sound ns all.1 place

pub set_sound : (nodes : List Node) → AllByRecursion IsSoundNode nodes → (place : ℕ) (node : Node) → IsSoundNode node → AllByRecursion IsSoundNode (set nodes place node)
set_sound [] all place node is = tt
set_sound (n ∷ ns) all zero node is = (is, all.1)
set_sound (n ∷ ns) all (suc place) node is = (all.0, set_sound ns all.1 place node is)

pub heard_sound : (place : ℕ) (life : Life) (nodes : List Node) → AllByRecursion IsSoundNode nodes → AllByRecursion IsSoundNode (map (hearing place life) nodes)
heard_sound place life [] all = tt
heard_sound place life (n ∷ ns) all = (record { taken = all.0.taken; session = all.0.session }, heard_sound place life ns all.1)

pub new_sound : (session : Stage) (nodes : List Life) (late : List (Option Ack)) → IsSoundStage session → (lives : List Life) → AllByRecursion IsSoundNode (map (λ life. new_node session life nodes late) lives)
new_sound session nodes late sound [] = tt
new_sound session nodes late sound (life ∷ lives) = (record { taken = tt; session = sound }, new_sound session nodes late sound lives)

pub took_sound : (node : Node) (changes : List Change) → IsSoundNode node → AllByRecursion IsLawfulChange changes → IsSoundNode (after_taking node changes)
took_sound node changes sound all = record { taken = all-append IsLawfulChange node.taken changes sound.taken all; session = sound.session }

-- the world once the node at a place is another
pub with_sound : (w : World) → IsSoundWorld w → (place : ℕ) (node : Node) → IsSoundNode node → IsSoundWorld (with_node w place node)
with_sound w sound place node is = record { directory = sound.directory; facts = sound.facts; nodes = set_sound w.nodes sound.nodes place node is }

-- ---- packets

-- a packet carries lawful changes
abbrev pub IsSoundPacket : Packet → Type 0
IsSoundPacket packet = AllByRecursion IsLawfulChange packet.changes

packet_lawful : (me : Life) (name : List ℕ) (heard : Option KnownLife) (d : Delta) → AllByRecursion IsLawfulChange d.changes → IfSome (packet_of OWN me name heard d) IsSoundPacket
packet_lawful me name None d all = tt
packet_lawful me name (Some known) d all = go (is_lower known.version OWN || (length d.changes == 0)) where
  go : (b : Bool) → IfSome (cond b None (Some (record { sender = me; receiver = record { node = name; incarnation = known.incarnation }; from = d.from; to = d.to; changes = d.changes }))) IsSoundPacket
  go true = tt
  go false = all

pub packet_sound : (node : Node) (place : ℕ) → IsSoundNode node → IfSome (packet_for node place) IsSoundPacket
packet_sound node place sound =
    let link = link_at node place in
    packet_lawful link.me link.name link.peer.heard (delta 0 node.taken link.peer.acked) (delta_lawful node.taken sound.taken 0 link.peer.acked)

pub received_sound : (node : Node) (place : ℕ) (packet : Packet) → IsSoundNode node → IsSoundPacket packet → IsSoundNode (after_packet node place packet)
received_sound node place packet sound all = go (packet_is_mine (link_at node place).me (link_at node place).name packet) where
  go : (b : Bool) → IsSoundNode (cond b (after_taking node packet.changes) node)
  go true = took_sound node packet.changes sound all
  go false = sound

-- ---- references

next_within : (n : ℕ) → n ≤ greatest_reference → after_reference n ≤ greatest_reference
next_within n h = go (n == greatest_reference) refl where
  go : (b : Bool) → (n == greatest_reference) ≡ b → cond b 1 (n + 1) ≤ greatest_reference
  go true e = omega arith
  go false e = grind (arith, nat_tests)

answer_within : (answered : Answered) (n : ℕ) → n ≤ greatest_reference → after_answer answered n ≤ greatest_reference
answer_within Batch n h = next_within n h
answer_within Plain n h = h
answer_within NotAQuery n h = h

pub answered_sound : (session : Stage) (answered : Answered) → IsSoundStage session → IsSoundStage (session_after session answered)
answered_sound (stage.Waiting w) answered sound = absurd sound
answered_sound (stage.Registered f) answered sound = record {
  session = record { cluster = sound.session.cluster; nick = sound.session.nick; reference = answer_within answered f.reference sound.session.reference };
  cluster = sound.cluster;
  network = sound.network;
}
answered_sound stage.Closed answered sound = tt
