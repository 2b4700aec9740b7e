-- What a script prints: its items in turn, each answered by what the node took before it.
use Rattle.std.specs.Prelude.{ℕ, ◌+◌, false, List, [], ◌∷◌, ◌++◌, codes, map, Option, None, Ok, Err}
use Rattle.byte_text.specs.Bytes.{line_ending}
use Rattle.irc_line.specs.Stream.{Item, items}
use Rattle.irc_caps.specs.CapSet.{all_capabilities}
use Rattle.chat_query.specs.declared.facts.Facts.{Facts}
use Rattle.change_lines.specs.declared.fault.ChangeLineFault.{ChangeLineFault}
use Rattle.change_lines.specs.declared.fault.ChangeLineFault.TheVariants.{BadForm}
use Rattle.cluster_directory.specs.Directory.{Directory}
use Rattle.client_session.specs.declared.stage.Stage.{Stage}
use Rattle.client_session.specs.declared.stage.Stage.TheVariants.{Registered}
use Rattle.chat_change.specs.declared.change.Change.{Change}
use Rattle.cluster_directory.specs.Life.{Life}
use Rattle.peer_lines.specs.Packet.{Ack}
use Rattle.bnc_server.specs.Request.{Request, of_change, of_command, of_client, over_long, request_of}
use Rattle.bnc_server.specs.Links.{new_node}
use Rattle.bnc_server.specs.World.{World, Outcome, printing, node_at, with_node, after_command}
use Rattle.bnc_server.specs.Node.{Node, Reply, after_taking, reply_to_line, reply_to_long_line}

abbrev pub cluster : List ℕ
cluster = codes "bnc.example"

-- the most records or buffers of an answer
abbrev pub maximum : ℕ
maximum = 100

-- ---- the beginning

-- the one account with its one network, which isn't up
abbrev pub directory_of : List ℕ → List ℕ → List ℕ → Directory
directory_of account network nick =
    record {
      name = account;
      secret = [];
      networks = record {
        name = network;
        entry = record { is_up = false; nick = nick; channels = []; takes_redact = false };
      } ∷ [];
    } ∷ []

-- a session holds all capabilities, and its batches are numbered from 1
abbrev pub facts_of : List ℕ → List ℕ → List ℕ → Facts
facts_of account network nick = record {
  account = account;
  network = network;
  nick = nick;
  caps = all_capabilities;
  reference = 1;
  cluster = cluster;
  maximum = maximum;
}

-- a session that is registered
abbrev pub session_of : List ℕ → List ℕ → List ℕ → Stage
session_of account network nick = Registered (facts_of account network nick)

-- nodes 1 to 9 are called `n1` to `n9`
abbrev pub places : List ℕ
places = 0 ∷ 1 ∷ 2 ∷ 3 ∷ 4 ∷ 5 ∷ 6 ∷ 7 ∷ 8 ∷ []

abbrev pub name_of : ℕ → List ℕ
name_of place = 110 ∷ (49 + place) ∷ []

abbrev pub first_life : ℕ → Life
first_life place = record { node = name_of place; incarnation = 1 }

abbrev pub first_lives : List Life
first_lives = map first_life places

abbrev pub none_late : List (Option Ack)
none_late = map (λ (place : ℕ). None) places

-- each has heard of all
abbrev pub first_node : Stage → Life → Node
first_node session life = new_node session life first_lives none_late

abbrev pub start : List ℕ → List ℕ → List ℕ → World
start account network nick = record {
  directory = directory_of account network nick;
  facts = facts_of account network nick;
  nodes = map (first_node (session_of account network nick)) first_lives;
  selected = 0;
}

-- ---- texts

-- of a line that spells no change, by its form or else by a field
abbrev pub refusal_text : ChangeLineFault → List ℕ
refusal_text BadForm = codes "% BadForm" ++ line_ending
refusal_text _ = codes "% BadField" ++ line_ending

-- ---- answers

-- the selected node replies
abbrev pub of_reply : World → Reply → Outcome
of_reply w reply = printing (with_node w w.selected reply.node) reply.text

abbrev pub selected_node : World → Node
selected_node w = node_at w w.selected

abbrev pub after_change : World → Change → World
after_change w change = with_node w w.selected (after_taking (selected_node w) (change ∷ []))

abbrev pub outcome : World → Request → Outcome
outcome w (of_change (Ok change)) = printing (after_change w change) []
outcome w (of_change (Err fault)) = printing w (refusal_text fault)
outcome w (of_command command) = after_command w command
outcome w (of_client bytes) = of_reply w (reply_to_line w.directory (selected_node w) bytes)
outcome w over_long = of_reply w (reply_to_long_line w.directory (selected_node w))

-- ---- scripts

-- what the items print, from a world on
abbrev pub text_of : World → List Item → List ℕ
text_of w [] = []
text_of w (item ∷ items) =
    (outcome w (request_of item)).text ++ text_of (outcome w (request_of item)).world items

-- what the bytes of a script print
abbrev pub script : List ℕ → List ℕ → List ℕ → List ℕ → List ℕ
script input account network nick = text_of (start account network nick) (items input)
