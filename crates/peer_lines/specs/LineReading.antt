-- What reading a line answers.
use Rattle.std.specs.Prelude.{ℕ, ◌≡◌, IsTrue, is_some, List, codes, Option, None, Some, Result, Ok, Err, if◌then◌else◌}
use Rattle.std.specs.Option.{option_map}
use Rattle.chat_change.specs.declared.change.Change as change
use Rattle.change_lines.specs.Words.{word, behind}
use Rattle.change_lines.specs.ChangeLine.{read_change}
use Rattle.change_lines.specs.declared.fault.ChangeLineFault.{ChangeLineFault}
use Rattle.peer_lines.specs.Packet as parts
use Rattle.cluster_directory.specs.Names.{same_name}
use Rattle.peer_lines.specs.Reading.{word_at, hello_at, head_at, ack_at}
use Rattle.peer_lines.specs.Spelling.{Spells}
use Rattle.cluster_directory.specs.declared.fault.LinkFault.{LinkFault}
use Rattle.cluster_directory.specs.declared.fault.LinkFault.TheVariants.{BadForm, WrongLife, AckTooHigh, NoMemory, NotTaken, NoEntry}
use Rattle.peer_lines.specs.declared.peer_line.PeerLine.{PeerLine}
use Rattle.peer_lines.specs.declared.peer_line.PeerLine.TheVariants.{Word, Hello, Head, Change, Ack}

-- the line that the bytes spell; that they spell none; or that there was no memory for the line that they spell
abbrev pub IsReading : List ℕ → Result PeerLine LinkFault → Type 0
IsReading bytes (Ok line) = Spells bytes line
IsReading bytes (Err BadForm) = (line : PeerLine) → Spells bytes line → ⊥
IsReading bytes (Err WrongLife) = ⊥
IsReading bytes (Err AckTooHigh) = ⊥
IsReading bytes (Err NoMemory) = (line : PeerLine) × Spells bytes line
IsReading bytes (Err NotTaken) = ⊥
IsReading bytes (Err NoEntry) = ⊥

-- ---- the same by the function that reads

-- the answer for a line that was read, or for none
abbrev pub IsAnswer : Option PeerLine → Result PeerLine LinkFault → Type 0
IsAnswer read (Ok line) = read ≡ Some line
IsAnswer read (Err BadForm) = read ≡ None
IsAnswer read (Err WrongLife) = ⊥
IsAnswer read (Err AckTooHigh) = ⊥
IsAnswer read (Err NoMemory) = IsTrue (is_some read)
IsAnswer read (Err NotTaken) = ⊥
IsAnswer read (Err NoEntry) = ⊥

abbrev pub change_or_none : Result change.Change ChangeLineFault → Option PeerLine
change_or_none (Ok c) = Some (Change c)
change_or_none (Err fault) = None

abbrev pub change_at : List ℕ → Option PeerLine
change_at bytes = change_or_none (read_change bytes)

abbrev pub hello_line : parts.Hello → PeerLine
hello_line h = Hello h.life h.version

-- the line of a first word, of all bytes and of those behind that word
abbrev pub line_of_kind : List ℕ → List ℕ → List ℕ → Option PeerLine
line_of_kind kind bytes rest =
    if same_name kind (codes "W") then option_map Word (word_at rest)
    else if same_name kind (codes "H") then option_map hello_line (hello_at rest)
    else if same_name kind (codes "D") then option_map Head (head_at rest)
    else if same_name kind (codes "A") then option_map Ack (ack_at rest)
    else change_at bytes

abbrev pub line_of : List ℕ → Option PeerLine
line_of bytes = line_of_kind (word bytes) bytes (behind bytes)
