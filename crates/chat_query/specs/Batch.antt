-- The lines of a page (IRCv3 batch, and "Batch Types" of IRCv3 draft/chathistory).
use Rattle.std.specs.Prelude.{ℕ, List, [], ◌∷◌, ◌++◌, codes, None, if◌then◌else◌}
use Rattle.std.specs.List.{flat_map}
use Rattle.byte_text.specs.Bytes.{line_ending}
use Rattle.irc_caps.specs.declared.CapSet.{CapSet}
use Rattle.irc_time.specs.Text.{time_text}
use Rattle.chat_change.specs.Record.{Record}
use Rattle.chat_query.specs.Page.{Page, of_records, of_buffers}
use Rattle.irc_reply.specs.Reply.{reply}
use Rattle.chat_query.specs.Tags.{tag_part, batch_tags}
use Rattle.chat_query.specs.Message.{record_text}

-- how a line begins that opens (`+`) or closes (`-`) a batch
abbrev pub batch_start : List ℕ → List ℕ → List ℕ → List ℕ
batch_start cluster sign reference = codes ":" ++ (cluster ++ (sign ++ reference))

abbrev pub opening : List ℕ → List ℕ → List ℕ → List ℕ
opening cluster reference kind =
    batch_start cluster (codes " BATCH +") reference ++ (kind ++ line_ending)

abbrev pub closing : List ℕ → List ℕ → List ℕ
closing cluster reference = batch_start cluster (codes " BATCH -") reference ++ line_ending

-- The lines of a batch between its two BATCH lines. The kind is the type of the batch, with its parameter if it has one.
-- A session without `batch` gets the members alone.
abbrev pub batch_text : CapSet → List ℕ → List ℕ → List ℕ → List ℕ → List ℕ
batch_text caps cluster reference kind members =
    (if caps.batch then opening cluster reference kind else [])
    ++ (members ++ (if caps.batch then closing cluster reference else []))

abbrev pub records_text : CapSet → List ℕ → List Record → List ℕ
records_text caps reference records = flat_map (record_text caps reference) records

-- the page of a target, which is printed as it was given
abbrev pub history_text : CapSet → List ℕ → List ℕ → List ℕ → List Record → List ℕ
history_text caps cluster reference given records =
    batch_text caps cluster reference (codes " chathistory " ++ given)
    (records_text caps reference records)

-- a buffer of a list of buffers: its target and the moment of its latest message
abbrev pub buffer_text : CapSet → List ℕ → List ℕ → ℕ × List ℕ → List ℕ
buffer_text caps cluster reference e =
    tag_part (batch_tags caps reference)
    ++ reply cluster (codes "CHATHISTORY") (codes "TARGETS" ∷ e.1 ∷ time_text e.0 ∷ []) None

abbrev pub buffers_text : CapSet → List ℕ → List ℕ → List (ℕ × List ℕ) → List ℕ
buffers_text caps cluster reference buffers = flat_map (buffer_text caps cluster reference) buffers

-- the list of buffers that TARGETS asks for
abbrev pub targets_text : CapSet → List ℕ → List ℕ → List (ℕ × List ℕ) → List ℕ
targets_text caps cluster reference buffers =
    batch_text caps cluster reference (codes " draft/chathistory-targets")
    (buffers_text caps cluster reference buffers)

abbrev pub page_text : CapSet → List ℕ → List ℕ → List ℕ → Page → List ℕ
page_text caps cluster reference given (of_records records) =
    history_text caps cluster reference given records
page_text caps cluster reference given (of_buffers buffers) =
    targets_text caps cluster reference buffers
