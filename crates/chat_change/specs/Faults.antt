-- Which parts the makers of accounts, buffers, ids and records refuse, and why: of several faults the first counts.
use Rattle.std.specs.Prelude.{ℕ, Bool, ◌&&◌, nat_le, List, length, Option, None, Some, is_none, unwrap_or, if◌then◌else◌}
use Rattle.chat_change.specs.Words.{is_name, is_target, is_id, is_source, is_body, is_tags}
use Rattle.chat_change.specs.Message.{Message, line_of}
use Rattle.chat_change.specs.declared.message.TheConstants.{LINE_LIMIT}
use Rattle.chat_change.specs.declared.faults.ChangeFault.{ChangeFault}
use Rattle.chat_change.specs.declared.faults.ChangeFault.TheVariants.{BadName, BadTarget, BadId, BadSource, BadBody, LineTooLong, NoMemory, BadTags}

-- the fault, unless the text is as it should be; then what else there is
abbrev pub unless_lawful : Bool → ChangeFault → Option ChangeFault → Option ChangeFault
unless_lawful lawful fault more = if lawful then more else Some fault

abbrev pub account_fault : List ℕ → Option ChangeFault
account_fault name = unless_lawful (is_name name) BadName None

abbrev pub buffer_fault : List ℕ → List ℕ → List ℕ → Option ChangeFault
buffer_fault account network target =
    unless_lawful (is_name account && is_name network) BadName
    (unless_lawful (is_target target) BadTarget None)

abbrev pub id_fault : List ℕ → Option ChangeFault
id_fault text = unless_lawful (is_id text) BadId None

-- the line of the message is within its limit
abbrev pub fits_line : Message → Bool
fits_line m = nat_le (length (line_of m)) LINE_LIMIT

abbrev pub record_fault : Message → Option ChangeFault
record_fault m =
    unless_lawful (is_target m.target) BadTarget
    (unless_lawful (is_source m.source) BadSource
    (unless_lawful (is_body m.body) BadBody
    (unless_lawful (fits_line m) LineTooLong None)))

-- the first of two faults
abbrev pub first_fault : Option ChangeFault → Option ChangeFault → Option ChangeFault
first_fault None more = more
first_fault (Some fault) more = Some fault

-- of a message with tags
abbrev pub tagged_fault : Message → List ℕ → Option ChangeFault
tagged_fault m tags = first_fault (record_fault m) (unless_lawful (is_tags tags) BadTags None)

-- the maker of records finds no fault in the message
abbrev pub is_message : Message → Bool
is_message m = is_none (record_fault m)

-- what a maker answers in place of a value: the fault of its parts, or that there was no memory where they have none
abbrev pub fault_or_no_memory : Option ChangeFault → ChangeFault
fault_or_no_memory fault = unwrap_or fault NoMemory
