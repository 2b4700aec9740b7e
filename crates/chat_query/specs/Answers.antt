-- What is answered to a question about the past: to CHATHISTORY (IRCv3 draft/chathistory) and to MARKREAD (IRCv3
-- draft/read-marker). It is defined over the set of changes that was taken.
use Rattle.std.specs.Prelude.{ℕ, Bool, true, ◌&&◌, is_some, List, [], ◌∷◌, codes, Option, None, Some, Result, Ok, Err, map, if◌then◌else◌}
use Rattle.std.specs.Char.{to_ascii_uppercase}
use Rattle.std.specs.Str.{str_eq_ignore_ascii_case}
use Rattle.irc_line.specs.Line.{Reading}
use Rattle.irc_reply.specs.Echo.{echoed}
use Rattle.irc_reply.specs.Reply.{fail_text, mark_text, unknown_text}
use Rattle.chat_change.specs.Buffer.{buffer_of}
use Rattle.chat_change.specs.declared.change.Change.{Change}
use Rattle.chat_history.specs.History.{mark}
use Rattle.chat_query.specs.Parameters.{first_of, read_query, moment_of}
use Rattle.chat_query.specs.Buffers.{has_buffers, has_buffer, scope_of}
use Rattle.chat_query.specs.Page.{Page, page}
use Rattle.chat_query.specs.declared.query.Query.{Query}
use Rattle.chat_query.specs.declared.parameters.QueryFault.{QueryFault}
use Rattle.chat_query.specs.declared.parameters.QueryFault.TheVariants.{NeedMoreParams, UnknownCommand, InvalidTarget, InvalidMsgRef, InvalidParams}
use Rattle.chat_query.specs.Batch.{page_text}
use Rattle.chat_query.specs.Reference.{reference_text}
use Rattle.chat_query.specs.declared.facts.Facts.{Facts}
use Rattle.chat_query.specs.declared.facts.Answered.{Answered}
use Rattle.chat_query.specs.declared.facts.Answered.TheVariants.{Batch, Plain, NotAQuery}

-- the bytes of an answer, and what it was
pub record Answer : Type 0 where
  pub text : List ℕ
  pub answered : Answered

abbrev pub plain : List ℕ → Answer
plain text = record { text = text; answered = Plain }

-- a command that the session has no capability for is answered as unknown
abbrev pub unknown : Facts → List ℕ → Answer
unknown facts command = plain (unknown_text facts.cluster facts.nick command)

-- a refusal of a command: its code, its context, and what is wrong (IRCv3 standard-replies, `FAIL`)
abbrev pub fail : Facts → List ℕ → List ℕ → List (List ℕ) → List ℕ → Answer
fail facts command code context reason = plain (fail_text facts.cluster command code context reason)

-- ---- refusals of CHATHISTORY

-- the subcommand as it is repeated: in upper case, and `*` for a word that can't be repeated
abbrev pub subcommand_of : List ℕ → List ℕ
subcommand_of word = map to_ascii_uppercase (echoed word)

-- what a refusal is about: the subcommand, where there is one
abbrev pub context_of : Option (List ℕ) → List (List ℕ)
context_of None = []
context_of (Some word) = subcommand_of word ∷ []

-- the subcommand and the target as they were given
abbrev pub word_of : List (List ℕ) → List ℕ
word_of [] = []
word_of (word ∷ more) = word

abbrev pub given_of : List (List ℕ) → List ℕ
given_of (word ∷ given ∷ more) = given
given_of _ = []

abbrev pub code_of : QueryFault → List ℕ
code_of InvalidTarget = codes "INVALID_TARGET"
code_of InvalidMsgRef = codes "INVALID_MSGREFTYPE"
code_of _ = codes "INVALID_PARAMS"

abbrev pub reason_of : QueryFault → List ℕ
reason_of NeedMoreParams = codes "Missing parameters"
reason_of UnknownCommand = codes "Unknown command"
reason_of InvalidTarget = codes "Invalid target"
reason_of InvalidMsgRef = codes "Invalid message reference type"
reason_of InvalidParams = codes "Invalid parameters"

abbrev pub refusal_about : Facts → Option (List ℕ) → QueryFault → Answer
refusal_about facts subcommand fault =
    fail facts (codes "CHATHISTORY") (code_of fault) (context_of subcommand) (reason_of fault)

abbrev pub query_refusal : Facts → List (List ℕ) → QueryFault → Answer
query_refusal facts parameters fault = refusal_about facts (first_of parameters) fault

-- a selector names a message that has no position in the buffer
abbrev pub unknown_message : Facts → List ℕ → List ℕ → Answer
unknown_message facts word given =
    fail facts (codes "CHATHISTORY") (codes "MESSAGE_ERROR") (subcommand_of word ∷ given ∷ [])
    (codes "No such message")

-- ---- answers to CHATHISTORY

-- a session without `batch` gets the lines of a page alone
abbrev pub page_answer : Facts → List ℕ → Page → Answer
page_answer facts given p = record {
  text = page_text facts.caps facts.cluster (reference_text facts.reference) given p;
  answered = if facts.caps.batch then Batch else Plain;
}

abbrev pub page_or_unknown : Facts → List (List ℕ) → Option Page → Answer
page_or_unknown facts parameters None =
    unknown_message facts (word_of parameters) (given_of parameters)
page_or_unknown facts parameters (Some p) = page_answer facts (given_of parameters) p

abbrev pub query_answer : List Change → Facts → List (List ℕ) → Query → Answer
query_answer changes facts parameters query =
    if has_buffers facts
    then page_or_unknown facts parameters (page changes (scope_of facts) query)
    else query_refusal facts parameters InvalidTarget

abbrev pub query_or_refusal : List Change → Facts → List (List ℕ) → Result Query QueryFault → Answer
query_or_refusal changes facts parameters (Ok query) = query_answer changes facts parameters query
query_or_refusal changes facts parameters (Err fault) = query_refusal facts parameters fault

abbrev pub history_answer : List Change → Facts → List (List ℕ) → Answer
history_answer changes facts parameters =
    if facts.caps.chathistory
    then query_or_refusal changes facts parameters (read_query parameters)
    else unknown facts (codes "CHATHISTORY")

-- ---- answers to MARKREAD

abbrev pub marker_refusal : Facts → List ℕ → List ℕ → Answer
marker_refusal facts code reason = fail facts (codes "MARKREAD") code [] reason

-- nothing behind the target asks for the marker; `timestamp=` and a time sets it
abbrev pub asks_or_sets : List (List ℕ) → Bool
asks_or_sets [] = true
asks_or_sets (word ∷ more) = is_some (moment_of word)

abbrev pub marker_of : List Change → Facts → List ℕ → Option ℕ
marker_of changes facts given = mark changes (buffer_of facts.account facts.network given)

-- the marker that is set now, of a target that is printed as it was given
abbrev pub marker_answer : List Change → Facts → List ℕ → Answer
marker_answer changes facts given =
    plain (mark_text facts.cluster given (marker_of changes facts given))

abbrev pub marker_or_refusal : List Change → Facts → List (List ℕ) → Answer
marker_or_refusal changes facts [] =
    marker_refusal facts (codes "NEED_MORE_PARAMS") (codes "Missing parameters")
marker_or_refusal changes facts (given ∷ more) =
    if asks_or_sets more && has_buffer facts given
    then marker_answer changes facts given
    else marker_refusal facts (codes "INVALID_PARAMS") (codes "Invalid parameters")

abbrev pub markread_answer : List Change → Facts → List (List ℕ) → Answer
markread_answer changes facts parameters =
    if facts.caps.read_marker
    then marker_or_refusal changes facts parameters
    else unknown facts (codes "MARKREAD")

-- ---- answers

-- commands are compared without regard to case; any other command isn't answered here
abbrev pub answer_of : List Change → Facts → Reading → Answer
answer_of changes facts line =
    if str_eq_ignore_ascii_case line.command (codes "CHATHISTORY")
    then history_answer changes facts line.parameters
    else if str_eq_ignore_ascii_case line.command (codes "MARKREAD")
    then markread_answer changes facts line.parameters
    else record { text = []; answered = NotAQuery }
