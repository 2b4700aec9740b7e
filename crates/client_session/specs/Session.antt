-- One step of a session: what a line does, by the directory of that moment.
use Rattle.std.specs.Prelude.{ℕ, Bool, false, List, [], Option, None, Some, Result, Ok, Err}
use Rattle.irc_line.specs.declared.line.LineFault.{LineFault}
use Rattle.irc_line.specs.declared.line.LineFault.TheVariants.{TooLong}
use Rattle.irc_line.specs.declared.line.TagLimit.TheVariants.{Client}
use Rattle.irc_line.specs.Line.{Reading}
use Rattle.irc_line.specs.Read.{read}
use Rattle.irc_caps.specs.Negotiation as negotiation
use Rattle.chat_query.specs.declared.facts.Facts.{Facts}
use Rattle.chat_query.specs.declared.facts.Answered.{Answered}
use Rattle.chat_query.specs.Reference.{after_answer}
use Rattle.cluster_directory.specs.Directory.{Directory, entry_in}
use Rattle.irc_reply.specs.ToClient.{no_nick}
use Rattle.client_session.specs.Command.{command_of}
use Rattle.client_session.specs.declared.stage.Stage.{Stage}
use Rattle.client_session.specs.declared.stage.Stage.TheVariants.{Waiting, Registered, Closed}
use Rattle.client_session.specs.Step.{Step, refusal, silence}
use Rattle.client_session.specs.Registration.{waits, before_registration}
use Rattle.client_session.specs.Registered.{stays, with_nick_of, after_registration}

-- a session that waits for its registration
abbrev pub new : List ℕ → ℕ → Stage
new cluster maximum = Waiting (record {
  cluster = cluster;
  maximum = maximum;
  negotiation = negotiation.new;
  password = [];
  has_nick = false;
  user = None;
})

-- the facts of a registered session, by the directory of this moment
abbrev pub facts_now : Directory → Facts → Facts
facts_now directory f = with_nick_of (entry_in directory f.account f.network) f

abbrev pub refuse : Facts → LineFault → Step
refuse f fault = stays f (refusal f.cluster f.nick fault)

-- what a line that can't be read does
abbrev pub fault_step : Directory → Stage → LineFault → Step
fault_step directory (Waiting w) fault = waits w (refusal w.cluster no_nick fault)
fault_step directory (Registered f) fault = refuse (facts_now directory f) fault
fault_step directory Closed fault = silence

-- What a line of that reading does. The flag says whether the message is shown that a REDACT names.
abbrev pub line_step : Directory → Bool → Stage → List ℕ → Reading → Step
line_step directory shown (Waiting w) bytes line =
    before_registration directory w (command_of line.command) line.parameters
line_step directory shown (Registered f) bytes line =
    after_registration (entry_in directory f.account f.network) (facts_now directory f) shown bytes
    (command_of line.command) line
line_step directory shown Closed bytes line = silence

abbrev pub reading_step : Directory → Bool → Stage → List ℕ → Result Reading LineFault → Step
reading_step directory shown session bytes (Err fault) = fault_step directory session fault
reading_step directory shown session bytes (Ok line) = line_step directory shown session bytes line

-- what a line does
unfoldable pub step : Directory → Bool → Stage → List ℕ → Step
step directory shown session bytes =
    reading_step directory shown session bytes (read Client bytes)

-- what a line that was too long does
abbrev pub too_long : Directory → Stage → Step
too_long directory session = fault_step directory session TooLong

abbrev pub facts_in : Stage → Option Facts
facts_in (Waiting w) = None
facts_in (Registered f) = Some f
facts_in Closed = None

-- an answer to the session was that: one that opened a batch has used up its number
abbrev pub session_after : Stage → Answered → Stage
session_after (Waiting w) a = Waiting w
session_after (Registered f) a =
    Registered (record f { reference = after_answer a f.reference })
session_after Closed a = Closed
