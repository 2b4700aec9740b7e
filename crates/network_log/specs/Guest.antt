-- A client of a network, and what may happen to it alone.
use Rattle.std.specs.Prelude.{ℕ, ◌+◌, Bool, true, false, List, [], ◌∷◌, ◌++◌, Option, None, Some, Result, Ok, Err, take, drop, slice_get}
use Rattle.irc_line.specs.declared.line.LineFault.{LineFault}
use Rattle.irc_line.specs.declared.line.TagLimit.TheVariants.{Client}
use Rattle.irc_line.specs.Line.{Reading}
use Rattle.irc_line.specs.Read.{read}
use Rattle.irc_line.specs.Stream.{Item, items, line as whole_line, too_long as cut_line}
use Rattle.irc_reply.specs.ToClient.{no_nick}
use Rattle.chat_change.specs.declared.change.Change.{Change}
use Rattle.chat_query.specs.declared.facts.Facts.{Facts}
use Rattle.chat_query.specs.Answers.{Answer, answer_of}
use Rattle.cluster_directory.specs.Directory.{Directory}
use Rattle.client_session.specs.declared.effect.Effect.{Effect}
use Rattle.client_session.specs.declared.effect.Effect.TheVariants.{Send, Ask, Close}
use Rattle.client_session.specs.declared.stage.Stage.{Stage}
use Rattle.client_session.specs.Session.{new, step, too_long, facts_in, session_after}
use Rattle.client_session.specs.Step.{Step}
use Rattle.network_log.specs.Facts.{NodeFacts}

-- In turn:
--   serial    the number of its connection
--   joined    behind how many others it joined the network, if it did
--   received  what came over its connection
--   heard     how many of the lines of that its session has heard, the first ones
--   session   what its session came to
--   todo      what the last of these lines came to and isn't done yet
--   told      what it was told: what was sent, with what its ring has behind that
--   waiting   what its own lines called for and isn't in the ring yet
--   nick      the nick that it knows as its own
--   is_gone   whether it is gone, which it is until it leaves
pub record Guest : Type 0 where
  pub serial : ℕ
  pub joined : Option ℕ
  pub received : List ℕ
  pub heard : ℕ
  pub session : Stage
  pub todo : List Effect
  pub told : List ℕ
  pub waiting : List ℕ
  pub nick : List ℕ
  pub is_gone : Bool

-- a client whose connection is there, and nothing was said
abbrev pub new_guest : NodeFacts → ℕ → Guest
new_guest facts serial = record {
  serial = serial;
  joined = None;
  received = [];
  heard = 0;
  session = new facts.cluster facts.maximum;
  todo = [];
  told = [];
  waiting = [];
  nick = no_nick;
  is_gone = false;
}

-- What may happen to a client alone. In turn:
--   Gets     bytes come over its connection
--   Hears    its session hears the next line, by the accounts as they stand, and whether the message is shown that the line names
--   Says     the session's own line, which is next of what is to be done, waits for it
--   Asks     the session's question is next, and the answer to it waits for it, if there is one
--   Closes   the session ends, which is next
--   Offers   the first bytes that wait are told, so many
--   Falls    it is gone
pub data GuestEvent : Type 0 where
  Gets : (bytes : List ℕ) → GuestEvent
  Hears : (directory : Directory) (shown : Bool) → GuestEvent
  Says : GuestEvent
  Asks : GuestEvent
  Closes : GuestEvent
  Offers : (count : ℕ) → GuestEvent
  Falls : GuestEvent

-- ---- lines

-- the next of the lines that came, where so many were heard
abbrev pub next_item : List ℕ → ℕ → Option Item
next_item received heard = slice_get (items received) heard

-- what a session comes to by a line, or by one that was too long
abbrev pub step_of : Directory → Bool → Stage → Item → Step
step_of directory shown session (whole_line bytes) = step directory shown session bytes
step_of directory shown session cut_line = too_long directory session

-- the nick that a client knows: once its session is registered, that of the session
abbrev pub nick_after : Option Facts → Option Facts → List ℕ → List ℕ
nick_after None (Some f) nick = f.nick
nick_after _ _ nick = nick

abbrev pub after_step : Step → Guest → Guest
after_step s g = record g {
  heard = g.heard + 1;
  session = s.session;
  todo = s.effects;
  nick = nick_after (facts_in g.session) (facts_in s.session) g.nick;
}

abbrev pub after_item : Directory → Bool → Guest → Option Item → Guest
after_item directory shown g None = g
after_item directory shown g (Some item) = after_step (step_of directory shown g.session item) g

-- ---- what they come to

-- the answer to a question, if there is one: the session is registered, and the question can be read
abbrev pub answer_to_reading : List Change → Facts → Result Reading LineFault → Option Answer
answer_to_reading held f (Err fault) = None
answer_to_reading held f (Ok line) = Some (answer_of held f line)

abbrev pub answer_to : List Change → Option Facts → List ℕ → Option Answer
answer_to held None question = None
answer_to held (Some f) question = answer_to_reading held f (read Client question)

abbrev pub after_answer : Guest → List Effect → Option Answer → Guest
after_answer g more None = record g { todo = more }
after_answer g more (Some answer) = record g {
  session = session_after g.session answer.answered;
  todo = more;
  waiting = g.waiting ++ answer.text;
}

abbrev pub after_saying : Guest → List Effect → Guest
after_saying g (Send text ∷ more) = record g { todo = more; waiting = g.waiting ++ text }
after_saying g _ = g

abbrev pub after_asking : List Change → Guest → List Effect → Guest
after_asking held g (Ask question ∷ more) =
    after_answer g more (answer_to held (facts_in g.session) question)
after_asking held g _ = g

abbrev pub after_closing : Guest → List Effect → Guest
after_closing g (Close ∷ more) = record g { todo = more }
after_closing g _ = g

-- ---- all of it

-- nothing more is read of it, and what waits is let go
abbrev pub fallen : Guest → Guest
fallen g = record g { todo = []; waiting = []; is_gone = true }

-- what an event makes of a client, where the node holds these changes
abbrev pub guest_step : List Change → GuestEvent → Guest → Guest
guest_step held (Gets bytes) g = record g { received = g.received ++ bytes }
guest_step held (Hears directory shown) g =
    after_item directory shown g (next_item g.received g.heard)
guest_step held Says g = after_saying g g.todo
guest_step held Asks g = after_asking held g g.todo
guest_step held Closes g = after_closing g g.todo
guest_step held (Offers count) g =
    record g { told = g.told ++ take count g.waiting; waiting = drop count g.waiting }
guest_step held Falls g = fallen g

-- a list of events
abbrev pub guest_run : List Change → List GuestEvent → Guest → Guest
guest_run held [] g = g
guest_run held (event ∷ events) g = guest_run held events (guest_step held event g)
