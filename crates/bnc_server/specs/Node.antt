-- A node with its session, and what each effect of the session does.
use Rattle.std.specs.Prelude.{ℕ, Bool, false, List, [], ◌∷◌, ◌++◌, Option, None, Some, Result, Ok}
use Rattle.std.specs.List.{list_any}
use Rattle.std.specs.Str.{bytes_eq}
use Rattle.irc_line.specs.declared.line.LineFault.{LineFault}
use Rattle.irc_line.specs.declared.line.TagLimit.TheVariants.{Client}
use Rattle.irc_line.specs.Line.{Reading}
use Rattle.irc_line.specs.Read.{read}
use Rattle.chat_change.specs.Record.{Record}
use Rattle.chat_change.specs.declared.change.Change.{Change}
use Rattle.chat_history.specs.Visible.{visible}
use Rattle.chat_query.specs.Answers.{Answer, answer_of}
use Rattle.chat_query.specs.declared.facts.Facts.{Facts}
use Rattle.chat_query.specs.declared.facts.Answered.{Answered}
use Rattle.cluster_directory.specs.Directory.{Directory}
use Rattle.client_session.specs.Lookup.{MessageName, name_sought}
use Rattle.client_session.specs.Session.{step, too_long, facts_in, session_after}
use Rattle.client_session.specs.Step.{Step}
use Rattle.client_session.specs.declared.effect.Effect.{Effect}
use Rattle.client_session.specs.declared.effect.Effect.TheVariants.{Send, Put, Ask, Upstream, Close}
use Rattle.client_session.specs.declared.stage.Stage.{Stage}
use Rattle.cluster_directory.specs.Life.{Life}
use Rattle.peer_lines.specs.Packet.{Ack}
use Rattle.gossip_link.specs.Link.{Link}

-- A node in its present life. Nodes differ by their places, which begin with 0.
pub record Node : Type 0 where
  pub life : Life
  pub session : Stage
  pub taken : List Change  -- in this life
  pub links : List Link  -- with the node at each place
  pub late : List (Option Ack)  -- the acknowledgement that is held back, of the node at each place

-- what a node becomes, and what is written to its client
pub record Reply : Type 0 where
  pub node : Node
  pub text : List ℕ

abbrev pub with_text : Node → List ℕ → Reply
with_text node text = record { node = node; text = text }

abbrev pub with_session : Node → Stage → Node
with_session node session = record node { session = session }

abbrev pub after_taking : Node → List Change → Node
after_taking node changes = record node { taken = node.taken ++ changes }

-- ---- effects

abbrev pub after_answering : Node → Answered → Node
after_answering node answered = with_session node (session_after node.session answered)

abbrev pub answered_by : Node → Answer → Reply
answered_by node answer = with_text (after_answering node answer.answered) answer.text

-- a question about the past, for a session with facts
abbrev pub answer_to : Node → Option Facts → Result Reading LineFault → Reply
answer_to node (Some facts) (Ok line) = answered_by node (answer_of node.taken facts line)
answer_to node _ _ = with_text node []

-- What the network's server is sent is dropped, since there is none.
abbrev pub reply_to_effect : Node → Effect → Reply
reply_to_effect node (Send bytes) = with_text node bytes
reply_to_effect node (Put change) = with_text (after_taking node (change ∷ [])) []
reply_to_effect node (Ask line) = answer_to node (facts_in node.session) (read Client line)
reply_to_effect node (Upstream bytes) = with_text node []
reply_to_effect node Close = with_text node []

-- a reply with what was written before it
abbrev pub behind : List ℕ → Reply → Reply
behind text reply = with_text reply.node (text ++ reply.text)

-- effects in their order
abbrev pub reply_to_effects : Node → List Effect → Reply
reply_to_effects node [] = with_text node []
reply_to_effects node (effect ∷ effects) =
    behind (reply_to_effect node effect).text
    (reply_to_effects (reply_to_effect node effect).node effects)

abbrev pub reply_to_step : Node → Step → Reply
reply_to_step node s = reply_to_effects (with_session node s.session) s.effects

-- ---- lines

-- whether a visible record stands there
abbrev pub is_shown : List Change → Option MessageName → Bool
is_shown taken None = false
is_shown taken (Some place) =
    list_any (λ (r : Record). bytes_eq r.id place.id) (visible taken place.buffer)

-- A line of the client: the session steps, and a REDACT sees whether its message is shown.
abbrev pub step_of : Directory → Node → List ℕ → Step
step_of directory node bytes =
    step directory (is_shown node.taken (name_sought node.session bytes)) node.session bytes

abbrev pub reply_to_line : Directory → Node → List ℕ → Reply
reply_to_line directory node bytes = reply_to_step node (step_of directory node bytes)

-- a line that was too long
abbrev pub reply_to_long_line : Directory → Node → Reply
reply_to_long_line directory node = reply_to_step node (too_long directory node.session)
