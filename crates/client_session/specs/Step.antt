-- What a line does, and what the commands have in common before registration and after it.
use Rattle.std.specs.Prelude.{ℕ, ◌==◌, not, List, [], ◌∷◌, codes, length, Option, None, Some, if◌then◌else◌}
use Rattle.irc_line.specs.declared.line.LineFault.{LineFault}
use Rattle.irc_line.specs.declared.line.LineFault.TheVariants.{Empty, TagsTooLong, TooLong, BadByte, NoCommand}
use Rattle.irc_reply.specs.Reply.{too_long_text, unknown_text}
use Rattle.irc_reply.specs.Reply.{need_more_params}
use Rattle.chat_change.specs.Words.{is_target}
use Rattle.irc_reply.specs.ToClient.{no_nick_given, erroneous_nick, pong, closing_link}
use Rattle.client_session.specs.declared.effect.Effect.{Effect}
use Rattle.client_session.specs.declared.effect.Effect.TheVariants.{Send, Close}
use Rattle.client_session.specs.declared.stage.Stage.{Stage}
use Rattle.client_session.specs.declared.stage.Stage.TheVariants.{Closed}

-- the session after a line, and what its caller does, in this order
pub record Step : Type 0 where
  pub session : Stage
  pub effects : List Effect

-- one line to the client
abbrev pub answer : List ℕ → List Effect
answer text = Send text ∷ []

-- a line that can't be read
abbrev pub refusal : List ℕ → List ℕ → LineFault → List Effect
refusal cluster nick Empty = []
refusal cluster nick TagsTooLong = answer (too_long_text cluster nick)
refusal cluster nick TooLong = answer (too_long_text cluster nick)
refusal cluster nick BadByte = answer (unknown_text cluster nick (codes "*"))
refusal cluster nick NoCommand = answer (unknown_text cluster nick (codes "*"))

-- PING
abbrev pub ping : List ℕ → List ℕ → List (List ℕ) → List Effect
ping cluster nick [] = answer (need_more_params cluster nick (codes "PING"))
ping cluster nick (word ∷ more) = answer (pong cluster word)

-- QUIT
abbrev pub quit : Step
quit = record { session = Closed; effects = Send closing_link ∷ Close ∷ [] }

-- a closed session
abbrev pub silence : Step
silence = record { session = Closed; effects = [] }

-- why NICK is refused, if it is
abbrev pub nick_refusal : List ℕ → List ℕ → List (List ℕ) → Option (List ℕ)
nick_refusal cluster nick [] = Some (no_nick_given cluster nick)
nick_refusal cluster nick (given ∷ more) =
    if length given == 0 then Some (no_nick_given cluster nick)
    else if not (is_target given) then Some (erroneous_nick cluster nick given)
    else None
