-- How a registered session goes on after a line.
use Rattle.std.specs.Prelude.{ℕ, List, Option, None, Some}
use Rattle.chat_query.specs.declared.facts.Facts.{Facts}
use Rattle.client_session.specs.declared.stage.Stage.{Stage}
use Rattle.client_session.specs.declared.stage.Stage.TheVariants as stage
use Rattle.client_session.specs.declared.stage.Continuation.{Continuation}
use Rattle.client_session.specs.declared.stage.Continuation.TheVariants.{Stays, Closes}

abbrev pub stage_of : Continuation → Facts → Stage
stage_of Stays f = stage.Registered f
stage_of Closes f = stage.Closed

-- the facts as they were before their nick was changed
abbrev pub with_former_nick : Option (List ℕ) → Facts → Facts
with_former_nick None f = f
with_former_nick (Some nick) f = record f { nick = nick }
