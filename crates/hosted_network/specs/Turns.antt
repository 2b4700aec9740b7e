-- What a turn of a network's server comes to.
use Rattle.std.specs.Prelude.{ℕ, Bool, true, false, List, [], ◌∷◌, Result, Ok, Err}
use Rattle.network_log.specs.Log.{NetworkEvent, ServerSays, ServerSkips, Loses}
use Rattle.network_server.specs.declared.server.ServerHearing.{ServerHearing}
use Rattle.network_server.specs.declared.server.ServerHearing.TheVariants as hearing
use Rattle.network_server.specs.declared.server.HearFault.{HearFault}
use Rattle.network_server.specs.declared.server.HearFault.TheVariants as fault
use Rattle.hosted_network.specs.declared.network.ServerTurn.{ServerTurn}
use Rattle.hosted_network.specs.declared.network.ServerTurn.TheVariants as turn
use Rattle.hosted_network.specs.declared.server_turns.Step.{Step}
use Rattle.hosted_network.specs.declared.server_turns.Step.TheVariants as step

-- what happened where the server's next line was asked for at that moment, as the network's log has it
abbrev pub events_of : ℕ → Result ServerHearing HearFault → List NetworkEvent
events_of now (Ok hearing.Line) = ServerSays now ∷ []
events_of now (Ok hearing.LeftOut) = ServerSkips ∷ []
events_of now (Err fault.Lost) = ServerSays now ∷ Loses ∷ []
events_of now _ = []

-- the connection to the server is to be ended, or has ended
abbrev pub is_over : Step → Bool
is_over (step.Over ending) = true
is_over _ = false

abbrev pub has_ended : ServerTurn → Bool
has_ended (turn.Over ending) = true
has_ended _ = false
