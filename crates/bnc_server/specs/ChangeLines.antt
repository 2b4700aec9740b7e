-- Lines of changes in a script, and what is printed behind them.
use Rattle.std.specs.Prelude.{◌≡◌, ⊤, List, [], ◌∷◌, Option, None, Some, Ok}
use Rattle.std.specs.List.{filter_map, AllByRecursion}
use Rattle.irc_line.specs.Stream.{Item}
use Rattle.chat_change.specs.declared.change.Change.{Change}
use Rattle.chat_history.specs.History.{SameSet}
use Rattle.bnc_server.specs.Request.{Request, of_change, of_command, of_client, over_long, request_of}
use Rattle.bnc_server.specs.Command.{select, exchange, lose, hold_back, hand_over, restart, bad_form}
use Rattle.bnc_server.specs.Node.{Node}
use Rattle.bnc_server.specs.World.{World}
use Rattle.bnc_server.specs.Script.{outcome}

-- the line is one of a change, taken or refused
abbrev pub IsOfChange : Request → Type 0
IsOfChange (of_change change) = ⊤
IsOfChange (of_command command) = ⊥
IsOfChange (of_client bytes) = ⊥
IsOfChange over_long = ⊥

abbrev pub AreChangeLines : List Item → Type 0
AreChangeLines items = AllByRecursion (λ item. IsOfChange (request_of item)) items

-- the change that a line spells, if it spells one
abbrev pub change_in : Request → Option Change
change_in (of_change (Ok change)) = Some change
change_in _ = None

abbrev pub changes_in : List Item → List Change
changes_in items = filter_map (λ item. change_in (request_of item)) items

-- the world once it answered these
abbrev pub world_after : World → List Item → World
world_after w [] = w
world_after w (item ∷ items) = world_after (outcome w (request_of item)).world items

-- ---- nodes that took the same

-- one session, and one set of changes, whatever their order and repeats
pub record TookTheSame (one other : Node) : Type 0 where
  pub session : one.session ≡ other.session
  pub taken : SameSet one.taken other.taken

-- so at each place
abbrev pub AllTookTheSame : List Node → List Node → Type 0
AllTookTheSame [] [] = ⊤
AllTookTheSame (one ∷ ones) (other ∷ others) = TookTheSame one other × AllTookTheSame ones others
AllTookTheSame _ _ = ⊥

-- two worlds of one client, whose nodes took the same
pub record AreAlike (one other : World) : Type 0 where
  pub directory : one.directory ≡ other.directory
  pub facts : one.facts ≡ other.facts
  pub selected : one.selected ≡ other.selected
  pub nodes : AllTookTheSame one.nodes other.nodes

-- no packet and no acknowledgement reaches a node
abbrev pub IsLocal : Request → Type 0
IsLocal (of_change change) = ⊤
IsLocal (of_command (select node)) = ⊤
IsLocal (of_command (exchange sender receiver)) = ⊥
IsLocal (of_command (lose sender receiver)) = ⊤
IsLocal (of_command (hold_back sender receiver)) = ⊥
IsLocal (of_command (hand_over sender receiver)) = ⊥
IsLocal (of_command (restart node)) = ⊤
IsLocal (of_command bad_form) = ⊤
IsLocal (of_client bytes) = ⊤
IsLocal over_long = ⊤

abbrev pub AreLocal : List Item → Type 0
AreLocal items = AllByRecursion (λ item. IsLocal (request_of item)) items
