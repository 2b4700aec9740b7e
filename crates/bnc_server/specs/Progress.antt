-- How far a script has come: which of its items were answered, whatever bytes are still to come.
use Rattle.std.specs.Prelude.{◌≡◌, ◌⊎◌, ℕ, List, [], ◌++◌, Option, None, Some, Result, MatchResult}
use Rattle.std.specs.Io.KnownBytes.{Appends}
use Rattle.irc_line.specs.Stream.{Item, Held, items_from, next_item}
use Rattle.bnc_server.specs.declared.fault.ReplayFault.{ReplayFault}
use Rattle.bnc_server.specs.declared.fault.ReplayFault.TheVariants.{Write}
use Rattle.bnc_server.specs.Request.{request_of}
use Rattle.bnc_server.specs.World.{World}
use Rattle.bnc_server.specs.Script.{outcome, text_of}
use Rattle.bnc_server.specs.ChangeLines.{world_after}
use Rattle.bnc_server.specs.Faults.{MayEnd}
use Rattle.bnc_server.specs.Ending.{EndsInItem}
use Rattle.bnc_server.specs.HeldNode.{HeldWorld, held_world}

-- what is printed of an item, if there is one, the world after it, and which fault it may end with
abbrev pub text_of_next : Option Item → World → List ℕ
text_of_next None world = []
text_of_next (Some item) world = (outcome world (request_of item)).text

abbrev pub world_after_next : Option Item → World → World
world_after_next None world = world
world_after_next (Some item) world = (outcome world (request_of item)).world

abbrev pub MayEndNext : World → Option Item → ReplayFault → Type 0
MayEndNext world None fault = ⊥
MayEndNext world (Some item) fault = MayEnd world (request_of item) fault

-- no whole line is held
abbrev pub IsDrained : Held → Type 0
IsDrained held = next_item held ≡ None

-- Items were answered, and what they print was written. Whatever bytes follow, they are a prefix of what was to come of a
-- world, and the rest is to come of what the feeder holds, the bytes that are left and those that follow.
pub record Goes (old new : Option (List ℕ)) (world : World) (before : List ℕ → List Item)
    (self : HeldWorld) (feeder : Held) (left : List ℕ) : Type 0 where
  pub done : List Item
  pub is_held : self ≡ held_world (world_after world done)
  pub written : Appends old new (text_of world done)
  pub rest : (more : List ℕ) → before more ≡ done ++ items_from feeder (left ++ more)

-- one of the items that were to come ended it
abbrev pub StopsInItem : Option (List ℕ) → Option (List ℕ) → World → (List ℕ → List Item)
    → ReplayFault → Type 0
StopsInItem old new world before fault =
    (more : List ℕ) → EndsInItem old new world (before more) fault

-- all items that had come were answered, but the answers couldn't be sent on their way
pub record StopsSending (old new : Option (List ℕ)) (world : World) (before : List ℕ → List Item)
    (self : HeldWorld) (feeder : Held) (fault : ReplayFault) : Type 0 where
  pub fault_is : fault ≡ Write
  pub drained : IsDrained feeder
  pub goes : Goes old new world before self feeder []

-- what is to come of a piece of a script, behind what the feeder holds
abbrev pub items_with : Held → List ℕ → List ℕ → List Item
items_with held piece more = items_from held (piece ++ more)

-- a call serves a piece of a script, and leaves this
abbrev pub ServesPiece : {W : Type 0} → (W → Option (List ℕ)) → W → W → Result (Unit {0}) ReplayFault
    → HeldWorld → Held → List ℕ → HeldWorld → Held → Type 0
ServesPiece contents old new result before held piece self feeder =
    (world : World) → before ≡ held_world world →
    MatchResult result
    (λ _. Goes (contents old) (contents new) world (items_with held piece) self feeder [])
    (StopsInItem (contents old) (contents new) world (items_with held piece))

-- a call does so, and then sends the answers on their way
abbrev pub ServesAndSends : {W : Type 0} → (W → Option (List ℕ)) → W → W
    → Result (Unit {0}) ReplayFault → HeldWorld → Held → List ℕ → HeldWorld → Held → Type 0
ServesAndSends contents old new result before held piece self feeder =
    (world : World) → before ≡ held_world world →
    MatchResult result
    (λ _. Goes (contents old) (contents new) world (items_with held piece) self feeder [])
    (λ fault.
    StopsInItem (contents old) (contents new) world (items_with held piece) fault
    ⊎ StopsSending (contents old) (contents new) world (items_with held piece) self feeder fault)
