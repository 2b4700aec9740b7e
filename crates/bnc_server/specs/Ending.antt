-- Where a script ends with a fault: in one of its items, or between two. And how much of it is read.
use Rattle.std.specs.Prelude.{◌≡◌, ◌≢◌, ◌⊎◌, ⊤, ℕ, ◌*◌, ◌≤◌, List, [], ◌∷◌, ◌++◌, length, Option}
use Rattle.std.specs.Io.KnownBytes.{Appends, Consumes}
use Rattle.byte_text.specs.Writes.{AppendsPrefix}
use Rattle.irc_line.specs.Stream.{Item, items}
use Rattle.bnc_server.specs.declared.fault.ReplayFault.{ReplayFault}
use Rattle.bnc_server.specs.declared.fault.ReplayFault.TheVariants.{NoMemory, Read, Write}
use Rattle.bnc_server.specs.Request.{request_of}
use Rattle.bnc_server.specs.World.{World}
use Rattle.bnc_server.specs.Script.{outcome, text_of}
use Rattle.bnc_server.specs.ChangeLines.{world_after}
use Rattle.bnc_server.specs.Faults.{MayEnd}

-- In an item: those before it were carried out, and the fault is one that it may end with in the world that they lead to.
-- All that they print was written, and of what the item prints a prefix.
pub record EndsInItem (old new : Option (List ℕ)) (w : World) (items : List Item)
    (fault : ReplayFault) : Type 0 where
  pub before : List Item
  pub item : Item
  pub after : List Item
  pub in_turn : items ≡ before ++ item ∷ after
  pub may_end : MayEnd (world_after w before) (request_of item) fault
  pub between : Option (List ℕ)  -- what the writer held before the item
  pub written : Appends old between (text_of w before)
  pub begun : AppendsPrefix between new (outcome (world_after w before) (request_of item)).text

-- Between items, once these bytes were read: there was no memory to begin with, the reader failed or had more after the
-- most reads, or the answers couldn't be sent on their way.
abbrev pub MayEndBetween : List ℕ → ReplayFault → Type 0
MayEndBetween read NoMemory = read ≡ []
MayEndBetween read Read = ⊤
MayEndBetween read Write = read ≢ []

-- All items that were read were carried out, and all that they print was written.
pub record EndsBetween (old new : Option (List ℕ)) (w : World) (read : List ℕ)
    (fault : ReplayFault) : Type 0 where
  pub may_end : MayEndBetween read fault
  pub written : Appends old new (text_of w (items read))

-- Some bytes were read, and the script ended in one of their items or between two. The reader had `unread` and has `left`,
-- and the writer held `old` and holds `new`, where these are known.
abbrev pub Ends : (unread left old new : Option (List ℕ)) → World → ReplayFault → Type 0
Ends unread left old new w fault =
    (read : List ℕ) × Consumes unread left read
    × (EndsInItem old new w (items read) fault ⊎ EndsBetween old new w read fault)

-- The reader gave what so many reads of 4,096 bytes give at most. It had `unread` and has `left`, where these are known.
abbrev pub IsReadBy : ℕ → (unread left : Option (List ℕ)) → Type 0
IsReadBy reads unread left =
    (read : List ℕ) × Consumes unread left read × (length read ≤ reads * 4096)

abbrev pub most_reads : ℕ
most_reads = 16777216
