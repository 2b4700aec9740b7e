-- How `bnc replay` ends.
use Rattle.std.specs.Prelude.{◌≡◌, ◌⊎◌, ℕ, List, Option, None, Some, IfSome, Result, Ok, Err}
use Rattle.std.specs.Io.KnownBytes.{Appends, IsAtEnd}
use Rattle.byte_text.specs.Writes.{AppendsPrefix}
use Rattle.chat_change.specs.Faults.{buffer_fault, fault_or_no_memory}
use Rattle.chat_change.specs.declared.faults.ChangeFault.{ChangeFault}
use Rattle.bnc_server.specs.declared.fault.ReplayFault.{ReplayFault}
use Rattle.bnc_server.specs.Ending.{Ends}
use Rattle.bnc_server.specs.World.{World}
use Rattle.bnc_server.specs.Script.{script, start}
use Rattle.bnc.specs.declared.ending.End.{End}
use Rattle.bnc.specs.declared.ending.End.TheVariants.{Usage, NoMemory, Device}
use Rattle.bnc.specs.Status.{end_of_names, end_of_replay}
use Rattle.bnc.specs.Words.{Command, Replay, Names}

abbrev pub names_fault : Names → Option ChangeFault
names_fault names = buffer_fault names.account names.network names.nick

-- the end where a node can't have these names, or there is no memory to look at them
abbrev pub end_of_refusal : Names → End
end_of_refusal names = end_of_names (fault_or_no_memory (names_fault names))

abbrev pub world_of : Names → World
world_of names = start names.account names.network names.nick

-- what a script prints
abbrev pub text_of : List ℕ → Names → List ℕ
text_of input names = script input names.account names.network names.nick

-- What follows speaks of what is known of the devices: the reader had `unread` and has `left`, the writer behind the
-- buffer held `old` and holds `new`, and `held` is what it holds together with what stays in the buffer.

-- Done: the script was read to its end, and all that it prints has left the buffer.
pub record IsAnswered (unread left old new : Option (List ℕ)) (names : Names) : Type 0 where
  pub at_end : IsAtEnd left
  pub written : IfSome unread (λ input.
      Appends old new (text_of input names))

-- there was no memory to look at the names: nothing was read, and nothing was written
pub record EndsBefore (unread left old held : Option (List ℕ)) (end : End) : Type 0 where
  pub unread_is_left : left ≡ unread
  pub nothing_written : held ≡ old
  pub told : end ≡ NoMemory

-- the script ended with a fault
pub record EndsByFault (unread left old held : Option (List ℕ)) (w : World) (end : End) : Type 0 where
  pub fault : ReplayFault
  pub ends : Ends unread left old held w fault
  pub told : end ≡ end_of_replay fault

-- all of the script was answered, and the last of it couldn't leave the buffer
pub record EndsUnsent (unread left old held : Option (List ℕ)) (names : Names) (end : End) : Type 0 where
  pub answered : IsAnswered unread left old held names
  pub told : end ≡ Device

abbrev pub IsCause : (unread left old held : Option (List ℕ)) → Names → End → Type 0
IsCause unread left old held names end =
    EndsBefore unread left old held end
    ⊎ EndsByFault unread left old held (world_of names) end
    ⊎ EndsUnsent unread left old held names end

-- Cut short: of what the script prints a prefix was written, and it ended for a cause of these.
pub record IsCutShort (unread left old held : Option (List ℕ)) (names : Names) (end : End) : Type 0 where
  pub begun : IfSome unread (λ input. AppendsPrefix old held (text_of input names))
  pub cause : IsCause unread left old held names end

abbrev pub ReplaysLawful : (unread left old new held : Option (List ℕ)) → Names
    → Result (Unit {0}) End → Type 0
ReplaysLawful unread left old new held names (Ok _) = IsAnswered unread left old new names
ReplaysLawful unread left old new held names (Err end) = IsCutShort unread left old held names end

-- by the fault of the names, if they have one
abbrev pub ReplaysBy : Option ChangeFault → (unread left old new held : Option (List ℕ)) → Names
    → Result (Unit {0}) End → Type 0
ReplaysBy (Some fault) unread left old new held names result = result ≡ Err Usage
ReplaysBy None unread left old new held names result =
    ReplaysLawful unread left old new held names result

-- A script is answered for names that a node can have, and no others.
abbrev pub Replays : (unread left old new held : Option (List ℕ)) → Names
    → Result (Unit {0}) End → Type 0
Replays unread left old new held names result =
    ReplaysBy (names_fault names) unread left old new held names result

-- the words ask for the answers to a script, for names that a node can have
abbrev pub AsksForScript : Option Command → Type 0
AsksForScript (Some (Replay names)) = names_fault names ≡ None
AsksForScript _ = ⊥
