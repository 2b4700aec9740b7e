-- How `bnc serve` ends.
use Rattle.std.specs.Prelude.{◌≡◌, ◌≢◌, ◌⊎◌, ℕ, List, Vec, Result, Ok, Err}
use Rattle.std.specs.Borrow.{Bor}
use Rattle.std.specs.IoError.{error_kind}
use Rattle.std.specs.declared.io.Error.{Error}
use Rattle.std.specs.List.{All}
use Rattle.std.specs.declared.alloc.Global.{Global}
use Rattle.node_events.specs.declared.serve_fault.ServeFault.{ServeFault}
use Rattle.bnc_work.specs.declared.worker_config.WorkEnd.{WorkEnd}
use Rattle.bnc_work.specs.declared.worker_config.WorkEnd.TheVariants.{Failed}
use Rattle.node_config.specs.declared.config.Config.{Config}
use Rattle.node_config.specs.declared.fault.ConfigFault.{ConfigFault}
use Rattle.node_config.specs.Document.{IsRefused}
use Rattle.node_config.specs.Meaning.{Says}
use Rattle.node_config.specs.Naming.{fault_name}
use Rattle.bnc.specs.declared.ending.End.{End}
use Rattle.bnc.specs.declared.ending.End.TheVariants.{NoMemory, Worker}
use Rattle.bnc.specs.Status.{end_of_file, end_of_config, end_of_fault}

-- what reading a file gives, and what running a node gives
abbrev pub FileRead : Type 0
FileRead = Result (Vec ℕ Global) Error

abbrev pub NodeRun : Type 0
NodeRun = Result (Vec WorkEnd Global) ServeFault

-- A configuration of these bytes is refused for that fault: the end has the name of the entry that the fault is in, or
-- there was no memory for it.
abbrev pub IsEndOfConfig : List ℕ → ConfigFault → End → Type 0
IsEndOfConfig bytes fault end =
    (end ≡ end_of_config fault (fault_name bytes fault)) ⊎ (end ≡ NoMemory)

-- the configuration is refused for a fault of these bytes
pub record EndsByConfig (bytes : List ℕ) (end : End) : Type 0 where
  pub fault : ConfigFault
  pub refused : IsRefused bytes fault
  pub told : IsEndOfConfig bytes fault end

-- The configuration that the file says, or the end where there is none.
abbrev pub IsConfigOf : Bor (List ℕ) → FileRead → Result Config End → Type 0
IsConfigOf path (Err error) result = result ≡ Err (end_of_file path (error_kind error))
IsConfigOf path (Ok bytes) (Ok config) = Says bytes.items config
IsConfigOf path (Ok bytes) (Err end) = EndsByConfig bytes.items end

-- How a node's run ends the program: done exactly where no worker failed.
abbrev pub IsEndOfRun : NodeRun → Result (Unit {0}) End → Type 0
IsEndOfRun (Err fault) result = result ≡ Err (end_of_fault fault)
IsEndOfRun (Ok ends) (Ok _) = All (λ end. end ≢ Failed) ends.items
IsEndOfRun (Ok ends) (Err end) = (end ≡ Worker) × ¬ (All (λ end. end ≢ Failed) ends.items)

-- The file was read, and there is no configuration in it.
pub record EndsUnserved (reads : FileRead → Type 0) (path : Bor (List ℕ))
    (result : Result (Unit {0}) End) : Type 0 where
  pub read : FileRead
  pub end : End
  pub given : reads read
  pub unread : IsConfigOf path read (Err end)
  pub told : result ≡ Err end

-- The file was read, and a node ran by the configuration that it says.
pub record EndsServed (reads : FileRead → Type 0) (runs : Config → NodeRun → Type 0)
    (path : Bor (List ℕ)) (result : Result (Unit {0}) End) : Type 0 where
  pub read : FileRead
  pub config : Config
  pub run : NodeRun
  pub given : reads read
  pub said : IsConfigOf path read (Ok config)
  pub ran : runs config run
  pub told : IsEndOfRun run result

abbrev pub Serves : (FileRead → Type 0) → (Config → NodeRun → Type 0) → Bor (List ℕ)
    → Result (Unit {0}) End → Type 0
Serves reads runs path result = EndsUnserved reads path result ⊎ EndsServed reads runs path result

-- The same, of the path's text.
pub record ServesPath (reads : List ℕ → FileRead → Type 0) (runs : Config → NodeRun → Type 0)
    (path : List ℕ) (result : Result (Unit {0}) End) : Type 0 where
  pub named : Bor (List ℕ)
  pub is_named : named.now ≡ path
  pub serves : Serves (reads path) runs named result
