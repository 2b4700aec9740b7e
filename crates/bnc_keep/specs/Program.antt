-- How the program ends, by what its words ask for.
use Rattle.std.specs.Prelude.{◌≡◌, ◌⊎◌, ℕ, List, Vec, Option, None, Some, Result, Ok, Err}
use Rattle.std.specs.Borrow.{Bor}
use Rattle.std.specs.IoError.{error_kind}
use Rattle.std.specs.declared.io.Error.{Error}
use Rattle.std.specs.declared.alloc.Global.{Global}
use Rattle.node_config.specs.declared.keeper.KeeperConfig.{KeeperConfig}
use Rattle.node_config.specs.declared.fault.ConfigFault.{ConfigFault}
use Rattle.node_config.specs.Document.{IsRefused}
use Rattle.node_config.specs.Keeper.{SaysOfKeeper}
use Rattle.node_config.specs.Naming.{fault_name}
use Rattle.bnc_keep.specs.declared.ending.KeeperEnd.{KeeperEnd}
use Rattle.bnc_keep.specs.declared.ending.KeeperEnd.TheVariants.{Usage, NoMemory}
use Rattle.bnc_keep.specs.declared.fault.KeepFault.{KeepFault}
use Rattle.bnc_keep.specs.Status.{end_of_file, end_of_config, end_of_keeping}

-- what reading a file gives, and what keeping the history gives
abbrev pub FileRead : Type 0
FileRead = Result (Vec ℕ Global) Error

abbrev pub Keeping : Type 0
Keeping = Result (Unit {0}) KeepFault

-- A configuration of these bytes is refused for that fault: the end has the name of the entry that the fault is in, or
-- there was no memory for it.
abbrev pub IsEndOfConfig : List ℕ → ConfigFault → KeeperEnd → Type 0
IsEndOfConfig bytes fault end =
    (end ≡ end_of_config fault (fault_name bytes fault)) ⊎ (end ≡ NoMemory)

-- the configuration is refused for a fault of these bytes
pub record EndsByConfig (bytes : List ℕ) (end : KeeperEnd) : Type 0 where
  pub fault : ConfigFault
  pub refused : IsRefused bytes fault
  pub told : IsEndOfConfig bytes fault end

-- The configuration that the file says, or the end where there is none.
abbrev pub IsConfigOf : Bor (List ℕ) → FileRead → Result KeeperConfig KeeperEnd → Type 0
IsConfigOf path (Err error) result = result ≡ Err (end_of_file path (error_kind error))
IsConfigOf path (Ok bytes) (Ok config) = SaysOfKeeper bytes.items config
IsConfigOf path (Ok bytes) (Err end) = EndsByConfig bytes.items end

-- How the program ends once nothing is kept any more in that file.
abbrev pub IsEndOfKeeping : Keeping → List ℕ → Result (Unit {0}) KeeperEnd → Type 0
IsEndOfKeeping (Ok _) file result = result ≡ Ok tt
IsEndOfKeeping (Err fault) file result = result ≡ Err (end_of_keeping fault file)

-- The file was read, and there is no configuration in it.
pub record EndsUnkept (reads : FileRead → Type 0) (path : Bor (List ℕ))
    (result : Result (Unit {0}) KeeperEnd) : Type 0 where
  pub read : FileRead
  pub end : KeeperEnd
  pub given : reads read
  pub unread : IsConfigOf path read (Err end)
  pub told : result ≡ Err end

-- The file was read, and the history was kept by the configuration that it says.
pub record EndsKept (reads : FileRead → Type 0) (keeps : KeeperConfig → Keeping → Type 0)
    (path : Bor (List ℕ)) (result : Result (Unit {0}) KeeperEnd) : Type 0 where
  pub read : FileRead
  pub config : KeeperConfig
  pub keeping : Keeping
  pub given : reads read
  pub said : IsConfigOf path read (Ok config)
  pub kept : keeps config keeping
  pub told : IsEndOfKeeping keeping config.file result

abbrev pub Keeps : (FileRead → Type 0) → (KeeperConfig → Keeping → Type 0) → Bor (List ℕ)
    → Result (Unit {0}) KeeperEnd → Type 0
Keeps reads keeps path result = EndsUnkept reads path result ⊎ EndsKept reads keeps path result

-- The same, of the path's text.
pub record KeepsPath (reads : List ℕ → FileRead → Type 0) (keeps : KeeperConfig → Keeping → Type 0)
    (path : List ℕ) (result : Result (Unit {0}) KeeperEnd) : Type 0 where
  pub named : Bor (List ℕ)
  pub is_named : named.now ≡ path
  pub ends : Keeps (reads path) keeps named result

abbrev pub EndsAs : (List ℕ → FileRead → Type 0) → (KeeperConfig → Keeping → Type 0)
    → Option (List ℕ) → Result (Unit {0}) KeeperEnd → Type 0
EndsAs reads keeps None result = result ≡ Err Usage
EndsAs reads keeps (Some path) result = KeepsPath reads keeps path result
