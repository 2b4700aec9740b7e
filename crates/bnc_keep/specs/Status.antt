-- How the program ends, by the fault that ends it, and the status of each end.
use Rattle.std.specs.Prelude.{ℕ, List, Option}
use Rattle.std.specs.Borrow.{Bor}
use Rattle.std.specs.declared.io.ErrorKind.{ErrorKind}
use Rattle.std.specs.declared.io.ErrorKind.TheVariants as kind_case
use Rattle.node_config.specs.declared.fault.ConfigFault.{ConfigFault}
use Rattle.node_config.specs.declared.fault.ConfigFault.TheVariants as config_case
use Rattle.bnc_keep.specs.declared.ending.KeeperEnd.{KeeperEnd}
use Rattle.bnc_keep.specs.declared.ending.KeeperEnd.TheVariants.{Usage, NoMemory, File, Config, Keep}
use Rattle.bnc_keep.specs.declared.fault.KeepFault.{KeepFault}
use Rattle.bnc_keep.specs.declared.fault.KeepFault.TheVariants as keep_case

abbrev pub status_of : KeeperEnd → ℕ
status_of Usage = 2
status_of NoMemory = 3
status_of (File _ _) = 4
status_of (Keep _ _) = 4
status_of (Config _) = 5

-- where the words can't be had: one that isn't text is no path
abbrev pub end_of_words : ErrorKind → KeeperEnd
end_of_words kind_case.OutOfMemory = NoMemory
end_of_words _ = Usage

-- where the file of the configuration can't be read: the texts name the file and say why
abbrev pub end_of_file : Bor (List ℕ) → ErrorKind → KeeperEnd
end_of_file path kind_case.OutOfMemory = NoMemory
end_of_file path kind = File path kind

-- where the configuration is refused: the text says what is wrong, in an entry of that name
abbrev pub end_of_config : ConfigFault → Option (List ℕ) → KeeperEnd
end_of_config config_case.NoMemory name = NoMemory
end_of_config fault name = Config (record { fault = fault; name = name })

-- where nothing can be kept in that file: the text names the file and says why
abbrev pub end_of_keeping : KeepFault → List ℕ → KeeperEnd
end_of_keeping keep_case.NoMemory file = NoMemory
end_of_keeping fault file = Keep file fault
