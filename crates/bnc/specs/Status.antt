-- How the program ends before its work is done, by the fault that ends it, and the status of each end. 0 is for done.
use Rattle.std.specs.Prelude.{ℕ, List, Option}
use Rattle.std.specs.Borrow.{Bor}
use Rattle.std.specs.declared.io.ErrorKind.{ErrorKind}
use Rattle.std.specs.declared.io.ErrorKind.TheVariants as kind_case
use Rattle.bnc.specs.declared.ending.End.{End}
use Rattle.bnc.specs.declared.ending.End.TheVariants.{Usage, NoMemory, Device, File, Node, Config}
use Rattle.node_events.specs.declared.serve_fault.ServeFault.{ServeFault}
use Rattle.node_events.specs.declared.serve_fault.ServeFault.TheVariants as serve_case
use Rattle.bnc_server.specs.declared.fault.ReplayFault.{ReplayFault}
use Rattle.bnc_server.specs.declared.fault.ReplayFault.TheVariants as replay_case
use Rattle.chat_change.specs.declared.faults.ChangeFault.{ChangeFault}
use Rattle.chat_change.specs.declared.faults.ChangeFault.TheVariants as change_case
use Rattle.node_config.specs.declared.fault.ConfigFault.{ConfigFault}
use Rattle.node_config.specs.declared.fault.ConfigFault.TheVariants as config_case

abbrev pub status_of : End → ℕ
status_of Usage = 2
status_of NoMemory = 3
status_of (Config _) = 5
status_of _ = 4

-- where the words can't be had: one that isn't text is no command
abbrev pub end_of_words : ErrorKind → End
end_of_words kind_case.OutOfMemory = NoMemory
end_of_words _ = Usage

-- where the names are refused
abbrev pub end_of_names : ChangeFault → End
end_of_names change_case.NoMemory = NoMemory
end_of_names _ = Usage

-- where a script isn't answered to its end
abbrev pub end_of_replay : ReplayFault → End
end_of_replay replay_case.NoMemory = NoMemory
end_of_replay _ = Device

-- where the file of the configuration can't be read: the texts name the file and say why
abbrev pub end_of_file : Bor (List ℕ) → ErrorKind → End
end_of_file path kind_case.OutOfMemory = NoMemory
end_of_file path kind = File path kind

-- where the configuration is refused: the text says what is wrong, in an entry of that name
abbrev pub end_of_config : ConfigFault → Option (List ℕ) → End
end_of_config config_case.NoMemory name = NoMemory
end_of_config fault name = Config (record { fault = fault; name = name })

-- where a node can't begin: the text says why
abbrev pub end_of_fault : ServeFault → End
end_of_fault serve_case.NoMemory = NoMemory
end_of_fault fault = Node fault
