-- What is told where a part of a node can't begin: the part's own fault, by the same name.
use Rattle.attach.specs.declared.places.PlacesFault.{PlacesFault}
use Rattle.attach.specs.declared.places.PlacesFault.TheVariants as places_case
use Rattle.node_events.specs.declared.serve_fault.ServeFault.{ServeFault}
use Rattle.node_events.specs.declared.serve_fault.ServeFault.TheVariants.{NoMemory, NoThread, BadCount}
use Rattle.node_events.specs.declared.threads.StartFault.{StartFault}
use Rattle.node_events.specs.declared.threads.StartFault.TheVariants as start_case

-- where the places of clients can't be made
abbrev pub fault_of_places : PlacesFault → ServeFault
fault_of_places places_case.BadCount = BadCount
fault_of_places places_case.NoMemory = NoMemory

-- where the workers can't begin
abbrev pub fault_of_start : StartFault → ServeFault
fault_of_start start_case.NoMemory = NoMemory
fault_of_start start_case.NoThread = NoThread
