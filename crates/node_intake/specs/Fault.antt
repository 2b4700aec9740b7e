-- What is told where what the node holds can't be shared among its workers: the same fault, by the same name.
use Rattle.node_events.specs.declared.serve_fault.ServeFault.{ServeFault}
use Rattle.node_events.specs.declared.serve_fault.ServeFault.TheVariants.{NoMemory, BadCount, NoReader}
use Rattle.shared_node.specs.declared.faults.NodeFault.{NodeFault}
use Rattle.shared_node.specs.declared.faults.NodeFault.TheVariants as node_case

abbrev pub fault_of_node : NodeFault → ServeFault
fault_of_node node_case.BadCount = BadCount
fault_of_node node_case.NoMemory = NoMemory
fault_of_node node_case.NoReader = NoReader
