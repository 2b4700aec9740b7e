-- A link: one node's side towards one peer.
use Rattle.std.specs.Prelude.{List, ℕ}
use Rattle.cluster_directory.specs.Life.{Life}
use Rattle.cluster_directory.specs.declared.fault.LinkFault.{LinkFault}
use Rattle.cluster_directory.specs.declared.fault.LinkFault.TheVariants as fault
use Rattle.chat_history.specs.declared.delta.DeltaFault.{DeltaFault}
use Rattle.chat_history.specs.declared.delta.DeltaFault.TheVariants as delta_fault
use Rattle.gossip_link.specs.Peer.{Peer}

pub record Link : Type 0 where
  pub me : Life
  pub name : List ℕ  -- the peer's
  pub peer : Peer  -- what is known of it

-- what a link says where its source gave no delta
abbrev pub fault_of : DeltaFault → LinkFault
fault_of delta_fault.NoEntry = fault.NoEntry
fault_of delta_fault.NoMemory = fault.NoMemory
