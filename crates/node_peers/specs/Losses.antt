-- Why a connection is closed because of a line.
use Rattle.std.specs.Prelude.{ℕ, Option, None}
use Rattle.gossip_link.specs.declared.heard.Fault.{Fault}
use Rattle.gossip_link.specs.declared.heard.Fault.TheVariants as fault
use Rattle.node_peers.specs.declared.loss.PeerLoss.{PeerLoss}
use Rattle.node_peers.specs.declared.loss.PeerLoss.TheVariants.{BadLine, WrongWord, UnknownNode, OwnName}

-- before a peer said hello, and afterwards
abbrev pub of_line : Option ℕ → Fault → PeerLoss
of_line None fault.WrongWord = WrongWord
of_line None fault.UnknownNode = UnknownNode
of_line None fault.OwnName = OwnName
of_line _ _ = BadLine
