use Rattle.std.proofs.Math.Logic.{∥∥₁_map}
use Rattle.node_ports.specs.Unread.{Bytes}
use Rattle.node_ports.proofs.input.Input.receive.Goals as goal

pub returns-after-feed-clause-received : goal.returns-after-feed-clause-received
returns-after-feed-clause-received g c =
    ∥∥₁_map c.in-Ok.ensures.evidence (λ e. Bytes _ c.in-Ok.ensures.received e)
