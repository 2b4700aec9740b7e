use Rattle.std.proofs.Common.{rules}
use Rattle.std.specs.List.{All}
use Rattle.node_peers.proofs.TableLemmas.{IsNotAs, not-connected}
use Rattle.node_peers.proofs.peers.Peers.miss.Goals as goal

pub returns-then-is_none-clause-connected : goal.returns-then-is_none-clause-connected
returns-then-is_none-clause-connected g c =
    let none : All (IsNotAs c.args.place) c.args.self.now.seats = search rules in
    λ k. absurd (not-connected c.args.self.now c.args.place none k)
