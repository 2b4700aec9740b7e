use Rattle.std.proofs.Common.{ℕ, List, ap, ◌∙◌}
use Rattle.std.specs.BTreeMap.{is_at}
use Rattle.std.specs.Map.{lookup}
use Rattle.std.specs.Ordering.{nat_cmp}
use Rattle.node_peers.specs.Seat.{Seat}
use Rattle.node_peers.proofs.TableLemmas.{other-removed}
use Rattle.node_peers.proofs.peers.Peers.begin.Goals as goal

pub returns-in-PeerCame : goal.returns-in-PeerCame
returns-in-PeerCame g c = λ n seat d there is.
    c.let_in.ensures n seat d (ap (λ (l : List (ℕ × Seat)). lookup (is_at (nat_cmp n)) l) c.close.ensures.seats ∙ other-removed n c.args.number d c.args.self.now.seats ∙ there) is

pub returns-in-PeerDialed : goal.returns-in-PeerDialed
returns-in-PeerDialed g c = λ n seat d there is.
    c.reach.ensures n seat d (ap (λ (l : List (ℕ × Seat)). lookup (is_at (nat_cmp n)) l) c.close.ensures.seats ∙ other-removed n c.args.number d c.args.self.now.seats ∙ there) is

pub returns-in-ClientCame : goal.returns-in-ClientCame
returns-in-ClientCame g c = λ n seat d there is.
    ap (λ (l : List (ℕ × Seat)). lookup (is_at (nat_cmp n)) l) c.close.ensures.seats ∙ other-removed n c.args.number d c.args.self.now.seats ∙ there
