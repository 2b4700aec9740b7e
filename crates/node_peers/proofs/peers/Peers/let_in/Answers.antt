use Rattle.std.proofs.Common.{ap, ◌∙◌}
use Rattle.node_peers.specs.PeersState.{PeersState, seat_at}
use Rattle.node_peers.proofs.TableLemmas.{kept-so}
use Rattle.node_peers.proofs.peers.Peers.let_in.Goals as goal

pub returns-in_default : goal.returns-in_default
returns-in_default g c = λ n seat d there is.
    c.accept.ensures n d ∙ kept-so c.args.self.now c.make_way.new.self n seat c.make_way.ensures.spared c.make_way.ensures.oldest there is

pub returns-in-Err : goal.returns-in-Err
returns-in-Err g c = λ n seat d there is.
    ap (λ (s : PeersState). seat_at s n) c.tell_refused.ensures ∙ c.accept.ensures n d
    ∙ kept-so c.args.self.now c.make_way.new.self n seat c.make_way.ensures.spared c.make_way.ensures.oldest there is
