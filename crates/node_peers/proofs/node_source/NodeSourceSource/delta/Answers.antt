use Rattle.node_peers.proofs.TalkLemmas.{given-so}
use Rattle.node_peers.proofs.node_source.NodeSourceSource.delta.Goals as goal

pub returns-clause-given : goal.returns-clause-given
returns-clause-given g c =
    given-so g.N.Connection.Connection.facts (g.N.NodePass.seen c.args.self.now.pass.now) (g.N.NodePass.seen c.delta.new.self) c.args.from c.delta.result
    c.delta.ensures.delta c.delta.ensures.seen c.delta.ensures.held
