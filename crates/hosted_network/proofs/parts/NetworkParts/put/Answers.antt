use Rattle.hosted_network.proofs.PuttingLemmas.{all_put, first_put}
use Rattle.hosted_network.proofs.parts.NetworkParts.put.Goals as goal

pub returns-clause-put : goal.returns-clause-put
returns-clause-put g c =
    all_put g.C.Connection.facts c.args.changes.now (g.V.NetworkView.held c.put.new.view) c.put.result c.self.view_is c.put.ensures.place c.put.ensures.all
    c.put.ensures.published c.put.ensures.put

pub returns-clause-part : goal.returns-clause-part
returns-clause-part g c =
    first_put g.C.Connection.facts c.args.changes.now (g.V.NetworkView.held c.put.new.view) c.put.result c.self.view_is c.put.ensures.place c.put.ensures.first
    c.put.ensures.seen c.put.ensures.put
