use Rattle.std.proofs.Common.{rules, tests, ◌∙◌}
use Rattle.std.proofs.lemmas.Iterator.Consumers.{YieldsList-at, YieldsList-from_filter, YieldsList-from_rest, count_from_yields_List}
use Rattle.std.proofs.lemmas.List.Sums.{length-filter}
use Rattle.std.specs.BTreeMap as tree
use Rattle.node_peers.specs.Seat.{is_waiting}
use Rattle.node_peers.proofs.peers.Peers.waiting.Goals as goal

pub returns-clause-count : goal.returns-clause-count
returns-clause-count g c =
    rw (← c.self.view_is) (count_from_yields_List c.filter.result _ c.count.ensures.ran
    (YieldsList-from_filter _ is_waiting (YieldsList-at c.filter.ensures.source (YieldsList-from_rest (tree.values c.self.inside.entries) c.values.ensures.rest))
    c.filter.ensures.closure (λ x r q k. search (rules, tests))) ∙ length-filter is_waiting (tree.values c.self.inside.entries))
