use Rattle.std.proofs.Common.{◌<◌, ℕ, List, length, subst, sym}
use Rattle.node_ports.proofs.UnreadLemmas.{all_fed, fed_on}
use Rattle.node_ports.proofs.input.feed_rest.Goals as goal

pub returns-clause-left : goal.returns-clause-left
returns-clause-left c = fed_on _ _ _ _ _ c.feed-count.result c.as_bytes.ensures c.feed-count.ensures.taken c.take.ensures

pub returns-clause-all : goal.returns-clause-all
returns-clause-all c =
    all_fed c.feed-count.new.self c.feed-count.result c.args.rest.now c.take.ensures
    (λ short. c.feed-count.ensures.full (subst (λ (l : List ℕ). c.feed-count.result < length l) (sym c.as_bytes.ensures) short))
