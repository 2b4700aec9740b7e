use Rattle.std.proofs.Common.{◌≤◌, ◌<◌, length, arith}
use Rattle.shared_node.proofs.PrefixLemmas.{prefix_shorter}
use Rattle.shared_node.proofs.prefix.Prefix.follows.Goals as goal

pub returns-then-other-self : goal.returns-then-other-self
returns-then-other-self g c =
    let both = c.compare.ensures in
    let less : length c.self.inside.seen.list < length c.other.inside.seen.list = omega (arith, c.self.invariant.0, c.other.invariant.0, c.if-other-self.true) in
    rw (← c.self.view_is, ← c.other.view_is) (prefix_shorter c.self.inside.seen.list c.other.inside.seen.list both.0 both.1 both.2 (omega (arith, less)), less)

pub returns : goal.returns
returns g c =
    let both = c.compare.ensures in
    let less : length c.other.inside.seen.list ≤ length c.self.inside.seen.list = omega (arith, c.self.invariant.0, c.other.invariant.0, c.if-other-self.false) in
    rw (← c.self.view_is, ← c.other.view_is) (prefix_shorter c.other.inside.seen.list c.self.inside.seen.list both.0 both.2 both.1 less)
