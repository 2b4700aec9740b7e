use Rattle.std.proofs.Common.{arith, sym}
use Rattle.ordered_maps.proofs.KeyLemmas.{above}
use Rattle.ordered_maps.proofs.keys.order.Goals as goal

pub returns-in-Less : goal.returns-in-Less
returns-in-Less g c = sym (g.met.K.Prefixed.ascends c.args.key.now (g.Q.Lookup.key c.args.sought.now) (grind arith))

pub returns-in-Greater : goal.returns-in-Greater
returns-in-Greater g c = sym (above g.met.K.Ord.total g.K.Prefixed.prefix_of g.met.K.Prefixed.ascends c.args.key.now (g.Q.Lookup.key c.args.sought.now) (grind arith))
