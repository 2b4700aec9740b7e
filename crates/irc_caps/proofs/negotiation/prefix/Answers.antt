use Rattle.std.proofs.Common.{sym, arith}
use Rattle.std.proofs.lemmas.List.{take_all, length-take}
use Rattle.irc_caps.proofs.negotiation.prefix.Goals as goal

pub slice_bounds-result-end : goal.slice_bounds-result-end
slice_bounds-result-end c = omega (arith, length-take 200 c.args.list.now)

pub returns-then-list-le-LIST_LIMIT : goal.returns-then-list-le-LIST_LIMIT
returns-then-list-le-LIST_LIMIT c = sym (take_all 200 c.args.list.now (omega arith))
