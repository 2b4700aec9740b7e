use Rattle.std.proofs.Common.{◌≤◌, length, take, sym, arith}
use Rattle.std.proofs.lemmas.List.{take_all, length-take}
use Rattle.upstream_session.proofs.refusal.beginning.Goals as goal

pub slice_bounds-result-end : goal.slice_bounds-result-end
slice_bounds-result-end c = omega (arith, length-take 200 c.args.text.now)

pub returns-then-text-le-MOST_WORDS-clause-taken : goal.returns-then-text-le-MOST_WORDS-clause-taken
returns-then-text-le-MOST_WORDS-clause-taken c = sym (take_all 200 c.args.text.now (omega arith))

pub returns-else-text-le-MOST_WORDS-clause-short : goal.returns-else-text-le-MOST_WORDS-clause-short
returns-else-text-le-MOST_WORDS-clause-short c =
    let few : length (take 200 c.args.text.now) ≤ 200 = omega (arith, length-take 200 c.args.text.now) in
    few
