use Rattle.std.proofs.Common.{arith}
use Rattle.std.proofs.lemmas.Grind.{common_steps}
use Rattle.upstream_session.proofs.connection.ServerSession.cap.Goals as goal

pub bounds-parameters-1 : goal.bounds-parameters-1
bounds-parameters-1 c = omega arith

pub slice_bounds-more-start : goal.slice_bounds-more-start
slice_bounds-more-start c = omega arith

pub slice_bounds-more-end : goal.slice_bounds-more-end
slice_bounds-more-end c = omega arith

pub returns-then-eq_ignore_ascii_case-clause-ok : goal.returns-then-eq_ignore_ascii_case-clause-ok
returns-then-eq_ignore_ascii_case-clause-ok c = grind (arith, common_steps)

pub returns-then-eq_ignore_ascii_case-2-clause-ok : goal.returns-then-eq_ignore_ascii_case-2-clause-ok
returns-then-eq_ignore_ascii_case-2-clause-ok c = grind (arith, common_steps)

pub returns-then-eq_ignore_ascii_case-3-clause-ok : goal.returns-then-eq_ignore_ascii_case-3-clause-ok
returns-then-eq_ignore_ascii_case-3-clause-ok c = grind (arith, common_steps)
