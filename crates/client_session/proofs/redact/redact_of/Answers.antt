use Rattle.std.proofs.Common.{arith}
use Rattle.std.proofs.lemmas.Grind.{common_steps}
use Rattle.client_session.proofs.redact.redact_of.Goals as goal

pub bounds-parameters-0 : goal.bounds-parameters-0
bounds-parameters-0 c = omega arith

pub bounds-parameters-1 : goal.bounds-parameters-1
bounds-parameters-1 c = omega arith

pub slice_bounds-rest-start : goal.slice_bounds-rest-start
slice_bounds-rest-start c = omega arith

pub slice_bounds-rest-end : goal.slice_bounds-rest-end
slice_bounds-rest-end c = omega arith

pub returns-in_ok-text-in_default : goal.returns-in_ok-text-in_default
returns-in_ok-text-in_default c = grind (arith, common_steps)

pub returns-in-len2-up : goal.returns-in-len2-up
returns-in-len2-up c = grind (arith, common_steps)
