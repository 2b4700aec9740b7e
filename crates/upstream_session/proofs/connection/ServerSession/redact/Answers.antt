use Rattle.std.proofs.Common.{arith}
use Rattle.std.proofs.lemmas.Grind.{common_steps}
use Rattle.upstream_session.proofs.connection.ServerSession.redact.Goals as goal

pub bounds-target-0 : goal.bounds-target-0
bounds-target-0 c = omega arith

pub bounds-id-1 : goal.bounds-id-1
bounds-id-1 c = omega arith

pub slice_bounds-relay_redaction-end : goal.slice_bounds-relay_redaction-end
slice_bounds-relay_redaction-end c = omega arith

pub slice_bounds-relay_redaction-end-then-takes_redact : goal.slice_bounds-relay_redaction-end-then-takes_redact
slice_bounds-relay_redaction-end-then-takes_redact c = omega arith

pub returns-then-takes_redact : goal.returns-then-takes_redact
returns-then-takes_redact c = grind (arith, common_steps)

pub returns-else-is_up : goal.returns-else-is_up
returns-else-is_up c = grind (arith, common_steps)
