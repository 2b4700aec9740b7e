use Rattle.hosted_network.proofs.LogLemmas.{reached_both, then_both}
use Rattle.hosted_network.proofs.parts.NetworkParts.server_lines.Goals as goal

pub server_line-step-requires-clause-reached : goal.server_line-step-requires-clause-reached
server_line-step-requires-clause-reached g c = reached_both c.requires.reached c.loop.invariant

pub returns-then-ne : goal.returns-then-ne
returns-then-ne g c = then_both c.loop.invariant c.server_line-step.ensures

pub loop-preserved : goal.loop-preserved
loop-preserved g c = then_both c.loop.invariant c.server_line-step.ensures
