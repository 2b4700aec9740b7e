use Rattle.std.proofs.Common.{◌∙◌}
use Rattle.bnc_server.specs.HeldNode.{HeldNode}
use Rattle.bnc_server.proofs.NodeLemmas.{step_is, if_ok, if_err}
use Rattle.bnc_server.proofs.node.Node.step.Goals as goal
use Rattle.bnc_server.proofs.node.Node.step.Goals.{in-Ok, in-Err}

pub returns-clause-step : goal.returns-clause-step
returns-clause-step c =
    let inside : HeldNode = record { life = c.self.inside.life; session = c.self.inside.session; state = c.self.inside.state; links = c.self.inside.links.items; late = c.self.inside.late.items } in
    elim c.match-step.branch [
      | in-Ok w ↦
          if_ok c.match-step.result _ _ w.result-is
          (λ node is.
          step_is c.args.directory.now c.args.text.now w.in-Ok.ensures.step.0 inside c.step.new.peek (record { session = c.step.new.self; effects = w.in-Ok.list.items }) node
          (c.self.view_is ∙ is) w.in-Ok.ensures.step.1 w.in-Ok.ensures.step.2)
      | in-Err w ↦ if_err c.match-step.result _ _ w.result-is
    ]
