use Rattle.std.proofs.Common.{◌≡◌, subst}
use Rattle.upstream_session.specs.Command.{command_of}
use Rattle.upstream_session.specs.Refusal.{Session}
use Rattle.upstream_session.specs.Rows.{serve}
use Rattle.upstream_session.specs.Step.{ServerStep}
use Rattle.upstream_session.proofs.upstream.Upstream.hear.Goals as goal

-- src/upstream.rt: what the session and the effects are
pub returns-clause-step : goal.returns-clause-step
returns-clause-step c =
    subst (λ (s : Session). ◌≡◌ {A = ServerStep} record { session = c.serve.new.self; effects = c.in_ok-effects.effects.items }
    (serve s.connection c.args.heard.now.at c.args.heard.now.bytes.now c.args.heard.now.line.now (command_of c.args.heard.now.line.now.command)))
    c.self.view_is c.in_ok-effects.ensures.ok
