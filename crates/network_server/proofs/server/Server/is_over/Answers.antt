use Rattle.std.proofs.Common.{◌≡◌, ◌≤◌, ◌+◌, ℕ, Option, None, Some, IfSome, sym, ap, ◌∙◌, subst, arith}
use Rattle.network_server.specs.ServerState.{ServerState, MayEnd, IsOver, IsLost, IsSilent}
use Rattle.network_server.specs.declared.server.ServerLoss.{ServerLoss}
use Rattle.network_server.specs.declared.server.TheConstants.{QUIET}
use Rattle.network_server.proofs.server.Server.is_over.Goals as goal

if-lost : (s : ServerState) (now : ℕ) (loss : Option ServerLoss) → s.loss ≡ loss → IfSome loss (λ why. MayEnd s now why)
if-lost s now None e = tt
if-lost s now (Some why) e = IsLost why e

pub returns-then-is_sent-clause-some : goal.returns-then-is_sent-clause-some
returns-then-is_sent-clause-some g c =
    IsOver (ap (λ (s : ServerState). s.host.session.is_closed) (sym c.self.view_is) ∙ c.self.invariant.1 ∙ c.if-self.true)

pub returns-then-is_some-clause-some : goal.returns-then-is_some-clause-some
returns-then-is_some-clause-some g c = if-lost c.args.self.now c.args.now c.self.inside.loss (ap (λ (s : ServerState). s.loss) (sym c.self.view_is))

pub returns-then-saturating_sub-ge-QUIET-clause-some : goal.returns-then-saturating_sub-ge-QUIET-clause-some
returns-then-saturating_sub-ge-QUIET-clause-some g c =
    let e = c.saturating_sub.ensures in
    let long = c.if-saturating_sub-ge-QUIET.true in
    let since : c.self.inside.heard_at + QUIET ≤ c.args.now = omega (arith, e, long) in
    IsSilent (subst (λ (s : ServerState). s.heard_at + QUIET ≤ c.args.now) c.self.view_is since)
