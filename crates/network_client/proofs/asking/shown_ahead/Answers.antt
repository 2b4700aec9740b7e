use Rattle.std.proofs.Common.{sym}
use Rattle.network_client.proofs.StepLemmas.{sought_so}
use Rattle.network_client.proofs.asking.shown_ahead.Goals as goal

pub returns-in-Ok-clause-shown : goal.returns-in-Ok-clause-shown
returns-in-Ok-clause-shown g c =
    ∣ sought_so _ c.in-Ok.shown c.args.session.now c.args.input.now.ahead c.in-Some.bytes.now _ _ (sym c.in-Some.ensures) c.in_ok-buffer.ensures c.in-Some-2.is c.in-Ok.ensures.shown ∣₁
