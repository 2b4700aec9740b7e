use Rattle.std.proofs.Common.{subst, sym}
use mathlib.Core.List.{IsPrefix}
use Rattle.worker_pass.proofs.PassLemmas.{seen_again}
use Rattle.worker_pass.proofs.view.WorkerView.catch_up.Goals as goal

pub returns-clause-seen : goal.returns-clause-seen
returns-clause-seen g c =
    let seen = c.args.self.now.seen in
    seen_again g.C.Connection.facts seen c.receipt.result (subst (λ l. IsPrefix seen l) (sym c.receipt.ensures) c.requires) c.is_held.ensures
