use Rattle.std.proofs.Common.{subst, sym}
use Rattle.std.specs.Prelude.{◌↔◌, IsTrue}
use Rattle.chat_history.specs.History.{norm}
use Rattle.chat_history.specs.Lookups.{IsShown}
use Rattle.shared_node.specs.Lists.{changes_in}
use Rattle.worker_pass.proofs.pass.WorkerPassNodePass.shown.Goals as goal

pub returns-clause-shown : goal.returns-clause-shown
returns-clause-shown g c =
    subst (λ l. IsTrue c.in_ok-shown.shown ↔ IsShown (norm (changes_in l)) c.args.buffer.now c.args.id.now)
    (sym c.catch_up.ensures.list) c.in_ok-shown.ensures.shown
