use Rattle.std.proofs.Common.{sym, subst, ap, ◌∙◌}
use Rattle.cluster_directory.specs.Directory.{Directory}
use Rattle.network_log.specs.Truth.{AtStart, IsDirectory}
use Rattle.bnc_work.proofs.worker.Worker.hear_outside.Goals as goal

-- the accounts are those of the node
pub hear-requires-clause-directory : goal.hear-requires-clause-directory
hear-requires-clause-directory g c =
    ∣ subst
    (λ (d : Directory). IsDirectory g.C.Connection.facts d)
    (sym (c.directory-accounts.ensures ∙ ap (λ a. a.directory) c.args.self.now.are_own.are_accounts))
    AtStart ∣₁
