use Rattle.std.proofs.Common.{sym, subst}
use Rattle.cluster_directory.specs.Directory.{Directory}
use Rattle.network_log.specs.Truth.{AtStart, IsDirectory}
use Rattle.hosted_network.proofs.parts.NetworkParts.newcomer_hears.Goals as goal

pub hear-requires-clause-directory : goal.hear-requires-clause-directory
hear-requires-clause-directory g c =
    ∣ subst (λ (d : Directory). IsDirectory g.C.Connection.facts d) (sym c.requires.accounts) AtStart ∣₁
