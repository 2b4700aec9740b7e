use Rattle.std.proofs.Common.{◌∙◌, sym}
use Rattle.node_ports.proofs.PlaceLemmas.{are-logins, no-network}
use Rattle.node_ports.proofs.accounts.Accounts.login.Goals as goal

pub returns-clause-some : goal.returns-clause-some
returns-clause-some c =
    are-logins c.args.self.now c.args.account.now c.args.network.now c.args.secret.now _ c.entry_by_secret-entry.result c.place_of.result
    c.directory.ensures c.entry_by_secret-entry.ensures c.if-is_none.ensures c.place_of.ensures

pub returns-clause-none : goal.returns-clause-none
returns-clause-none c none place k = no-network place (sym c.place_of.ensures ∙ none) k
