use Rattle.std.proofs.Common.{sym, ap, ◌∙◌}
use Rattle.network_log.specs.NetworkState.{changes_of}
use Rattle.network_server.proofs.BatchLemmas.{changes-in}
use Rattle.network_server.proofs.batch.Batch.changes.Goals as goal

pub returns : goal.returns
returns c = c.as_slice.ensures.value ∙ sym (changes-in c.self.inside.parts.items c.self.inside.changes.items c.self.invariant) ∙ ap changes_of c.self.view_is
