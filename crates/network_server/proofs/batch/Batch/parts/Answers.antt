use Rattle.std.proofs.Common.{List, length, sym, ap, ◌∙◌}
use Rattle.network_log.specs.NetworkState.{changes_of}
use Rattle.network_server.specs.Entries.{entries, posted_count}
use Rattle.network_server.specs.declared.batch.BatchPart.{BatchPart}
use Rattle.network_server.proofs.BatchLemmas.{changes-in}
use Rattle.network_server.proofs.batch.Batch.parts.Goals as goal

pub returns-clause-entries : goal.returns-clause-entries
returns-clause-entries c =
    let parts = c.self.inside.parts.items in
    ap (λ (p : List BatchPart). entries p (changes_of c.args.self.now)) c.as_slice.ensures.value
    ∙ ap (entries parts) (ap changes_of (sym c.self.view_is) ∙ changes-in parts c.self.inside.changes.items c.self.invariant) ∙ c.self.view_is

pub returns-clause-agree : goal.returns-clause-agree
returns-clause-agree c =
    let parts = c.self.inside.parts.items in
    ap posted_count c.as_slice.ensures.value ∙ c.self.invariant
    ∙ ap length (sym (changes-in parts c.self.inside.changes.items c.self.invariant) ∙ ap changes_of c.self.view_is)
