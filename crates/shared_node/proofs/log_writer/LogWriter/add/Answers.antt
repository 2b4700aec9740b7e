use Rattle.std.proofs.Common.{List, [], ◌∷◌, ◌++◌, length, drop, ap, sym, ◌∙◌}
use Rattle.shared_node.specs.declared.entry.LogEntry.{LogEntry}
use Rattle.shared_node.specs.Versions.{latest}
use Rattle.shared_node.proofs.PrefixLemmas.{prefix_append, prefix_rest-more}
use Rattle.shared_node.proofs.VersionLemmas.{latest-one}
use Rattle.shared_node.proofs.log_writer.LogWriter.add.Goals as goal

pub invariant_of-self-2 : goal.invariant_of-self-2
invariant_of-self-2 g c =
    let shown : List LogEntry = c.self.inside.writer.desk.shown.value in
    let pending : List (List LogEntry) = drop c.unstick.new.writer.behind c.unstick.new.writer.log.items in
    let last = ap (latest shown) c.queue.ensures.waiting ∙ latest-one shown pending c.new-op.result ∙ c.new-op.ensures ∙ c.again.ensures ∙ c.list.ensures in
    rw (c.queue.ensures.published, c.unstick.ensures.published) (rw c.add.ensures (prefix_append shown c.self.inside.history _ c.self.invariant.0), sym last)

pub returns-clause-waiting : goal.returns-clause-waiting
returns-clause-waiting g c =
    let shown : List LogEntry = c.self.inside.writer.desk.shown.value in
    let entry : LogEntry = record { by = c.args.by; change = c.in_ok-change.change } in
    let cloned = c.in_ok-change.ensures in
    ap (λ d. drop (length d.shown.value) c.add.new.self) (c.queue.ensures.published ∙ c.unstick.ensures.published)
    ∙ ap (drop (length shown)) c.add.ensures
    ∙ prefix_rest-more shown c.self.inside.history (entry ∷ []) c.self.invariant.0
    ∙ ap (λ l. l.waiting ++ entry ∷ []) c.self.view_is
    ∙ (λ i. c.args.self.now.waiting ++ record { by = c.args.by; change = cloned i } ∷ [])
