use Rattle.std.proofs.Common.{◌≡◌, List, [], ◌++◌, length, drop, ap, sym, ◌∙◌}
use Rattle.std.proofs.lemmas.List.{append-nil}
use Rattle.shared_node.specs.declared.entry.LogEntry.{LogEntry}
use Rattle.shared_node.specs.Log.{all_put, log_value}
use Rattle.shared_node.specs.Versions.{held, latest}
use Rattle.shared_node.proofs.PrefixLemmas.{prefix_rest, rest_none}
use Rattle.shared_node.proofs.VersionLemmas.{all_pending}
use Rattle.shared_node.proofs.log_writer.LogWriter.publish_once.Goals as goal

pub invariant_of-self-2 : goal.invariant_of-self-2
invariant_of-self-2 g c =
    let list : List LogEntry = c.self.inside.history in
    let shown : List LogEntry = c.self.inside.writer.desk.shown.value in
    let next : List LogEntry = c.replace_with-published.new.dest.desk.shown.value in
    let waits : List (List LogEntry) = drop c.self.inside.writer.behind c.self.inside.writer.log.items ++ held c.self.inside.stuck in
    let pending : List (List LogEntry) = drop c.unstick.new.writer.behind c.unstick.new.writer.log.items in
    let all = all_pending pending waits c.unstick.new.stuck c.if-not-unstick.ensures.moved c.unstick.ensures.waiting in
    let is : next ≡ list =
    c.in-Ok.ensures.0 ∙ ap (λ d. latest d.shown.value pending) c.unstick.ensures.published ∙ ap (latest shown) all ∙ sym c.self.invariant.1 in
    (([], append-nil next ∙ is), rw (c.in-Ok.ensures.1, c.if-not-unstick.ensures.moved) (sym is))

pub returns : goal.returns
returns g c =
    let list : List LogEntry = c.self.inside.history in
    let shown : List LogEntry = c.self.inside.writer.desk.shown.value in
    let next : List LogEntry = c.replace_with-published.new.dest.desk.shown.value in
    let waits : List (List LogEntry) = drop c.self.inside.writer.behind c.self.inside.writer.log.items ++ held c.self.inside.stuck in
    let pending : List (List LogEntry) = drop c.unstick.new.writer.behind c.unstick.new.writer.log.items in
    let all = all_pending pending waits c.unstick.new.stuck c.if-not-unstick.ensures.moved c.unstick.ensures.waiting in
    let is : next ≡ list =
    c.in-Ok.ensures.0 ∙ ap (λ d. latest d.shown.value pending) c.unstick.ensures.published ∙ ap (latest shown) all ∙ sym c.self.invariant.1 in
    let shows : next ≡ all_put c.args.self.now = is ∙ sym (prefix_rest shown list c.self.invariant.0) ∙ ap all_put c.self.view_is in
    let rest : drop (length next) list ≡ [] = ap (λ (l : List LogEntry). drop (length l) list) is ∙ rest_none list in
    λ i. log_value (shows i) (rest i)
