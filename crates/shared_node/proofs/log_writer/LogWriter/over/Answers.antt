use Rattle.std.proofs.Common.{List, ◌++◌, length, drop, ap, sym, ◌∙◌}
use Rattle.shared_node.specs.declared.entry.LogEntry.{LogEntry}
use Rattle.shared_node.specs.Log.{log_value}
use Rattle.shared_node.proofs.log_writer.LogWriter.over.Goals as goal

pub invariant_of-result : goal.invariant_of-result
invariant_of-result g c = (
  (c.args.history, ap (λ (l : List LogEntry). l ++ c.args.history) c.requires.writer.0),
  rw c.requires.writer.1 (c.requires.history ∙ sym c.requires.writer.0),
)

pub returns : goal.returns
returns g c =
    λ i. log_value (c.requires.writer.0 i) (drop (length (c.requires.writer.0 i)) (c.requires.history i))
