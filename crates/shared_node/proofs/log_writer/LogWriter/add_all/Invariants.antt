use Rattle.std.proofs.Common.{◌≡◌, ◌++◌, take}
use Rattle.shared_node.specs.Lists.{under}
use Rattle.shared_node.proofs.log_writer.LogWriter.add_all.Given as goal

abbrev pub invariant-loop-change : goal.invariant-loop-change
invariant-loop-change g l =
    (l.added ≡ l.change-index)
    × (l.self.published ≡ l.initial.self.published)
    × (l.self.waiting ≡ l.initial.self.waiting ++ under l.by (take l.change-index l.changes))
