use Rattle.hosted_network.proofs.WrittenLemmas.{IsWrittenTo}
use Rattle.hosted_network.proofs.told.Told.write.Given as goal

abbrev pub invariant-loop-part : goal.invariant-loop-part
invariant-loop-part l =
    IsWrittenTo l.part-index l.part-items l.writing l.room.items l.fn.room.items l.self.mark l.facts l.nick l.self.changes.now
