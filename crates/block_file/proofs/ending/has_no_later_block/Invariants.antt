use Rattle.std.proofs.Common.{length}
use Rattle.block_file.specs.Ending.{HasNoLaterBlock}
use Rattle.block_file.proofs.ending.has_no_later_block.Given as goal

abbrev pub invariant-loop-byte : goal.invariant-loop-byte
invariant-loop-byte l = record {
  none : HasNoLaterBlock l.rest → HasNoLaterBlock l.bytes;
  some : HasNoLaterBlock l.bytes → HasNoLaterBlock l.rest;
}

abbrev pub decreases-loop-byte : goal.decreases-loop-byte
decreases-loop-byte l = length l.rest
