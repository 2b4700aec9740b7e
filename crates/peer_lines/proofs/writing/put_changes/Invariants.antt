use Rattle.std.proofs.Common.{map, take}
use Rattle.std.specs.List.{flat_map}
use Rattle.std.specs.Io.KnownBytes.{Appends}
use Rattle.peer_lines.specs.Spelling.{written}
use Rattle.peer_lines.specs.declared.peer_line.PeerLine.TheVariants.{Change}
use Rattle.peer_lines.proofs.writing.put_changes.Given as goal

abbrev pub invariant-loop-change : goal.invariant-loop-change
invariant-loop-change g l = Appends (g.W.Write.contents l.fn.writer) (g.W.Write.contents l.writer) (flat_map written (map (λ c. Change c) (take l.change-index l.changes)))
