use Rattle.std.proofs.Common.{◌≡◌, ◌≤◌, length}
use Rattle.std.specs.List.{slice_split}
use Rattle.irc_tags.specs.TagList.{is_semicolon}
use Rattle.irc_tags.proofs.ClientTextLemmas.{all_kept}
use Rattle.irc_tags.proofs.client_only.is_kept_part_by_part.Given as goal

abbrev pub invariant-loop-at : goal.invariant-loop-at
invariant-loop-at l = (length l.rest ≤ length l.bytes) × (all_kept (slice_split is_semicolon l.rest) ≡ all_kept (slice_split is_semicolon l.bytes))

abbrev pub decreases-loop-at : goal.decreases-loop-at
decreases-loop-at l = length l.rest
