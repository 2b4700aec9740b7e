use Rattle.std.proofs.Common.{◌≡◌, ◌≤◌, false, length, map}
use Rattle.std.specs.List.{slice_split}
use Rattle.irc_tags.specs.TagList.{tag_of, is_semicolon, tag_list}
use Rattle.irc_tags.specs.Value.{IsPlain}
use Rattle.irc_tags.specs.Entries.{value_of, with_tags}
use Rattle.irc_tags.proofs.tag_list.read_map.Given as goal

abbrev pub invariant-loop-at : goal.invariant-loop-at
invariant-loop-at l = (length l.rest ≤ length l.bytes) × (with_tags (value_of l.by_key.entries) (map tag_of (slice_split is_semicolon l.rest)) ≡ tag_list l.bytes) × (l.has_escapes ≡ false → IsPlain l.rest)

abbrev pub decreases-loop-at : goal.decreases-loop-at
decreases-loop-at l = length l.rest
