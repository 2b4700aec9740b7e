use Rattle.std.proofs.Common.{◌≡◌, ◌≤◌, length, map}
use Rattle.std.specs.List.{slice_split}
use Rattle.std.specs.Option.{option_copied, option_map}
use Rattle.irc_tags.specs.Entries.{last_found}
use Rattle.irc_tags.specs.TagList.{tag_of, is_semicolon, tag_list, value_at}
use Rattle.irc_tags.specs.Value.{value_in}
use Rattle.irc_tags.proofs.lookup.find_spelled.Given as goal

abbrev pub invariant-loop-at : goal.invariant-loop-at
invariant-loop-at l = (length l.rest ≤ length l.bytes)
    × (last_found l.key (option_map value_in (option_copied l.found)) (map tag_of (slice_split is_semicolon l.rest)) ≡ value_at l.key (tag_list l.bytes))

abbrev pub decreases-loop-at : goal.decreases-loop-at
decreases-loop-at l = length l.rest
