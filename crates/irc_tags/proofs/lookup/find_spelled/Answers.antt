use Rattle.std.proofs.Common.{◌≡◌, ◌≤◌, ◌+◌, arith, length, length-drop, map, sym, ◌∙◌, subst, None, Some, position}
use Rattle.std.proofs.lemmas.List.{take_rest}
use Rattle.std.specs.List.{slice_split}
use Rattle.std.specs.Option.{option_copied, option_map}
use Rattle.irc_tags.specs.Entries.{last_found}
use Rattle.irc_tags.specs.TagList.{tag_of, is_semicolon, tag_list, value_at}
use Rattle.irc_tags.specs.Value.{value_in}
use Rattle.irc_tags.proofs.LookupLemmas.{found-all, found-part, found-end}
use Rattle.irc_tags.proofs.lookup.find_spelled.Goals as goal

pub loop-at-init : goal.loop-at-init
loop-at-init c = (omega arith, found-all c.args.key.now c.args.bytes.now)

pub loop-at-preserved : goal.loop-at-preserved
loop-at-preserved c =
    let rest = c.loop-at.rest.now in
    let at = c.in-Some.at in
    let place : position is_semicolon rest ≡ Some at = sym c.find_byte.ensures.place ∙ c.in-Some.is in
    let shorter = length-drop (at + 1) rest in
    let bound = c.loop-at.invariant.0 in
    subst (λ l. (length l ≤ length c.args.bytes.now)
    × (last_found c.args.key.now (option_map value_in (option_copied c.found_in-found.result)) (map tag_of (slice_split is_semicolon l)) ≡ value_at c.args.key.now (tag_list c.args.bytes.now)))
    (sym (take_rest rest (at + 1)))
    (omega arith, found-part c.args.key.now _ _ _ rest at place c.found_in-found.ensures c.loop-at.invariant.1)

pub returns : goal.returns
returns c =
    let rest = c.loop-at.rest.now in
    let none : position is_semicolon rest ≡ None = sym c.find_byte.ensures.place ∙ c.in_default.is in
    found-end c.args.key.now _ _ _ rest none c.found_in.ensures c.loop-at.invariant.1
