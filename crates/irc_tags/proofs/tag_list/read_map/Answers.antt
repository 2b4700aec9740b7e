use Rattle.std.proofs.Common.{◌≡◌, ◌==◌, false, ◌≤◌, ◌+◌, arith, length, length-drop, map, sym, ap, ◌∙◌, subst, None, Some, position}
use Rattle.std.proofs.lemmas.List.{take_rest}
use Rattle.std.proofs.lemmas.List.Elements.{All-take, All-drop}
use Rattle.std.specs.List.{slice_split}
use Rattle.irc_tags.specs.Value.{backslash, IsPlain}
use Rattle.irc_tags.specs.TagList.{tag_of, is_semicolon, tag_list}
use Rattle.irc_tags.specs.Entries.{value_of, with_tags}
use Rattle.irc_tags.proofs.CallerLemmas.{with_tags-all, with_tags-part, with_tags-end}
use Rattle.irc_tags.proofs.tag_list.read_map.Goals as goal

pub put_tag-requires : goal.put_tag-requires
put_tag-requires c e = All-take (λ b. (b == backslash) ≡ false) c.in-Some.at c.loop-at.rest.now (c.loop-at.invariant.2 e)

pub put_tag-requires-2 : goal.put_tag-requires-2
put_tag-requires-2 c e = c.loop-at.invariant.2 e

pub loop-at-init : goal.loop-at-init
loop-at-init c = (omega arith, ap (λ es. with_tags (value_of es) (map tag_of (slice_split is_semicolon c.args.bytes.now))) c.in_ok-by_key.ensures.empty ∙ with_tags-all c.args.bytes.now, c.has_backslash-has_escapes.ensures)

pub loop-at-preserved : goal.loop-at-preserved
loop-at-preserved c =
    let rest = c.loop-at.rest.now in
    let at = c.in-Some.at in
    let place : position is_semicolon rest ≡ Some at = sym c.find_byte.ensures.place ∙ c.in-Some.is in
    let shorter = length-drop (at + 1) rest in
    let bound = c.loop-at.invariant.0 in
    subst (λ l. (length l ≤ length c.args.bytes.now) × (with_tags (value_of c.put_tag.new.by_key.entries) (map tag_of (slice_split is_semicolon l)) ≡ tag_list c.args.bytes.now) × (c.has_backslash-has_escapes.result ≡ false → IsPlain l))
    (sym (take_rest rest (at + 1)))
    (omega arith, with_tags-part (value_of c.loop-at.by_key.entries) _ _ rest at place c.in_ok-put_tag.ensures c.loop-at.invariant.1, λ e. All-drop (λ b. (b == backslash) ≡ false) (at + 1) rest (c.loop-at.invariant.2 e))

pub returns : goal.returns
returns c =
    let rest = c.loop-at.rest.now in
    let none : position is_semicolon rest ≡ None = sym c.find_byte.ensures.place ∙ c.in_default.is in
    with_tags-end (value_of c.loop-at.by_key.entries) _ _ rest none c.in_ok-put_tag-2.ensures c.loop-at.invariant.1
