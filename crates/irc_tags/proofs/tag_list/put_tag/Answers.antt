use Rattle.std.proofs.Common.{ap, sym, ◌∙◌}
use Rattle.std.specs.Cow.{cow_slice_items}
use Rattle.irc_tags.specs.Value.{value_in}
use Rattle.irc_tags.specs.Entries.{value_of}
use Rattle.irc_tags.proofs.EntriesLemmas.{value_of-insert_entry, with_tag-put}
use Rattle.irc_tags.proofs.tag_list.put_tag.Goals as goal

pub returns : goal.returns
returns c =
    let key = c.cut_tag.result.0 in
    let value = c.in_ok-value.value in
    ap value_of c.in_ok-insert.ensures.entries
    ∙ value_of-insert_entry c.args.by_key.now.entries key value
    ∙ sym (with_tag-put (value_of c.args.by_key.now.entries) _ key.now (cow_slice_items value)
    c.cut_tag.ensures.key
    (c.in_ok-value.ensures ∙ ap value_in c.cut_tag.ensures.value)
    (sym c.is_empty.ensures ∙ c.if-is_empty.false))
