use Rattle.std.proofs.Common.{ℕ, Some, ap, ◌∙◌}
use Rattle.std.specs.Cow.{cow_slice_items}
use Rattle.std.specs.Option.{option_map}
use Rattle.std.specs.declared.alloc.Global.{Global}
use Rattle.std.specs.declared.borrow.CowSlice.{CowSlice}
use Rattle.irc_tags.specs.TagList.{value_at}
use Rattle.irc_tags.proofs.EntriesLemmas.{value_at-value_of}
use Rattle.irc_tags.proofs.tag_list.Tags.get.Goals as goal

pub returns-in-Some : goal.returns-in-Some
returns-in-Some c =
    let key = c.args.key.now in
    ap Some c.as_slice.ensures.value ∙ ap (option_map (λ (v : CowSlice ℕ Global). cow_slice_items v)) c.in-Some.ensures.value ∙ value_at-value_of key c.self.inside.by_key.entries ∙ ap (value_at key) c.self.view_is

pub returns-in-None : goal.returns-in-None
returns-in-None c =
    let key = c.args.key.now in
    ap (option_map (λ (v : CowSlice ℕ Global). cow_slice_items v)) c.in-None.ensures.value ∙ value_at-value_of key c.self.inside.by_key.entries ∙ ap (value_at key) c.self.view_is
