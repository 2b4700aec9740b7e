use Rattle.std.proofs.Common.{suc, drop, ap, ◌∙◌, remove, set}
use Rattle.ordered_maps.specs.Pages.{entries_of, page_at}
use Rattle.ordered_maps.proofs.PageLemmas.{page_read, filled_but_set, edited}
use Rattle.ordered_maps.proofs.packed_map.edits.take_out.Goals as goal

pub drop_if_empty-requires-clause-others : goal.drop_if_empty-requires-clause-others
drop_if_empty-requires-clause-others g c = filled_but_set c.args.pages.now.items c.args.place.page c.remove.new.self c.requires.filled

pub returns-clause-out : goal.returns-clause-out
returns-clause-out g c =
    let pages = c.args.pages.now.items in
    let place = c.args.place in
    let read = page_read pages place.page c.index_mut.result.now c.requires.at.page c.index_mut.ensures.value in
    c.drop_if_empty.ensures.same
    ∙ ap (λ page. entries_of (set pages place.page page)) (c.remove.ensures ∙ ap (λ page. remove page place.index) read)
    ∙ edited pages place (drop (suc place.index) (page_at pages place.page)) c.requires.at.page
