use Rattle.ordered_maps.proofs.PageLemmas.{page_read, written}
use Rattle.ordered_maps.proofs.packed_map.edits.write.Goals as goal

pub returns-clause-written : goal.returns-clause-written
returns-clause-written g c =
    let pages = c.args.pages.now.items in
    let place = c.args.place in
    written pages place c.args.value c.write.result c.index_mut.result.now c.write.new.self c.requires.at
    (page_read pages place.page c.index_mut.result.now c.requires.at.page c.index_mut.ensures.value)
    c.write.ensures
