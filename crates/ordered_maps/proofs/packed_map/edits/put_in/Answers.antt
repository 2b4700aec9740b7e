use Rattle.ordered_maps.proofs.PageLemmas.{page_read, entered_in, filled_in, all_at}
use Rattle.std.proofs.Common.{◌≢◌, [], sym, subst}
use Rattle.ordered_maps.proofs.packed_map.edits.put_in.Goals as goal

pub returns-clause-entered : goal.returns-clause-entered
returns-clause-entered g c =
    let pages = c.args.pages.now.items in
    let n = c.args.place.page in
    entered_in pages c.args.place c.args.entry c.insert.result c.index_mut.result.now c.insert.new.self c.requires.within (page_read pages n c.index_mut.result.now c.requires.within c.index_mut.ensures.value) c.insert.ensures.put c.insert.ensures.refused

pub returns-clause-filled : goal.returns-clause-filled
returns-clause-filled g c =
    let pages = c.args.pages.now.items in
    let n = c.args.place.page in
    filled_in pages c.args.place c.args.entry c.insert.result c.index_mut.result.now c.insert.new.self c.requires.filled (subst (λ page. page ≢ []) (sym (page_read pages n c.index_mut.result.now c.requires.within c.index_mut.ensures.value)) (all_at (λ page. page ≢ []) pages n [] c.requires.filled c.requires.within)) c.insert.ensures.put c.insert.ensures.refused
