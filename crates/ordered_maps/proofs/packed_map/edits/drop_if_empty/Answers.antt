use Rattle.std.proofs.Common.{[], length, sym, ap, ◌∙◌, arith}
use Rattle.std.proofs.lemmas.Option.{MatchOption-at_some}
use Rattle.ordered_maps.specs.Pages.{entries_of}
use Rattle.ordered_maps.proofs.PageLemmas.{page_read, taken_empty, empty_from_length, filled_whole}
use Rattle.ordered_maps.proofs.packed_map.edits.drop_if_empty.Goals as goal

pub returns-then-len-eq0-clause-same : goal.returns-then-len-eq0-clause-same
returns-then-len-eq0-clause-same g c =
    let pages = c.args.pages.now in
    let read = page_read pages.items c.args.page c.index.result.now c.requires.within c.index.ensures in
    let long = pages.ok.0 in
    ap entries_of (MatchOption-at_some _ _ _ (c.remove.ensures.succeeds [] (omega arith)) c.remove.ensures.items)
    ∙ taken_empty pages.items c.args.page (sym read ∙ empty_from_length c.index.result.now (omega arith))

pub returns-else-len-eq0-clause-filled : goal.returns-else-len-eq0-clause-filled
returns-else-len-eq0-clause-filled g c =
    let read = page_read c.args.pages.now.items c.args.page c.index.result.now c.requires.within c.index.ensures in
    filled_whole c.args.pages.now.items c.args.page c.requires.others (λ e. let l = ap length (read ∙ e) in omega arith)
