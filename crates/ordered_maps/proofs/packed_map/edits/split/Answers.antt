use Rattle.std.proofs.Common.{◌≡◌, ◌<◌, suc, ◌+◌, length, insert, set, drop, take, ap, sym, subst, ◌∙◌, arith}
use Rattle.ordered_maps.specs.Places.{split_at}
use Rattle.ordered_maps.proofs.PageLemmas.{page_read}
use Rattle.ordered_maps.proofs.SplitLemmas.{inserted_behind}
use Rattle.ordered_maps.proofs.packed_map.edits.split.Goals as goal

pub returns-clause-split : goal.returns-clause-split
returns-clause-split g c =
    let pages = c.reserve.new.self.items in
    let n = c.args.page in
    let i = c.args.index in
    let page = c.index_mut.result.now in
    let up : n + 1 ≡ suc n = omega arith in
    let within : n < length pages = subst (λ ps. n < length ps) (sym c.reserve.ensures.items) c.requires.within in
    c.in-Ok.ensures.items
    ∙ ap (λ half. insert (set pages n half) (n + 1) c.in_ok-rest.rest) c.in_ok-rest.ensures.kept
    ∙ ap (insert (set pages n (take i page)) (n + 1)) c.in_ok-rest.ensures.rest
    ∙ ap (λ m. insert (set pages n (take i page)) m (drop i page)) up
    ∙ inserted_behind pages n i page within (page_read pages n page within c.index_mut.ensures.value)
    ∙ ap (λ ps. split_at ps n i) c.reserve.ensures.items
