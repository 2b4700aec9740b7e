use Rattle.std.proofs.Common.{◌+◌, ◌-◌, ◌/◌, sym, subst, ◌∙◌, arith}
use Rattle.ordered_maps.specs.declared.packed_map.search.Place.{Place}
use Rattle.ordered_maps.specs.Pages.{AreFilled}
use Rattle.ordered_maps.specs.Places.{IsPlace}
use Rattle.ordered_maps.proofs.SplitLemmas.{halves, filled_split, place_low, same_low, place_high, same_high, entered_alike, ok_from, SamePlace}
use Rattle.ordered_maps.proofs.packed_map.edits.enter_in_full.Goals as goal

pub put_in-requires-clause-at : goal.put_in-requires-clause-at
put_in-requires-clause-at g c =
    let half = c.len-half.result / 2 in
    let h = halves c.args.pages.now.items c.args.place.page c.len-half.result c.index.result.now c.requires.within c.index.ensures c.len-half.ensures c.requires.full in
    let split = ok_from c.split.result (sym c.is_err.ensures.value ∙ c.if-is_err.false) c.split.ensures.split in
    subst (λ pages. IsPlace pages c.args.place) (sym split)
    (place_low c.args.pages.now.items c.args.place half c.requires.within (omega (arith, h.0, h.1)) c.if-place-half.true)

pub put_in-requires-clause-filled : goal.put_in-requires-clause-filled
put_in-requires-clause-filled g c =
    let half = c.len-half.result / 2 in
    let h = halves c.args.pages.now.items c.args.place.page c.len-half.result c.index.result.now c.requires.within c.index.ensures c.len-half.ensures c.requires.full in
    let split = ok_from c.split.result (sym c.is_err.ensures.value ∙ c.if-is_err.false) c.split.ensures.split in
    subst AreFilled (sym split)
    (filled_split c.args.pages.now.items c.args.place half c.requires.within (omega (arith, h.0, h.1)) c.requires.filled (omega (arith, h.0, h.1)) (omega (arith, h.0, h.1)))

pub returns-then-place-half-clause-entered : goal.returns-then-place-half-clause-entered
returns-then-place-half-clause-entered g c =
    let half = c.len-half.result / 2 in
    let h = halves c.args.pages.now.items c.args.place.page c.len-half.result c.index.result.now c.requires.within c.index.ensures c.len-half.ensures c.requires.full in
    let pages = c.args.pages.now.items in
    let place = c.args.place in
    let split = ok_from c.split.result (sym c.is_err.ensures.value ∙ c.if-is_err.false) c.split.ensures.split in
    c.put_in.ensures.entered
    ∙ entered_alike pages place c.split.new.pages.items place c.args.entry c.put_in.result
    (subst (λ others. SamePlace pages place others place) (sym split) (same_low pages place half c.requires.within (omega (arith, h.0, h.1)) c.if-place-half.true))

pub put_in-requires-2-clause-at : goal.put_in-requires-2-clause-at
put_in-requires-2-clause-at g c =
    let half = c.len-half.result / 2 in
    let h = halves c.args.pages.now.items c.args.place.page c.len-half.result c.index.result.now c.requires.within c.index.ensures c.len-half.ensures c.requires.full in
    let place = c.args.place in
    let split = ok_from c.split.result (sym c.is_err.ensures.value ∙ c.if-is_err.false) c.split.ensures.split in
    subst (λ pages. IsPlace pages (record { page = place.page + 1; index = place.index - half })) (sym split)
    (place_high c.args.pages.now.items place half c.requires.within (omega (arith, h.0, h.1)) (omega (arith, h.0, h.1)) c.requires.at.index)

pub put_in-requires-2-clause-filled : goal.put_in-requires-2-clause-filled
put_in-requires-2-clause-filled g c =
    let half = c.len-half.result / 2 in
    let h = halves c.args.pages.now.items c.args.place.page c.len-half.result c.index.result.now c.requires.within c.index.ensures c.len-half.ensures c.requires.full in
    let split = ok_from c.split.result (sym c.is_err.ensures.value ∙ c.if-is_err.false) c.split.ensures.split in
    subst AreFilled (sym split)
    (filled_split c.args.pages.now.items c.args.place half c.requires.within (omega (arith, h.0, h.1)) c.requires.filled (omega (arith, h.0, h.1)) (omega (arith, h.0, h.1)))

pub returns-clause-entered : goal.returns-clause-entered
returns-clause-entered g c =
    let half = c.len-half.result / 2 in
    let h = halves c.args.pages.now.items c.args.place.page c.len-half.result c.index.result.now c.requires.within c.index.ensures c.len-half.ensures c.requires.full in
    let pages = c.args.pages.now.items in
    let place = c.args.place in
    let split = ok_from c.split.result (sym c.is_err.ensures.value ∙ c.if-is_err.false) c.split.ensures.split in
    let other : Place = record { page = place.page + 1; index = place.index - half } in
    c.put_in-2.ensures.entered
    ∙ entered_alike pages place c.split.new.pages.items other c.args.entry c.put_in-2.result
    (subst (λ others. SamePlace pages place others other) (sym split) (same_high pages place half c.requires.within (omega (arith, h.0, h.1)) (omega (arith, h.0, h.1))))
