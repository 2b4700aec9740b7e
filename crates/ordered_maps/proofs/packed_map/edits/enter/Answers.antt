use Rattle.std.proofs.Common.{◌≡◌, ◌<◌, ◌≤◌, length, ◌∷◌, [], insert, ap, ◌∙◌, arith}
use Rattle.ordered_maps.specs.Pages.{page_at}
use Rattle.ordered_maps.proofs.PageLemmas.{page_read, entered_last, nothing_after, nothing_after_all}
use Rattle.ordered_maps.proofs.packed_map.edits.enter.Goals as goal

pub returns-then-place-len-clause-entered : goal.returns-then-place-len-clause-entered
returns-then-place-len-clause-entered g c =
    let pages = c.args.pages.now.items in
    let place = c.args.place in
    let long = c.args.pages.now.ok.0 in
    let last : place.page ≡ length pages = omega arith in
    entered_last pages c.begin.new.pages.items place c.args.entry c.begin.result (nothing_after_all pages place (omega arith))
    (λ y. c.begin.ensures.begun y ∙ ap (λ n. insert pages n (c.args.entry ∷ [])) last) c.begin.ensures.refused

pub returns-then-place-len-3-clause-entered : goal.returns-then-place-len-3-clause-entered
returns-then-place-len-3-clause-entered g c =
    let pages = c.args.pages.now.items in
    let place = c.args.place in
    let long = c.args.pages.now.ok.0 in
    let within : place.page < length pages = omega arith in
    let read = ap length (page_read pages place.page c.index.result.now within c.index.ensures) in
    let full : length (page_at pages place.page) ≤ place.index = omega (arith, c.len-len.ensures) in
    let last : c.len-then-place-len-3.result ≡ length pages = omega arith in
    entered_last pages c.begin-then-place-len-3.new.pages.items place c.args.entry c.begin-then-place-len-3.result (nothing_after pages place (omega arith) full)
    (λ y. c.begin-then-place-len-3.ensures.begun y ∙ ap (λ n. insert pages n (c.args.entry ∷ [])) last) c.begin-then-place-len-3.ensures.refused
