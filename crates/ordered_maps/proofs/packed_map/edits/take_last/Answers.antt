use Rattle.std.proofs.Common.{suc, ◌++◌, ◌≡◌, ◌<◌, ◌≢◌, [], length, sym, ap, ◌∙◌, arith, option_to_list}
use Rattle.ordered_maps.proofs.PageLemmas.{page_read, popped, all_at}
use Rattle.ordered_maps.proofs.packed_map.edits.take_last.Goals as goal

pub returns-clause-out : goal.returns-clause-out
returns-clause-out g c =
    let pages = c.args.pages.now.items in
    let n = c.in_ok-last.last in
    let long = c.args.pages.now.ok.0 in
    let last : suc n ≡ length pages = omega (arith, c.in_ok-last.ensures) in
    let within : n < length pages = omega arith in
    popped pages n c.index_mut.result.now c.pop-entry.new.self (option_to_list c.pop-entry.result) last
    (page_read pages n c.index_mut.result.now within c.index_mut.ensures.value) c.pop-entry.ensures.out
    ∙ ap (λ es. es ++ option_to_list c.pop-entry.result) (sym c.drop_if_empty.ensures.same)

pub returns-clause-none : goal.returns-clause-none
returns-clause-none g c none =
    let pages = c.args.pages.now.items in
    let n = c.in_ok-last.last in
    let long = c.args.pages.now.ok.0 in
    let within : n < length pages = omega (arith, c.in_ok-last.ensures) in
    let read = page_read pages n c.index_mut.result.now within c.index_mut.ensures.value in
    absurd (all_at (λ page. page ≢ []) pages n [] c.requires.filled within (sym read ∙ c.pop-entry.ensures.none none))
