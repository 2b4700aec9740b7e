use Rattle.std.proofs.Common.{rules, suc, ◌+◌, of_calls, ◌≡◌, ◌<◌, length, get_or, set, filter, ap, sym, subst, ◌∙◌, arith}
use Rattle.std.proofs.lemmas.Fn.{filter_same}
use Rattle.ordered_maps.specs.Pages.{entries_of, AreFilled}
use Rattle.ordered_maps.proofs.RetainLemmas.{retained, as_many, next_page, all_retained, has_entries, without_empty, others_filled}
use Rattle.ordered_maps.proofs.packed_map.retain.retain.Goals as goal

pub index_mut-requires : goal.index_mut-requires
index_mut-requires g c =
    let stays = λ (e : g.row.K.Denot × g.row.V.Denot). g.T.Keeps.is_kept c.args.test.now e.1 in
    let many = ap length c.loop-index.invariant ∙ as_many stays c.loop-index.index c.args.pages.now.items in
    let all = c.args.pages.now.ok.0 in
    let now = c.loop-index.pages.ok.0 in
    let end = c.len-index-end.ensures in
    omega (arith, many, all, now, end, c.loop-index-test.true)

pub loop-index-preserved : goal.loop-index-preserved
loop-index-preserved g c =
    let stays = λ (e : g.row.K.Denot × g.row.V.Denot). g.T.Keeps.is_kept c.args.test.now e.1 in
    let pages = c.args.pages.now.items in
    let index = c.loop-index.index in
    let all = c.args.pages.now.ok.0 in
    let end = c.len-index-end.ensures in
    let within : index < length pages = omega (arith, all, end, c.loop-index-test.true) in
    let up : suc index ≡ index + 1 = omega arith in
    ap (set c.loop-index.pages.items index) c.retain.ensures
    ∙ ap (λ ps. set ps index (filter stays c.index_mut.result.now)) c.loop-index.invariant
    ∙ next_page stays index pages c.index_mut.result.now within
    (subst (λ ps. c.index_mut.result.now ≡ get_or ps index c.index_mut.result.now) c.loop-index.invariant c.index_mut.ensures.value)
    ∙ ap (λ n. retained stays n pages) up

pub returns-clause-kept : goal.returns-clause-kept
returns-clause-kept g c =
    let stays = λ (e : g.row.K.Denot × g.row.V.Denot). g.T.Keeps.is_kept c.args.test.now e.1 in
    let pages = c.args.pages.now.items in
    let all = c.args.pages.now.ok.0 in
    let end = c.len-index-end.ensures in
    let last : c.loop-index.index ≡ length pages = omega (arith, all, end, c.loop-index-test.false, c.loop-index.auto.index-end) in
    ap entries_of (filter_same _ has_entries _ (λ x b f k. search (rules, of_calls)) _ _ c.retain-2.ensures.filtered)
    ∙ without_empty c.loop-index.pages.items
    ∙ ap entries_of c.loop-index.invariant
    ∙ all_retained stays pages c.loop-index.index last

pub returns-clause-filled : goal.returns-clause-filled
returns-clause-filled g c =
    subst AreFilled (sym (filter_same _ has_entries _ (λ x b f k. search (rules, of_calls)) _ _ c.retain-2.ensures.filtered))
    (others_filled c.loop-index.pages.items)
