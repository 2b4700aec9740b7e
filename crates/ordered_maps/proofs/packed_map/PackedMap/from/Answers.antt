use Rattle.std.proofs.Common.{rules, ◌≡◌, ◌+◌, ◌++◌, [], ap, sym, subst, ◌∙◌, refl, drop, append-nil, arith}
use Rattle.std.specs.Range.Bound.{bound_map}
use Rattle.std.specs.VecDeque.Iter.{deque_iter_rest}
use Rattle.std.specs.BTreeMap.Range.{entries_between}
use Rattle.std.specs.declared.ops.Bound.TheVariants.{Unbounded}
use Rattle.ordered_maps.specs.MapView.{AreOrdered}
use Rattle.ordered_maps.specs.Pages.{entries_of}
use Rattle.ordered_maps.proofs.PartLemmas.{ordered_page, slice_back, from_at, from_end}
use Rattle.std.proofs.lemmas.List.{drop_all}
use Rattle.ordered_maps.proofs.packed_map.PackedMap.from.Goals as goal

pub entries_before-requires : goal.entries_before-requires
entries_before-requires g c = subst (AreOrdered g.K.Ord.cmp) (sym c.in-Some.ensures.lookup)
    (ordered_page g.K.Ord.cmp c.self.inside.pages.items c.pages_before-whole.result c.in-Some.page.now (omega (arith, c.in-Some.ensures.variant.0 refl)) c.self.invariant.ordered)

pub returns-in_default-clause-between : goal.returns-in_default-clause-between
returns-in_default-clause-between g c =
    let pages = c.self.inside.pages.items in
    let whole = c.pages_before-whole.result in
    let start = bound_map (λ q. g.Q.Lookup.key q.now) c.args.start in
    let none : deque_iter_rest c.range.result ≡ [] = c.range.ensures.rest ∙ slice_back pages whole c.self.inside.pages.len (omega arith) ∙ drop_all whole pages (search rules) in
    append-nil (entries_of (deque_iter_rest c.range.result)) ∙ ap entries_of none
    ∙ sym (from_end g.met.K.Ord.total start pages whole c.self.invariant.ordered c.pages_before-whole.ensures.cut (omega arith) (search rules))
    ∙ ap (entries_between g.K.Ord.cmp start Unbounded) c.self.view_is

pub returns-clause-between : goal.returns-clause-between
returns-clause-between g c =
    let pages = c.self.inside.pages.items in
    let page = c.in-Some.page.now in
    let whole = c.pages_before-whole.result in
    let cut = c.entries_before.result in
    let start = bound_map (λ q. g.Q.Lookup.key q.now) c.args.start in
    let rest : deque_iter_rest c.range-2.result ≡ drop cut page = c.range-2.ensures.rest ∙ slice_back c.page.inside.entries.items cut c.page.inside.entries.len (omega arith) ∙ ap (drop cut) c.page.view_is in
    let back : deque_iter_rest c.range-3.result ≡ drop (whole + 1) pages = c.range-3.ensures.rest ∙ slice_back pages (whole + 1) c.self.inside.pages.len (omega arith) in
    append-nil (deque_iter_rest c.range-2.result ++ entries_of (deque_iter_rest c.range-3.result))
    ∙ ap (λ es. es ++ entries_of (deque_iter_rest c.range-3.result)) rest
    ∙ ap (λ ps. drop cut page ++ entries_of ps) back
    ∙ sym (from_at g.met.K.Ord.total start pages whole c.self.invariant.ordered c.pages_before-whole.ensures.cut page cut (omega (arith, c.in-Some.ensures.variant.0 refl)) c.in-Some.ensures.lookup c.entries_before.ensures.bound c.entries_before.ensures.cut)
    ∙ ap (entries_between g.K.Ord.cmp start Unbounded) c.self.view_is
