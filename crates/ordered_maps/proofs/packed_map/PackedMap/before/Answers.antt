use Rattle.std.proofs.Common.{rules, ◌≡◌, ◌++◌, ap, sym, subst, ◌∙◌, refl, take, append-nil, arith}
use Rattle.std.specs.Range.Bound.{bound_map}
use Rattle.std.specs.List.{filter}
use Rattle.std.specs.VecDeque.Iter.{deque_iter_rest}
use Rattle.ordered_maps.specs.MapView.{AreOrdered}
use Rattle.ordered_maps.specs.Pages.{entries_of}
use Rattle.ordered_maps.specs.Parts.{stands_before, rest_of}
use Rattle.ordered_maps.proofs.PartLemmas.{ordered_page, slice_front, before_at, before_end}
use Rattle.ordered_maps.proofs.packed_map.PackedMap.before.Goals.{in-Some, in-None}
use Rattle.ordered_maps.proofs.packed_map.PackedMap.before.Goals as goal

pub entries_before-requires : goal.entries_before-requires
entries_before-requires g c = subst (AreOrdered g.K.Ord.cmp) (sym c.in-Some.ensures.lookup)
    (ordered_page g.K.Ord.cmp c.self.inside.pages.items c.pages_before-whole.result c.in-Some.page.now (omega (arith, c.in-Some.ensures.variant.0 refl)) c.self.invariant.ordered)

pub returns-clause-before : goal.returns-clause-before
returns-clause-before g c =
    let pages = c.self.inside.pages.items in
    let whole = c.pages_before-whole.result in
    let start = bound_map (λ q. g.Q.Lookup.key q.now) c.args.start in
    let test = stands_before g.K.Ord.cmp start in
    let front : deque_iter_rest c.range-2.result ≡ take whole pages = c.range-2.ensures.rest ∙ slice_front pages whole in
    elim c.match-get.branch [
      | in-Some w ↦
          let page = w.in-Some.page.now in
          let cut = w.entries_before.result in
          let rest : deque_iter_rest w.range.result ≡ take cut page = w.range.ensures.rest ∙ slice_front w.page.inside.entries.items cut ∙ ap (take cut) w.page.view_is in
          ap (λ l. entries_of (deque_iter_rest c.range-2.result) ++ rest_of l) w.last-is
          ∙ ap (λ ps. entries_of ps ++ deque_iter_rest w.range.result) front
          ∙ ap (λ es. entries_of (take whole pages) ++ es) rest
          ∙ sym (before_at g.met.K.Ord.total start pages whole c.self.invariant.ordered c.pages_before-whole.ensures.cut page cut (omega (arith, w.in-Some.ensures.variant.0 refl)) w.in-Some.ensures.lookup w.entries_before.ensures.bound w.entries_before.ensures.cut)
          ∙ ap (filter test) c.self.view_is
      | in-None w ↦
          ap (λ l. entries_of (deque_iter_rest c.range-2.result) ++ rest_of l) w.last-is
          ∙ append-nil (entries_of (deque_iter_rest c.range-2.result))
          ∙ ap entries_of front
          ∙ sym (before_end g.met.K.Ord.total start pages whole c.self.invariant.ordered c.pages_before-whole.ensures.cut (omega arith) (search rules))
          ∙ ap (filter test) c.self.view_is
    ]
