use Rattle.std.proofs.Common.{rules, subst}
use Rattle.ordered_maps.specs.Clones.{AreClones}
use Rattle.ordered_maps.specs.Pages.{entries_of}
use Rattle.ordered_maps.proofs.CloneLemmas.{zip_pages, filled_pages}
use Rattle.ordered_maps.proofs.packed_map.clones.PackedMapClone.clone.Goals as goal

pub invariant_of-result : goal.invariant_of-result
invariant_of-result g c = record {
  filled = filled_pages (λ p q. g.K.Clone.is_clone p.0 q.0 × g.V.Clone.is_clone p.1 q.1) c.self.inside.pages.items c.in_ok-pages.pages.items c.in_ok-pages.ensures.cases.0 c.self.invariant.filled;
  ordered = c.ascend.ensures (search rules);
}

pub returns : goal.returns
returns g c = record {
  cases = subst (λ es. AreClones g.K.Clone.is_clone g.V.Clone.is_clone es (entries_of c.in_ok-pages.pages.items)) c.self.view_is
      (zip_pages (λ p q. g.K.Clone.is_clone p.0 q.0 × g.V.Clone.is_clone p.1 q.1) c.self.inside.pages.items c.in_ok-pages.pages.items c.in_ok-pages.ensures.cases.0);
}
