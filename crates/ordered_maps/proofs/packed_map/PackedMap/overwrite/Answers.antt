use Rattle.std.proofs.Common.{true≢false, is_some, sym, ap, ◌∙◌, subst}
use Rattle.ordered_maps.specs.MapView.{get, IsWith}
use Rattle.ordered_maps.specs.Pages.{entries_of}
use Rattle.ordered_maps.proofs.ChangeLemmas.{changed_with, gap_missed}
use Rattle.ordered_maps.proofs.packed_map.PackedMap.overwrite.Goals as goal

pub returns-in-Ok : goal.returns-in-Ok
returns-in-Ok g c =
    subst (λ es. IsWith g.K.Ord.cmp es (g.Q.Lookup.key c.args.key.now) c.args.value (entries_of c.write.new.pages.items)) c.self.view_is
    (changed_with g.met.K.Ord.total (g.Q.Lookup.key c.args.key.now) c.self.inside.pages.items c.self.invariant c.in-Ok.place c.in-Ok.ensures.held c.args.value c.write.result c.write.new.pages.items c.write.ensures.written)

pub returns-in_default : goal.returns-in_default
returns-in_default g c =
    let gone = gap_missed g.met.K.Ord.total (g.Q.Lookup.key c.args.key.now) c.self.inside.pages.items c.self.invariant c.in_default.field-0 c.in_default.ensures.gap in
    absurd (true≢false (sym c.requires.held ∙ ap (λ es. is_some (get g.K.Ord.cmp es (g.Q.Lookup.key c.args.key.now))) (sym c.self.view_is) ∙ ap is_some gone))
