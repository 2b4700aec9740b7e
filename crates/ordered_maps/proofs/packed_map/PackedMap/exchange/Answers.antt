use Rattle.std.proofs.Common.{◌≡◌, Bool, true, sym, ap, ◌∙◌, subst}
use Rattle.ordered_maps.specs.MapView.{get, IsWith}
use Rattle.ordered_maps.specs.Pages.{entries_of}
use Rattle.ordered_maps.specs.Places.{entered}
use Rattle.ordered_maps.proofs.ChangeLemmas.{changed_before, changed_with, gap_missed, put_with, put_ordered}
use Rattle.ordered_maps.proofs.packed_map.PackedMap.exchange.Goals as goal
use Rattle.ordered_maps.proofs.packed_map.PackedMap.exchange.Goals.{then-enter, else-enter}

pub invariant_of-self-in-Err : goal.invariant_of-self-in-Err
invariant_of-self-in-Err g c = record {
  filled = c.enter.ensures.filled;
  ordered = put_ordered g.met.K.Ord.total c.args.key c.self.inside.pages.items c.self.invariant c.in-Err.place c.in-Err.ensures.gap c.args.value c.enter.result c.enter.new.pages.items c.enter.ensures.entered;
}

pub returns-in-Ok-clause-before : goal.returns-in-Ok-clause-before
returns-in-Ok-clause-before g c =
    sym (changed_before g.met.K.Ord.total c.args.key c.self.inside.pages.items c.self.invariant c.in-Ok.place c.in-Ok.ensures.held c.args.value c.write.result c.write.new.pages.items c.write.ensures.written)
    ∙ ap (λ es. get g.K.Ord.cmp es c.args.key) c.self.view_is

pub returns-in-Ok-clause-put : goal.returns-in-Ok-clause-put
returns-in-Ok-clause-put g c =
    subst (λ es. IsWith g.K.Ord.cmp es c.args.key c.args.value (entries_of c.write.new.pages.items)) c.self.view_is
    (changed_with g.met.K.Ord.total c.args.key c.self.inside.pages.items c.self.invariant c.in-Ok.place c.in-Ok.ensures.held c.args.value c.write.result c.write.new.pages.items c.write.ensures.written)

pub returns-after-enter-clause-before : goal.returns-after-enter-clause-before
returns-after-enter-clause-before g c =
    let gone = gap_missed g.met.K.Ord.total c.args.key c.self.inside.pages.items c.self.invariant c.in-Err.place c.in-Err.ensures.gap in
    elim c.if-enter.branch [
      | then-enter w ↦ rw w.result-is (sym gone ∙ ap (λ es. get g.K.Ord.cmp es c.args.key) c.self.view_is)
      | else-enter w ↦ rw w.result-is tt
    ]

pub returns-after-enter-clause-put : goal.returns-after-enter-clause-put
returns-after-enter-clause-put g c =
    let pages = c.self.inside.pages.items in
    let place = c.in-Err.place in
    let put : (r : Bool) → c.enter.result ≡ r → entries_of c.enter.new.pages.items ≡ entered pages place (c.args.key, c.args.value) r =
    λ r is. c.enter.ensures.entered ∙ ap (entered pages place (c.args.key, c.args.value)) is in
    elim c.if-enter.branch [
      | then-enter w ↦
          rw w.result-is
          (subst (λ es. IsWith g.K.Ord.cmp es c.args.key c.args.value (entries_of c.enter.new.pages.items)) c.self.view_is
          (put_with g.met.K.Ord.total c.args.key pages c.self.invariant place c.in-Err.ensures.gap c.args.value c.enter.new.pages.items (put true w.if-enter.true)))
      | else-enter w ↦ rw w.result-is tt
    ]
