use Rattle.std.proofs.Common.{sym, ◌∙◌, Some, None}
use Rattle.std.specs.Map.Iter.{deref_pair, TakesLast}
use Rattle.std.specs.Option.{option_map}
use Rattle.ordered_maps.specs.Ends.{IsLastBefore}
use Rattle.ordered_maps.proofs.EntriesLemmas.{none_before, last_before}
use Rattle.ordered_maps.proofs.packed_map.PackedMap.last_before.Goals as goal

pub returns : goal.returns
returns g c =
    let total = g.met.K.Ord.total in let key = (g.Q.Lookup.key c.args.key.now) in let entries = c.args.self.now in
    elim c.next_back.result as (λ r. TakesLast deref_pair c.before-2.result r c.next_back.new.self → IsLastBefore g.K.Ord.cmp key entries (option_map deref_pair r)) [
      | None ↦ λ steps. none_before total key entries (sym c.before-2.ensures.before ∙ steps.0)
      | Some e ↦ λ steps. last_before total key entries c.next_back.new.self (deref_pair e) c.before-2.ensures.ordered (sym c.before-2.ensures.before ∙ steps)
    ] c.next_back.ensures.steps
