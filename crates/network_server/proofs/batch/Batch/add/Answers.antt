use Rattle.std.proofs.Common.{◌≡◌, List, ◌++◌, ap, ◌∙◌}
use Rattle.network_log.specs.Host.{BatchEntry, passes_on}
use Rattle.network_server.specs.Effects.{relays}
use Rattle.network_server.specs.Entries.{entries, renaming_to}
use Rattle.network_server.proofs.BatchLemmas.{in-turn, passes-any}
use Rattle.network_server.proofs.batch.Batch.add.Goals as goal

pub returns-clause-added : goal.returns-clause-added
returns-clause-added c =
    let old : List BatchEntry = c.args.self.now in
    let effects = c.args.effects.items in
    let passes = c.passes_a_line_on-is_passed_on.ensures ∙ ap relays c.deref.ensures.value ∙ passes-any effects in
    let begins : entries c.reserve-2.new.self.items c.reserve.new.self.items ≡ old = (λ i. entries (c.reserve-2.ensures.items i) (c.reserve.ensures.items i)) ∙ c.self.view_is in
    let renamed : entries c.push_renamed.new.parts.items c.reserve.new.self.items ≡ old ++ renaming_to c.args.renamed (passes_on effects) =
    c.push_renamed.ensures.entries c.reserve.new.self.items ∙ (λ i. begins i ++ renaming_to c.args.renamed (passes i)) in
    in-turn old _ _ _ _ _ _ renamed c.push_effects.ensures.entries (c.push_entered.ensures.entries c.push_effects.new.changes.items)
