use Rattle.std.proofs.Common.{ap, sym, ◌∙◌}
use Rattle.std.proofs.Math.Logic.{∥∥₁_map}
use Rattle.network_log.specs.Guest.{fallen}
use Rattle.hosted_network.proofs.HearingLemmas.{asks_so, moved, seen_fallen}
use Rattle.hosted_network.proofs.parts.NetworkParts.client_asks.Goals as goal

pub returns-in_default-clause-leads : goal.returns-in_default-clause-leads
returns-in_default-clause-leads g c =
    moved _ _ c.self.view_is c.answer.ensures.place c.answer.ensures.puts
    (asks_so c.answer.new.self c.answer.result c.self.view_is c.requires c.index_mut-client.ensures.value
    (sym c.is_gone.ensures ∙ c.if-is_gone.false)
    c.answer.ensures.seen c.answer.ensures.asked c.answer.ensures.err)

pub returns-clause-leads : goal.returns-clause-leads
returns-clause-leads g c =
    moved _ _ c.self.view_is c.answer.ensures.place c.answer.ensures.puts
    (∥∥₁_map c.answer.ensures.seen
    (λ s. seen_fallen c.self.view_is c.requires c.index_mut-client.ensures.value s
    (c.fall.ensures ∙ ap fallen c.in-Err.ensures.err)))
