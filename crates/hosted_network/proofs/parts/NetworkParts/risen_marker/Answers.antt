use Rattle.std.proofs.Common.{List, subst}
use Rattle.chat_change.specs.declared.change.Change.{Change}
use Rattle.network_log.specs.NetworkState.{NetworkState}
use Rattle.network_log.specs.Putting.{IsSeen}
use Rattle.hosted_network.proofs.InformingLemmas.{seen_by_view}
use Rattle.hosted_network.proofs.parts.NetworkParts.risen_marker.Goals as goal

pub returns-in_default-clause-seen : goal.returns-in_default-clause-seen
returns-in_default-clause-seen g c =
    let held : List Change = g.V.NetworkView.held c.marker.new.view in
    subst (λ (w : NetworkState). ∥ IsSeen g.C.Connection.facts w.held held ∥₁) c.self.view_is c.marker.ensures.seen

pub returns-in_default-clause-rest : goal.returns-in_default-clause-rest
returns-in_default-clause-rest g c =
    seen_by_view (g.V.NetworkView.held c.marker.new.view) c.self.view_is c.marker.ensures.place c.marker.ensures.puts

pub returns-then-not-is_further-clause-seen : goal.returns-then-not-is_further-clause-seen
returns-then-not-is_further-clause-seen g c =
    let held : List Change = g.V.NetworkView.held c.marker.new.view in
    subst (λ (w : NetworkState). ∥ IsSeen g.C.Connection.facts w.held held ∥₁) c.self.view_is c.marker.ensures.seen

pub returns-then-not-is_further-clause-rest : goal.returns-then-not-is_further-clause-rest
returns-then-not-is_further-clause-rest g c =
    seen_by_view (g.V.NetworkView.held c.marker.new.view) c.self.view_is c.marker.ensures.place c.marker.ensures.puts

pub returns-clause-seen : goal.returns-clause-seen
returns-clause-seen g c =
    let held : List Change = g.V.NetworkView.held c.marker.new.view in
    subst (λ (w : NetworkState). ∥ IsSeen g.C.Connection.facts w.held held ∥₁) c.self.view_is c.marker.ensures.seen

pub returns-clause-rest : goal.returns-clause-rest
returns-clause-rest g c =
    seen_by_view (g.V.NetworkView.held c.marker.new.view) c.self.view_is c.marker.ensures.place c.marker.ensures.puts
