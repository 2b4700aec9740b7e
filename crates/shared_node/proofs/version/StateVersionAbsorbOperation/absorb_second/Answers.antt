use Rattle.std.proofs.Common.{ap, sym, ◌∙◌}
use Rattle.shared_node.specs.Lists.{state_of}
use Rattle.shared_node.proofs.StateLemmas.{state_between}
use Rattle.shared_node.proofs.version.StateVersionAbsorbOperation.absorb_second.Goals as goal

pub invariant_of-self : goal.invariant_of-self
invariant_of-self g c =
    let fronts = ap (λ s. s.front) (sym c.self.invariant) ∙ sym c.front.ensures ∙ c.if-front.true ∙ c.front-2.ensures ∙ ap (λ s. s.front) c.other.invariant in
    let same = state_between c.self.inside.list c.operation.inside.after c.other.inside.list c.if-follows.ensures c.if-follows-2.ensures fronts in
    c.self.invariant ∙ sym same ∙ ap state_of (sym c.again.ensures)
