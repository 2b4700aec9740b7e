use Rattle.std.proofs.Common.{rules, ◌≡◌, Some, ap, ◌∙◌}
use Rattle.std.proofs.Math.Logic.{∥∥₁_map}
use Rattle.cluster_directory.specs.Terms.{Terms}
use Rattle.node_peers.specs.Talk.{reminding}
use Rattle.node_peers.proofs.ServedLemmas.{reminds}
use Rattle.node_peers.proofs.peer.Peer.remind.Goals as goal

pub invariant_of-self-in_default-remind : goal.invariant_of-self-in_default-remind
invariant_of-self-in_default-remind g c =
    let is : c.self.inside.dialogue.noted ≡ Some c.in-Some.field-0 = search rules in (
      c.self.invariant.0,
      c.self.invariant.1,
      c.self.invariant.2,
      λ e. ∥∥₁_map (c.self.invariant.3 e) (reminds c.in-Some.field-0 c.args.turn.now.at c.args.life.now c.remind.new.self is
          (c.in_default-remind.ensures.said ∙ ap (λ (u : Terms). reminding u.me c.args.life.now c.args.turn.now.at c.self.inside.dialogue) c.args.turn.now.are_own)),
    )
