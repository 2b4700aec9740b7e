use Rattle.std.proofs.Common.{rules, ◌≡◌, Some, ap, ◌∙◌}
use Rattle.std.proofs.Math.Logic.{∥∥₁_map}
use Rattle.cluster_directory.specs.Terms.{Terms}
use Rattle.node_peers.specs.Talk.{repeating}
use Rattle.node_peers.proofs.ServedLemmas.{repeats}
use Rattle.node_peers.proofs.peer.Peer.repeat_hello.Goals as goal

pub invariant_of-self-in_default-repeat_hello : goal.invariant_of-self-in_default-repeat_hello
invariant_of-self-in_default-repeat_hello g c =
    let is : c.self.inside.dialogue.noted ≡ Some c.in-Some.place = search rules in (
      c.self.invariant.0,
      c.self.invariant.1,
      c.self.invariant.2,
      λ e. ∥∥₁_map (c.self.invariant.3 e) (repeats c.in-Some.place c.args.turn.now.at c.repeat_hello.new.self is
          (c.in_default-repeat_hello.ensures.said ∙ ap (λ (u : Terms). repeating u c.in-Some.place c.args.turn.now.at c.self.inside.dialogue) c.args.turn.now.are_own)),
    )
