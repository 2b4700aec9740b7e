use Rattle.std.proofs.Common.{◌≡◌, ◌∙◌, [], sym, subst, rules}
use Rattle.std.specs.Prelude.{◌≢◌}
use Rattle.std.proofs.lemmas.Result.{IfErr-weaker}
use Rattle.bnc_server.specs.World.{node_at}
use Rattle.bnc_server.specs.HeldNode.{HeldWorld, held_world}
use Rattle.bnc_server.proofs.NodeLemmas.{on_ok}
use Rattle.bnc_server.proofs.PlaceLemmas.{node_there, handed_over, handed_text}
use Rattle.bnc_server.proofs.world.World.hand_over.Goals as goal
use Rattle.bnc_server.proofs.world.World.hand_over.Goals.{in-None, in-Some}

pub returns-clause-world : goal.returns-clause-world
returns-clause-world g c =
    let inside : HeldWorld = record { directory = c.self.inside.directory; facts = c.self.inside.facts; nodes = c.self.inside.nodes.items; selected = c.self.inside.selected } in
    on_ok c.match-take_late.result _ (λ w is.
    let held : inside ≡ held_world w = c.self.view_is ∙ is in
    let there = node_there inside w held c.args.sender c.index_mut.result.now c.index_mut.ensures.value (search rules) in
    handed_over inside w held c.args.sender c.args.receiver c.take_late.new.self (c.take_late.ensures.node (node_at w c.args.sender) there))

pub returns-clause-fault : goal.returns-clause-fault
returns-clause-fault g c =
    let inside : HeldWorld = record { directory = c.self.inside.directory; facts = c.self.inside.facts; nodes = c.self.inside.nodes.items; selected = c.self.inside.selected } in
    elim c.match-take_late.branch [
      | in-None w ↦ rw w.result-is tt
      | in-Some w ↦
          rw w.result-is (IfErr-weaker w.put_answer.result _ _ (λ fault says world is.
          let held : inside ≡ held_world world = c.self.view_is ∙ is in
          let there = node_there inside world held c.args.sender c.index_mut.result.now c.index_mut.ensures.value (search rules) in
          let answered = sym w.in-Some.is ∙ c.take_late.ensures.answer (node_at world c.args.sender) there in
          (says.0, subst (λ text. text ≢ []) (handed_text world c.args.sender c.args.receiver _ _ answered) says.1)) w.put_answer.ensures.fault)
    ]
