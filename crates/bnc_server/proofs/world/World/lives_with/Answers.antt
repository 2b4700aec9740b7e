use Rattle.std.proofs.Common.{◌≡◌, ◌∙◌, ap, map, set, length}
use Rattle.std.proofs.lemmas.List.{length-map}
use Rattle.std.proofs.Math.ListN.{length-set}
use Rattle.bnc_server.specs.HeldNode.{HeldNode, HeldWorld, held_world}
use Rattle.bnc_server.proofs.PlaceLemmas.{lives_are}
use Rattle.bnc_server.proofs.world.World.lives_with.Goals as goal

pub returns : goal.returns
returns c =
    let inside : HeldWorld = record { directory = c.self.inside.directory; facts = c.self.inside.facts; nodes = c.self.inside.nodes.items; selected = c.self.inside.selected } in
    let lives : c.in_ok-lives.lives.items ≡ map (λ (h : HeldNode). h.life) inside.nodes = c.in_ok-lives.ensures ∙ ap (map (λ (h : HeldNode). h.life)) c.deref.ensures.value in
    let one : c.in_ok-lives-2.field-0 ≡ c.args.life.now = c.in_ok-lives-2.ensures.equal in record {
      count = ap (λ l. length (set l c.args.place c.in_ok-lives-2.field-0)) lives ∙ length-set _ _ _ ∙ length-map inside.nodes (λ (h : HeldNode). h.life) ∙ c.self.invariant.0;
      lives = λ w is.
          let held : inside ≡ held_world w = c.self.view_is ∙ is in
          (λ i. set (lives i) c.args.place (one i)) ∙ lives_are inside w held c.args.place c.args.life.now;
    }
