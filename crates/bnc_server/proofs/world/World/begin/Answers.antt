use Rattle.std.proofs.Common.{◌≡◌, ◌∙◌, ◌++◌, take, drop, length, sym, ap, map, rules}
use Rattle.std.proofs.Math.Seq.{take-append_seam}
use Rattle.bnc_server.specs.Links.{hearing}
use Rattle.bnc_server.specs.HeldNode.{HeldWorld, held_node, held_world}
use Rattle.bnc_server.proofs.PlaceLemmas.{on_ok_then, restarted}
use Rattle.bnc_server.proofs.world.World.begin.Goals as goal

pub returns : goal.returns
returns c =
    let inside : HeldWorld = record { directory = c.self.inside.directory; facts = c.self.inside.facts; nodes = c.self.inside.nodes.items; selected = c.self.inside.selected } in
    let heard = c.all_hear.new.nodes in
    let behind = drop (length heard) c.self.inside.nodes.items in
    let same_length : c.self.inside.nodes.len ≡ length heard = sym (c.all_hear.auto.nodes ∙ c.deref_mut.ensures.len) in
    let written : take c.self.inside.nodes.len (heard ++ behind) ≡ heard = ap (λ n. take n (heard ++ behind)) same_length ∙ take-append_seam heard behind in
    on_ok_then c.begin.result _ _ c.begin.ensures (λ begins w is.
    let held : inside ≡ held_world w = c.self.view_is ∙ is in
    let all : heard ≡ map held_node (map (hearing c.args.place c.args.life.now) w.nodes) =
    c.all_hear.ensures w.nodes (c.deref_mut.ensures.value ∙ ap (λ (h : HeldWorld). h.nodes) held) in
    restarted inside w held c.args.place c.args.life.now _ c.index_mut.result.now c.begin.new.self c.in_ok-facts.facts c.deref.result.now
    (written ∙ all) c.index_mut.ensures.value (search rules) c.in_ok-facts.ensures (c.deref.ensures.value ∙ c.in_ok-lives.ensures.lives w is) begins)
