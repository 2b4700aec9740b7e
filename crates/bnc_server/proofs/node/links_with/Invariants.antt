use Rattle.std.proofs.Common.{◌≡◌, map, take}
use Rattle.bnc_server.specs.Links.{link_with}
use Rattle.bnc_server.proofs.node.links_with.Given as goal

abbrev pub invariant-loop-life : goal.invariant-loop-life
invariant-loop-life l = l.links.items ≡ map (link_with l.me) (take l.life-index l.lives)
