use Rattle.std.proofs.Common.{◌≡◌, map, take}
use Rattle.irc_caps.specs.CapSet.{names_among}
use Rattle.irc_caps.proofs.words.names_among.Given as goal

abbrev pub invariant-loop-i : goal.invariant-loop-i
invariant-loop-i l = map (λ w. w.now) l.names.items ≡ names_among l.caps (take l.i l.list)
