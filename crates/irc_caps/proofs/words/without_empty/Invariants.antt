use Rattle.std.proofs.Common.{◌≡◌, map, take, filter}
use Rattle.irc_caps.specs.Words.{is_word}
use Rattle.irc_caps.proofs.words.without_empty.Given as goal

abbrev pub invariant-loop-i : goal.invariant-loop-i
invariant-loop-i l = map (λ w. w.now) l.words.items ≡ filter is_word (map (λ w. w.now) (take l.i l.parts))
