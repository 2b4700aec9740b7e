use Rattle.std.proofs.Common.{map, take}
use Rattle.std.specs.Io.KnownBytes.{Appends}
use Rattle.change_lines.specs.Words.{words_text}
use Rattle.change_lines.proofs.words.put_words.Given as goal

-- the words so far are written
abbrev pub invariant-loop-word : goal.invariant-loop-word
invariant-loop-word g l = Appends (g.W.Write.contents l.fn.writer) (g.W.Write.contents l.writer) (words_text (map (λ w. w.now) (take l.word-index l.words)))
