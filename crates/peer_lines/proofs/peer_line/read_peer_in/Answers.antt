use Rattle.std.proofs.Common.{subst}
use Rattle.change_lines.specs.Words.{behind}
use Rattle.peer_lines.specs.LineReading.{IsAnswer, line_of_kind}
use Rattle.peer_lines.proofs.LineLemmas.{reading_is}
use Rattle.peer_lines.proofs.peer_line.read_peer_in.Goals as goal

pub returns : goal.returns
returns c =
    reading_is c.args.bytes.now c.read_kind.result
    (subst (λ w. IsAnswer (line_of_kind w c.args.bytes.now (behind c.args.bytes.now)) c.read_kind.result) c.split_word.ensures.word
    (subst (λ r. IsAnswer (line_of_kind c.split_word.result.0.now c.args.bytes.now r) c.read_kind.result) c.split_word.ensures.behind c.read_kind.ensures))
