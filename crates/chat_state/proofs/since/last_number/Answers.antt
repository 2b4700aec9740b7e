use Rattle.std.proofs.Common.{◌<◌, length, ◌∙◌, arith}
use Rattle.std.proofs.lemmas.Bool.Decides.{nat_tests}
use Rattle.chat_state.specs.Turn.{number_at}
use Rattle.chat_state.proofs.DeltaLemmas.{greatest_at_end}
use Rattle.chat_state.proofs.since.last_number.Goals as goal

pub returns : goal.returns
returns c =
    let some : 0 < length c.args.turn.now = (let e = c.is_empty.ensures in let f = c.if-is_empty.false in grind (arith, nat_tests)) in
    c.number.ensures
    ∙ greatest_at_end number_at c.index-turn-turn.result c.args.turn.now c.args.from c.requires some c.index-turn-turn.is
