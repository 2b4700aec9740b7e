use Rattle.std.proofs.Common.{sym, ◌≤◌, length, arith}
use Rattle.std.proofs.lemmas.Bool.Decides.{nat_tests}
use Rattle.std.proofs.lemmas.List.{length-take-le, take_all}
use Rattle.chat_state.proofs.since.first_pieces.Goals as goal

pub slice_bounds-result-end : goal.slice_bounds-result-end
slice_bounds-result-end c =
    let l : 256 ≤ length c.args.turn.now = (let t = c.if-turn-gt-DELTA_LIMIT.true in grind (arith, nat_tests)) in
    sym (length-take-le 256 c.args.turn.now l)

pub returns-else-turn-gt-DELTA_LIMIT : goal.returns-else-turn-gt-DELTA_LIMIT
returns-else-turn-gt-DELTA_LIMIT c =
    let l : length c.args.turn.now ≤ 256 = (let t = c.if-turn-gt-DELTA_LIMIT.false in grind (arith, nat_tests)) in
    sym (take_all 256 c.args.turn.now l)
