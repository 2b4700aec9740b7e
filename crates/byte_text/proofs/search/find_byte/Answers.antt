use Rattle.byte_text.proofs.PositionLemmas.{near_found}
use Rattle.byte_text.proofs.search.find_byte.Goals as goal

pub returns-then-at-lt-LANES-clause-place : goal.returns-then-at-lt-LANES-clause-place
returns-then-at-lt-LANES-clause-place c = near_found _ 16 c.args.bytes.now c.place_near-at.result c.place_near-at.ensures c.if-at-lt-LANES.true c.if-bytes-lt-LANES.false
