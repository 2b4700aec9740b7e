use Rattle.byte_text.proofs.PositionLemmas.{first_is_position}
use Rattle.byte_text.proofs.search.find_by_vectors.Goals as goal

pub returns-clause-place : goal.returns-clause-place
returns-clause-place c = first_is_position _ c.args.bytes.now c.find_byte.result c.find_byte.ensures
