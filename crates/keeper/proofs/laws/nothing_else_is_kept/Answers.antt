use Rattle.keeper.proofs.StemLemmas.{lives_have_no_others}
use Rattle.keeper.proofs.laws.nothing_else_is_kept.Goals as goal

pub returns : goal.returns
returns c = lives_have_no_others
