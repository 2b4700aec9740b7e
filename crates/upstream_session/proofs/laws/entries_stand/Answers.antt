use Rattle.upstream_session.proofs.LinesLemmas.{entry_from_new}
use Rattle.upstream_session.proofs.laws.entries_stand.Goals as goal

pub returns : goal.returns
returns c = entry_from_new
