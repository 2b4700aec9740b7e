use Rattle.attach.proofs.StepLemmas.{two_stands_have_different_places as lemma}
use Rattle.attach.proofs.laws.two_stands_have_different_places.Goals as goal

pub returns : goal.returns
returns c = lemma
