use Rattle.attach.proofs.StepLemmas.{a_place_is_free_or_held as lemma}
use Rattle.attach.proofs.laws.a_place_is_free_or_held.Goals as goal

pub returns : goal.returns
returns c = lemma
