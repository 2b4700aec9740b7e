use Rattle.attach.proofs.StepLemmas.{a_held_place_is_taken as lemma}
use Rattle.attach.proofs.laws.a_held_place_is_taken.Goals as goal

pub returns : goal.returns
returns c = lemma
