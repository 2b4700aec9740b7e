use Rattle.network_laws.specs.Past.{IsAmong}
use Rattle.network_laws.proofs.PastLemmas.{told-of-its-own, told-the-same}
use Rattle.network_laws.proofs.a_client_is_told_of_its_own_past_alone.Goals as goal

pub returns : goal.returns
returns g c = record {
  alone = λ config events session todo waiting heard nick told. told-of-its-own g.C.Connection.facts c.answers_are_of_the_own_past.ensures.alone config;
  same = λ these config events session todo waiting heard nick told has. told-the-same g.C.Connection.facts c.answers_are_of_the_own_past.ensures.alone (IsAmong these) config has;
}
