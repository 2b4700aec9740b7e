use Rattle.chat_history.proofs.DeltaLemmas.{delta_carries, UpTo-both, delta_within}
use Rattle.chat_history.proofs.laws.delta_carries.Goals as goal

pub returns : goal.returns
returns c = record {
  carried = λ start from taken earlier more l h. delta_carries start from taken earlier more l h;
  kept = λ start upto taken more earlier later l h. UpTo-both start upto taken more earlier later l h;
  reached = delta_within;
}
