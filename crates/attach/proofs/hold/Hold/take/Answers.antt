use Rattle.std.proofs.Common.{rules}
use Rattle.attach.proofs.StepLemmas.{claims_at}
use Rattle.attach.proofs.hold.Hold.take.Goals as goal

pub compare_exchange-found-requires : goal.compare_exchange-found-requires
compare_exchange-found-requires c = (search rules, search rules, claims_at _ _ _ _ _ (search rules) (search rules))
