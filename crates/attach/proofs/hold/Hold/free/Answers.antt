use Rattle.std.proofs.Common.{rules}
use Rattle.attach.proofs.StepLemmas.{frees_at}
use Rattle.attach.proofs.hold.Hold.free.Goals as goal

pub swap-requires : goal.swap-requires
swap-requires c = (search rules, search rules, frees_at _ _ _ _ _ (search rules))
