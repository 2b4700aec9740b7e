use Rattle.std.proofs.Common.{refl, inl, inr}
use Rattle.bnc_keep.proofs.ending.KeeperEnd.without_config.Goals as goal

pub returns-in-Ok : goal.returns-in-Ok
returns-in-Ok c = inl (rw (c.in-Ok.ensures.fault, c.in-Ok.ensures.name) at c.from.ensures)

pub returns-in-Err : goal.returns-in-Err
returns-in-Err c = inr refl
