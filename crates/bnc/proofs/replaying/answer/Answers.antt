use Rattle.std.proofs.Common.{refl}
use Rattle.std.proofs.lemmas.Result.{err_from_is_err_and}
use Rattle.bnc.proofs.ReplayLemmas.{cut_by_fault, cut_unsent, all_sent}
use Rattle.bnc.proofs.replaying.answer.Goals as goal

pub returns-in_err-answered : goal.returns-in_err-answered
returns-in_err-answered g c =
    let p = err_from_is_err_and c.from_residual.result c.from_residual.ensures.1 in
    rw (p.1, p.2) (cut_by_fault _ _ _ _ _ _ _ c.requires.empty c.flush-flushed.ensures.bytes _ _ c.in_err-answered.ensures.script c.in_err-answered.ensures.fault refl)

pub returns-in-Err : goal.returns-in-Err
returns-in-Err g c = cut_unsent _ _ _ _ _ _ _ c.requires.empty c.flush-flushed.ensures.bytes c.in_ok-answered.ensures.end c.in_ok-answered.ensures.script

pub returns-in-Ok : goal.returns-in-Ok
returns-in-Ok g c = all_sent _ _ _ _ _ _ _ c.requires.empty c.flush-flushed.ensures.bytes _ _ refl c.in-Ok.ensures.ok c.in_ok-answered.ensures.end c.in_ok-answered.ensures.script
