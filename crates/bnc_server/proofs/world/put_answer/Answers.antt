use Rattle.std.proofs.Common.{[], sym, subst}
use Rattle.std.specs.Prelude.{◌≢◌}
use Rattle.std.proofs.lemmas.Result.{IfErr-weaker}
use Rattle.bnc_server.specs.World.{ack_text}
use Rattle.bnc_server.proofs.PlaceLemmas.{refusal_some}
use Rattle.bnc_server.proofs.world.put_answer.Goals as goal

pub returns-in-Err-clause-fault : goal.returns-in-Err-clause-fault
returns-in-Err-clause-fault g c =
    IfErr-weaker c.put_link_fault.result _ _ (λ fault is. (is, subst (λ answer. ack_text answer ≢ []) (sym c.in-Err.is) (refusal_some c.in-Err.fault))) c.put_link_fault.ensures.fault
