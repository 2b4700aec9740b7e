use Rattle.std.proofs.Common.{◌++◌, ◌∙◌, ap, take}
use Rattle.std.proofs.Math.Logic.{∥∥₁_map}
use Rattle.network_client.proofs.RingLemmas.{may_send, settled}
use Rattle.network_client.proofs.ring.send_owed.Goals as goal

pub send-requires : goal.send-requires
send-requires g c =
    ∥∥₁_map c.requires.told (may_send (g.C.Connection.sent c.args.connection.now) _ c.first_owed-owed.result.now c.min.result c.requires.origin c.first_owed-owed.ensures.first)

pub returns-in-Ok-clause-told : goal.returns-in-Ok-clause-told
returns-in-Ok-clause-told g c =
    let sent = g.C.Connection.sent c.args.connection.now in
    let first = take c.min.result c.first_owed-owed.result.now in
    (λ i. c.in-Ok.ensures.sent i ++ (ap (λ a. a.owed) c.settle.ensures) i)
    ∙ settled sent c.args.ring.now.owed c.first_owed-owed.result.now c.min.result c.in-Ok.count c.first_owed-owed.ensures.first c.in-Ok.ensures.count
