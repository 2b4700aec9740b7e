use Rattle.std.proofs.Common.{◌++◌, refl, subst, sym}
use Rattle.std.proofs.Math.Logic.{∥∥₁_map}
use Rattle.attach.specs.Attachment.{AttachmentState}
use Rattle.network_log.specs.Telling.{IsToldToClient}
use Rattle.network_client.proofs.RingLemmas.{first_told}
use Rattle.network_client.proofs.telling.owe.Goals as goal

pub send_all-requires-clause-told : goal.send_all-requires-clause-told
send_all-requires-clause-told g c =
    let sent = g.C.Connection.sent c.args.connection.now in
    let serial = g.C.Connection.serial c.args.connection.now in
    let received = g.C.Connection.received c.args.connection.now in
    ∥∥₁_map c.requires.told (λ t.
    subst (λ (r : AttachmentState). IsToldToClient g.C.Connection.facts serial received (sent ++ r.owed)) (sym c.in-Err.ensures.err)
    (first_told (sent ++ c.args.ring.now.owed) c.args.bytes.now refl t))
