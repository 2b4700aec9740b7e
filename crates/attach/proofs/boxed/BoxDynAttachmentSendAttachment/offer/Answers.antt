use Rattle.std.proofs.Common.{rules}
use Rattle.attach.proofs.BoxLemmas.{on_err, same_box}
use Rattle.attach.proofs.boxed.BoxDynAttachmentSendAttachment.offer.Goals as goal

pub returns-clause-err : goal.returns-clause-err
returns-clause-err g c = on_err c.offer.result (λ e. same_box c.args.self.now _ c.offer.new.self _ e (search rules)) c.offer.ensures.1.1
