use Rattle.std.proofs.Common.{subst}
use Rattle.chat_buffers.specs.Kept.{IsLatestKept}
use Rattle.chat_buffers.specs.Messages.{Messages}
use Rattle.chat_buffers.proofs.KeptRecordLemmas.{latest_kept}
use Rattle.chat_buffers.proofs.messages.Messages.latest.Goals as goal

pub returns : goal.returns
returns c =
    subst (λ (ms : Messages). IsLatestKept ms c.latest.result) c.self.view_is
    (latest_kept c.self.inside.by_spot c.self.inside.by_id c.self.invariant c.latest.result c.latest.ensures)
