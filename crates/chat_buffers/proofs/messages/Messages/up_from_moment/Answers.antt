use Rattle.std.proofs.Common.{nat_le}
use Rattle.chat_history.specs.Visible.{by_spot}
use Rattle.chat_buffers.proofs.KeptRecordLemmas.{kept_alike, from_before}
use Rattle.chat_buffers.proofs.messages.Messages.up_from_moment.Goals as goal

pub returns : goal.returns
returns c =
    kept_alike by_spot _ c.args.self.now c.up_from.result (λ r. nat_le c.args.at r.at) (λ r _. from_before c.args.at r.at) c.up_from.ensures
