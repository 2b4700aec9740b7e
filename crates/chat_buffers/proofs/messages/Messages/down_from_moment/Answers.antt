use Rattle.std.proofs.Common.{ap, not, nat_le}
use Rattle.std.specs.Ordering.{flip_args}
use Rattle.chat_history.specs.Visible.{by_spot}
use Rattle.chat_buffers.proofs.KeptRecordLemmas.{kept_alike, from_before}
use Rattle.chat_buffers.proofs.messages.Messages.down_from_moment.Goals as goal

pub returns : goal.returns
returns c =
    kept_alike (flip_args by_spot) _ c.args.self.now c.down_from.result (λ r. not (nat_le c.args.at r.at)) (λ r _. ap not (from_before c.args.at r.at)) c.down_from.ensures
