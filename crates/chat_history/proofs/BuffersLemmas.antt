-- Buffers in their order.
use Rattle.std.proofs.Common.{List}
use Rattle.std.specs.List.Sorted.{IsStrictlySortedBy}
use Rattle.chat_change.specs.Buffer.{Buffer}
use Rattle.chat_change.specs.Order.{buffer_cmp}
use Rattle.chat_change.proofs.CallerLemmas.{buffer_total, buffer_exact}
use Rattle.chat_history.specs.Choice.{Among}
use Rattle.chat_history.specs.Buffers.{in_buffer_order}
use Rattle.chat_history.proofs.EntryLemmas.{ordered_member, member_ordered, ordered_by_key}

pub in_order_member : (bs : List Buffer) (b : Buffer) → Among b (in_buffer_order bs) → Among b bs
in_order_member bs b m = ordered_member buffer_total buffer_exact (λ (b : Buffer). b) bs b m

pub member_in_order : (bs : List Buffer) (b : Buffer) → Among b bs → Among b (in_buffer_order bs)
member_in_order bs b m = member_ordered buffer_total buffer_exact (λ (b : Buffer). b) bs b m (λ d n e. e)

pub buffers_sorted : (bs : List Buffer) → IsStrictlySortedBy buffer_cmp (in_buffer_order bs)
buffers_sorted bs = ordered_by_key buffer_total buffer_exact (λ (b : Buffer). b) bs
