use Rattle.std.proofs.Common.{sym, ap, subst, not, Bool, List}
use Rattle.std.specs.Borrow.{Bor}
use Rattle.std.specs.Map.{values_of}
use Rattle.std.specs.Ordering.{flip_args}
use Rattle.std.specs.Range.Bound.{bound_map}
use Rattle.std.specs.BTreeMap.Range.{is_past_end}
use Rattle.std.specs.declared.ops.Bound.{Bound}
use Rattle.chat_change.specs.Record.{Record}
use Rattle.chat_history.specs.Cut.{latest_first, of_record}
use Rattle.chat_history.specs.Visible.{by_spot}
use Rattle.chat_history.specs.declared.cut.Spot.{Spot}
use Rattle.chat_buffers.specs.Ends.{is_from}
use Rattle.chat_buffers.specs.Messages.{Messages}
use Rattle.chat_buffers.specs.Kept.{AreKept}
use Rattle.chat_buffers.proofs.KeptRecordLemmas.{range_kept, kept_reversed, kept_alike, within_start}
use Rattle.chat_buffers.proofs.messages.Messages.up_from.Goals as goal

pub returns : goal.returns
returns c =
    let start : Bound Spot = bound_map (λ (x : Bor Spot). x.now) c.args.start in
    let p : Spot → Bool = λ s. not (is_past_end latest_first start s) in
    let falling : List Record = values_of c.until.result in
    let now = c.args.self.now in
    subst (λ (rs : List Record). AreKept by_spot (is_from start) now rs) (sym c.over.ensures)
    (kept_alike by_spot (λ (r : Record). p (of_record r)) now _ (is_from start) (λ r _. within_start start (of_record r))
    (kept_reversed (flip_args by_spot) (λ (r : Record). p (of_record r)) now falling
    (subst (λ (ms : Messages). AreKept (flip_args by_spot) (λ r. p (of_record r)) ms falling) c.self.view_is
    (range_kept c.self.inside.by_spot c.self.inside.by_id c.self.invariant c.until.ensures.ordered p falling
    (ap values_of (c.until.ensures.between))))))
