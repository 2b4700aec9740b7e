use Rattle.std.proofs.Common.{◌∙◌, ap, subst, true, ◌&&◌, Bool}
use Rattle.std.specs.Borrow.{Bor}
use Rattle.std.specs.Map.{values_of}
use Rattle.std.specs.Ordering.{flip_args}
use Rattle.std.specs.Range.Bound.{bound_map}
use Rattle.std.specs.BTreeMap.Range.{is_from_start}
use Rattle.std.specs.declared.ops.Bound.{Bound}
use Rattle.chat_change.specs.Record.{Record}
use Rattle.chat_history.specs.Cut.{latest_first, of_record}
use Rattle.chat_history.specs.Visible.{by_spot}
use Rattle.chat_history.specs.declared.cut.Spot.{Spot}
use Rattle.chat_buffers.specs.Ends.{is_until}
use Rattle.chat_buffers.specs.Messages.{Messages}
use Rattle.chat_buffers.specs.Kept.{AreKept}
use Rattle.chat_buffers.proofs.KeptRecordLemmas.{range_kept, kept_alike, within_end}
use Rattle.chat_buffers.proofs.messages.Messages.down_from.Goals as goal

pub returns : goal.returns
returns c =
    let end : Bound Spot = bound_map (λ (x : Bor Spot). x.now) c.args.end in
    let p : Spot → Bool = λ s. is_from_start latest_first end s && true in
    let now = c.args.self.now in
    kept_alike (flip_args by_spot) (λ (r : Record). p (of_record r)) now c.over.result (is_until end) (λ r _. within_end end (of_record r))
    (subst (λ (ms : Messages). AreKept (flip_args by_spot) (λ r. p (of_record r)) ms c.over.result) c.self.view_is
    (range_kept c.self.inside.by_spot c.self.inside.by_id c.self.invariant c.from.ensures.ordered p c.over.result
    (c.over.ensures ∙ ap values_of (c.from.ensures.between))))
