use Rattle.std.proofs.Common.{◌≡◌, ◌<◌, cond, List, ◌++◌, ◌∷◌, [], Some, None, length, sym, ◌∙◌, ap, subst, arith}
use Rattle.std.specs.List.{filter}
use Rattle.chat_change.specs.Buffer.{Buffer}
use Rattle.chat_change.specs.Order.{buffer_cmp}
use Rattle.chat_change.specs.declared.change.Change.{Change}
use Rattle.chat_change.specs.declared.change.Change.TheVariants.{Floor}
use Rattle.chat_buffers.specs.declared.sought.Sought.TheVariants.{Outdated}
use Rattle.chat_buffers.specs.Store.{Store, history_in}
use Rattle.chat_history.specs.Choice.{IsFirst}
use Rattle.chat_buffers.specs.Sought.{sought_buffers, is_past, all_past}
use Rattle.chat_buffers.specs.BufferWalk.{Walk}
use Rattle.chat_state.proofs.BuffersLemmas.{IsMade, made_none, made_more, made_all, walk_step, walk_end}
use Rattle.chat_state.proofs.retention.floors_at.Goals as goal

fewer : (xs ys : List Buffer) (b : Buffer) → xs ≡ b ∷ ys → length ys < length xs
fewer xs ys b e = omega (arith, ap length e)

pub loop-buffer-init : goal.loop-buffer-init
loop-buffer-init c =
    let f = λ (b : Buffer). Floor b c.args.at in
    let bs = sought_buffers (Outdated c.args.at) (history_in c.args.store.now) in (
      subst (λ (w : Walk). IsMade f bs c.new-floors.result.items w.last) (sym c.walk-walk.ensures)
          (subst (λ (fs : List Change). IsMade f bs fs None) (sym c.new-floors.ensures.items) (made_none f bs)),
      ap (λ (w : Walk). w.store) c.walk-walk.ensures,
    )

pub loop-buffer-smaller : goal.loop-buffer-smaller
loop-buffer-smaller c =
    let last = c.loop-buffer.walk.last in
    let b = c.in-Some.buffer.now in
    let bs = sought_buffers (Outdated c.args.at) (history_in c.args.store.now) in
    let first = subst (λ (x : Store). IsFirst buffer_cmp (all_past (Outdated c.args.at) last (history_in x)) (Some b)) c.loop-buffer.invariant.1 c.in-Some.ensures.first in
    subst (λ (w : Walk). length (filter (is_past w.last) bs) < length (filter (is_past last) bs)) (sym c.in-Some.ensures.walked)
    (fewer (filter (is_past last) bs) (filter (is_past (Some b)) bs) b (walk_step (Outdated c.args.at) (history_in c.args.store.now) last b first))

pub loop-buffer-preserved : goal.loop-buffer-preserved
loop-buffer-preserved c =
    let last = c.loop-buffer.walk.last in
    let b = c.in-Some.buffer.now in
    let f = λ (b : Buffer). Floor b c.args.at in
    let bs = sought_buffers (Outdated c.args.at) (history_in c.args.store.now) in
    let first = subst (λ (x : Store). IsFirst buffer_cmp (all_past (Outdated c.args.at) last (history_in x)) (Some b)) c.loop-buffer.invariant.1 c.in-Some.ensures.first in
    let step = walk_step (Outdated c.args.at) (history_in c.args.store.now) last b first in
    let pushed : c.push_floor.new.floors.items ≡ c.loop-buffer.floors.items ++ Floor b c.args.at ∷ [] = c.push_floor.ensures ∙ ap (λ t. cond t (c.loop-buffer.floors.items ++ Floor b c.args.at ∷ []) c.loop-buffer.floors.items) c.if-not-push_floor.false in (
      subst (λ (w : Walk). IsMade f bs c.push_floor.new.floors.items w.last) (sym c.in-Some.ensures.walked)
          (subst (λ (fs : List Change). IsMade f bs fs (Some b)) (sym pushed) (made_more f bs c.loop-buffer.floors.items last b step c.loop-buffer.invariant.0)),
      ap (λ (w : Walk). w.store) c.in-Some.ensures.walked ∙ c.loop-buffer.invariant.1,
    )

pub returns : goal.returns
returns c =
    let last = c.loop-buffer.walk.last in
    let f = λ (b : Buffer). Floor b c.args.at in
    let bs = sought_buffers (Outdated c.args.at) (history_in c.args.store.now) in
    let none = walk_end (Outdated c.args.at) (history_in c.args.store.now) last
    (subst (λ (x : Store). IsFirst buffer_cmp (all_past (Outdated c.args.at) last (history_in x)) None) c.loop-buffer.invariant.1 c.in_default.ensures.first) in
    made_all f bs c.loop-buffer.floors.items last none c.loop-buffer.invariant.0
