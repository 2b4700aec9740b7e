use Rattle.std.proofs.Common.{◌∙◌, sym, ap, subst, Some, None, Option}
use Rattle.std.specs.Map.Iter.{deref}
use Rattle.std.specs.Option.{option_map}
use Rattle.chat_change.specs.Buffer.{Buffer}
use Rattle.chat_change.specs.Order.{buffer_cmp}
use Rattle.chat_history.specs.Choice.{IsFirst}
use Rattle.chat_history.specs.Latest.{latest_moment}
use Rattle.chat_buffers.specs.Ahead.{Entries, IsAhead}
use Rattle.chat_buffers.specs.BufferWalk.{Walk}
use Rattle.chat_buffers.specs.Sought.{all_past}
use Rattle.chat_buffers.specs.Store.{Store, history_in}
use Rattle.chat_buffers.proofs.SoughtLemmas.{IsLeft, ahead_left, ahead_step, latest_here, nothing_left, all_behind, are_of, passed_over, found_first}
use Rattle.chat_buffers.proofs.buffer_walk.BufferWalk.next_sought.Goals as goal

pub loop-buffer-init : goal.loop-buffer-init
loop-buffer-init c =
    let h = history_in c.self.inside.buffers.now in
    let s = c.args.sought.now in (
      c.self.invariant,
      subst (λ (w : Walk). IsLeft h s w.last c.self.inside.later) c.self.view_is
          (ahead_left h s (option_map deref c.self.inside.last) c.self.inside.later c.self.invariant),
      sym (ap (λ (w : Walk). w.store) c.self.view_is),
    )

pub loop-buffer-preserved : goal.loop-buffer-preserved
loop-buffer-preserved c =
    let h = history_in c.loop-buffer.self-inside.buffers.now in
    let s = c.args.sought.now in
    let from = c.args.self.now.last in
    let last : Option Buffer = option_map deref c.loop-buffer.self-inside.last in
    let ahead = subst (λ (es : Entries). IsAhead h last es) c.in-Some.ensures.steps c.loop-buffer.invariant.0 in
    let left = subst (λ (es : Entries). IsLeft h s from es) c.in-Some.ensures.steps c.loop-buffer.invariant.1 in (
      ahead_step h last c.in-Some.buffer.now c.in-Some.held.now c.next.new.self ahead,
      passed_over h s from c.in-Some.buffer.now c.in-Some.held.now c.next.new.self left (c.is_any_sought.ensures.none c.if-is_any_sought.false),
      c.loop-buffer.invariant.2,
    )

pub is_any_sought-requires : goal.is_any_sought-requires
is_any_sought-requires c =
    let h = history_in c.loop-buffer.self-inside.buffers.now in
    let s = c.args.sought.now in
    let from = c.args.self.now.last in
    let left = subst (λ (es : Entries). IsLeft h s from es) c.in-Some.ensures.steps c.loop-buffer.invariant.1 in
    record { of = are_of h s from c.in-Some.buffer.now c.in-Some.held.now c.next.new.self left }

pub invariant_of-self-then-is_end : goal.invariant_of-self-then-is_end
invariant_of-self-then-is_end c =
    let h = history_in c.loop-buffer.self-inside.buffers.now in
    let last : Option Buffer = option_map deref c.loop-buffer.self-inside.last in
    let ahead = subst (λ (es : Entries). IsAhead h last es) c.in-Some.ensures.steps c.loop-buffer.invariant.0 in
    ahead_step h last c.in-Some.buffer.now c.in-Some.held.now c.next.new.self ahead

pub returns-then-is_end-clause-first : goal.returns-then-is_end-clause-first
returns-then-is_end-clause-first c =
    let h = history_in c.loop-buffer.self-inside.buffers.now in
    let s = c.args.sought.now in
    let from = c.args.self.now.last in
    let left = subst (λ (es : Entries). IsLeft h s from es) c.in-Some.ensures.steps c.loop-buffer.invariant.1 in
    subst (λ (x : Store). IsFirst buffer_cmp (all_past s from (history_in x)) None) (sym c.loop-buffer.invariant.2)
    (all_behind h s from c.in-Some.buffer.now c.in-Some.held.now c.next.new.self left (c.is_end.ensures c.if-is_end.true))

pub invariant_of-self-then-is_any_sought : goal.invariant_of-self-then-is_any_sought
invariant_of-self-then-is_any_sought c =
    let h = history_in c.loop-buffer.self-inside.buffers.now in
    let last : Option Buffer = option_map deref c.loop-buffer.self-inside.last in
    let ahead = subst (λ (es : Entries). IsAhead h last es) c.in-Some.ensures.steps c.loop-buffer.invariant.0 in
    ahead_step h last c.in-Some.buffer.now c.in-Some.held.now c.next.new.self ahead

pub returns-then-is_any_sought-clause-first : goal.returns-then-is_any_sought-clause-first
returns-then-is_any_sought-clause-first c =
    let h = history_in c.loop-buffer.self-inside.buffers.now in
    let s = c.args.sought.now in
    let from = c.args.self.now.last in
    let left = subst (λ (es : Entries). IsLeft h s from es) c.in-Some.ensures.steps c.loop-buffer.invariant.1 in
    subst (λ (x : Store). IsFirst buffer_cmp (all_past s from (history_in x)) (Some c.in-Some.buffer.now)) (sym c.loop-buffer.invariant.2)
    (found_first h s from c.in-Some.buffer.now c.in-Some.held.now c.next.new.self left (c.is_any_sought.ensures.some c.if-is_any_sought.true))

pub returns-then-is_any_sought-clause-latest : goal.returns-then-is_any_sought-clause-latest
returns-then-is_any_sought-clause-latest c =
    let h = history_in c.loop-buffer.self-inside.buffers.now in
    let last : Option Buffer = option_map deref c.loop-buffer.self-inside.last in
    let ahead = subst (λ (es : Entries). IsAhead h last es) c.in-Some.ensures.steps c.loop-buffer.invariant.0 in
    latest_here h last c.in-Some.buffer.now c.in-Some.held.now c.next.new.self ahead c.in_ok-latest.field-0 c.in_ok-latest.ensures
    ∙ ap (λ (x : Store). latest_moment (history_in x) c.in-Some.buffer.now) (sym c.loop-buffer.invariant.2)

pub returns-clause-first : goal.returns-clause-first
returns-clause-first c =
    let h = history_in c.loop-buffer.self-inside.buffers.now in
    let s = c.args.sought.now in
    let from = c.args.self.now.last in
    subst (λ (x : Store). IsFirst buffer_cmp (all_past s from (history_in x)) None) (sym c.loop-buffer.invariant.2)
    (nothing_left h s from (subst (λ (es : Entries). IsLeft h s from es) c.in_default.ensures.steps.0 c.loop-buffer.invariant.1))
