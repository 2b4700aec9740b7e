use Rattle.std.proofs.Common.{◌∙◌, refl, ap, reverse, ◌++◌, subst, List}
use Rattle.chat_change.specs.Buffer.{Buffer}
use Rattle.chat_buffers.specs.Entering.{AreBuffersOf, IsAddedOf}
use Rattle.chat_buffers.specs.Store.{Store}
use Rattle.chat_buffers.proofs.AddedLemmas.{to_add, all_added, walk_on, walk_ends, walk_shortens, last_first}
use Rattle.chat_buffers.proofs.buffers.Buffers.buffers_of.Goals as goal

pub loop-buffers-init : goal.loop-buffers-init
loop-buffers-init c = ap (λ (l : List Buffer). l ++ to_add c.args.account.now (reverse c.range-below.result)) c.new-buffers.ensures.items

pub loop-buffers-smaller : goal.loop-buffers-smaller
loop-buffers-smaller c =
    walk_shortens c.args.account.now c.loop-buffers.below c.next_back.new.self c.loop-buffers.buffers.items c.push_of.new.buffers.items c.next_back.result c.next_back.ensures.steps
    (subst (IsAddedOf c.args.account.now _ c.loop-buffers.buffers.items c.push_of.new.buffers.items) c.if-branch.true c.in_ok-push_of.ensures)

pub loop-buffers-preserved : goal.loop-buffers-preserved
loop-buffers-preserved c =
    walk_on c.args.account.now (reverse c.loop-buffers.below) (reverse c.next_back.new.self) c.loop-buffers.buffers.items c.push_of.new.buffers.items c.next_back.result
    (last_first c.loop-buffers.below c.next_back.new.self c.next_back.result c.next_back.ensures.steps)
    (subst (IsAddedOf c.args.account.now _ c.loop-buffers.buffers.items c.push_of.new.buffers.items) c.if-branch.true c.in_ok-push_of.ensures)
    ∙ c.loop-buffers.invariant

pub loop-buffers-2-init : goal.loop-buffers-2-init
loop-buffers-2-init c = refl

pub loop-buffers-2-preserved : goal.loop-buffers-2-preserved
loop-buffers-2-preserved c =
    walk_on c.args.account.now c.loop-buffers-2.above c.next.new.self c.loop-buffers-2.buffers.items c.push_of-in-loop-buffers-2.new.buffers.items c.next.result
    c.next.ensures.steps
    (subst (IsAddedOf c.args.account.now _ c.loop-buffers-2.buffers.items c.push_of-in-loop-buffers-2.new.buffers.items) c.if-branch-2.true c.in_ok-push_of-2.ensures)
    ∙ c.loop-buffers-2.invariant

pub returns : goal.returns
returns c =
    let a = c.args.account.now in
    let found = c.push_of-in-loop-buffers-2.new.buffers.items in
    let from_below =
    walk_ends a (reverse c.loop-buffers.below) (reverse c.next_back.new.self) c.loop-buffers.buffers.items c.push_of.new.buffers.items c.next_back.result
    (last_first c.loop-buffers.below c.next_back.new.self c.next_back.result c.next_back.ensures.steps)
    (subst (IsAddedOf a _ c.loop-buffers.buffers.items c.push_of.new.buffers.items) c.if-branch.false c.in_ok-push_of.ensures)
    ∙ c.loop-buffers.invariant in
    let from_both =
    walk_ends a c.loop-buffers-2.above c.next.new.self c.loop-buffers-2.buffers.items found c.next.result
    c.next.ensures.steps
    (subst (IsAddedOf a _ c.loop-buffers-2.buffers.items found) c.if-branch-2.false c.in_ok-push_of-2.ensures)
    ∙ c.loop-buffers-2.invariant in
    subst (λ (s : Store). AreBuffersOf s a found) c.self.view_is
    (all_added c.self.inside.accounts c.self.inside.held c.range-below.ensures.ordered a c.in_ok-middle.middle c.in_ok-middle.ensures c.range-below.result c.range-above.result
    (c.range-below.ensures.between tt) (c.range-above.ensures.between tt) found
    (from_both ∙ ap (λ (l : List Buffer). l ++ to_add a c.range-above.result) from_below))
