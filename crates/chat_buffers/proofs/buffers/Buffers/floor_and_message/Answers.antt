use Rattle.std.proofs.Common.{rules, ◌≡◌, ◌∙◌, refl, sym, ap, subst, ℕ, max, Some, None, arith}
use Rattle.std.specs.BTreeMap as tree
use Rattle.std.specs.FinMap as map
use Rattle.std.specs.Option.{option_map, IfSome}
use Rattle.chat_change.specs.Order.{buffer_cmp}
use Rattle.chat_change.specs.Extent.{OfAccount, OfBuffer}
use Rattle.chat_change.specs.Key.{MessageOf}
use Rattle.chat_change.specs.declared.change.Change.TheVariants as value
use Rattle.chat_history.specs.Retention.{at_or_above}
use Rattle.chat_buffers.specs.MessageRef.{message_change, IsMessageOf}
use Rattle.chat_buffers.specs.Held.{numbered, held_floor}
use Rattle.chat_buffers.specs.Store.{Numbered, own_floor_in}
use Rattle.chat_buffers.proofs.SettleLemmas.{floor_around, own_account}
use Rattle.chat_buffers.proofs.LookupLemmas.{change_here, message_here, around_is, own_floor_here, no_own_floor, record_bears}
use Rattle.chat_buffers.proofs.buffers.Buffers.floor_and_message.Goals as goal
use Rattle.chat_buffers.proofs.buffers.Buffers.floor_and_message.Goals.{in-Some-Kept, in-Some-Gone, in-None}

above_none : (f g h : ℕ) → f ≡ g → h ≡ 0 → f ≡ max g h
above_none f g h e z = omega (arith, e, z)

pub returns-in_default-clause-floor : goal.returns-in_default-clause-floor
returns-in_default-clause-floor c =
    let ac = c.self.inside.accounts in
    let bs = c.self.inside.held in
    let s = c.args.self.now in
    let b = c.args.buffer.now in
    let none : tree.get buffer_cmp bs b ≡ None = search rules in
    above_none c.floor_ms-around.result (own_floor_in s (OfAccount b.account)) (own_floor_in s (OfBuffer b))
    (c.floor_ms-around.ensures ∙ sym (around_is ac bs s c.self.view_is b c.owner.result.now c.own_floor.result c.owner.ensures c.own_floor.ensures))
    (no_own_floor ac bs s c.self.view_is b none)

pub returns-in_default-clause-held : goal.returns-in_default-clause-held
returns-in_default-clause-held c =
    let ac = c.self.inside.accounts in
    let bs = c.self.inside.held in
    let b = c.args.buffer.now in
    let none : tree.get buffer_cmp bs b ≡ None = search rules in
    change_here ac bs c.args.self.now c.self.view_is b (MessageOf b c.args.id.now) None refl none

pub returns-clause-floor : goal.returns-clause-floor
returns-clause-floor c =
    let ac = c.self.inside.accounts in
    let bs = c.self.inside.held in
    let s = c.args.self.now in
    let b = c.args.buffer.now in
    let here : tree.get buffer_cmp bs b ≡ Some c.in-Some.held.now = search rules in
    let around = c.floor_ms-around.ensures ∙ sym (around_is ac bs s c.self.view_is b c.owner.result.now c.own_floor.result c.owner.ensures c.own_floor.ensures) in
    let own = c.floor_ms.ensures ∙ sym (own_floor_here ac bs s c.self.view_is b c.in-Some.held.now here) in
    c.max-floor_ms.ensures ∙ (λ i. max (around i) (own i))

pub returns-clause-held : goal.returns-clause-held
returns-clause-held c =
    let ac = c.self.inside.accounts in
    let bs = c.self.inside.held in
    let s = c.args.self.now in
    let b = c.args.buffer.now in
    let m = c.args.id.now in
    let h = c.in-Some.held.now in
    let f = floor_around ac b in
    let here : tree.get buffer_cmp bs b ≡ Some h = search rules in
    elim c.match-held_message.branch [
      | in-Some-Kept w ↦
          let there : map.get h.messages m ≡ Some w.in-Some-Kept.field-0.now = search rules in
          message_here ac bs s c.self.view_is b m h (Some w.in-Some-Kept.field-0.now) here there
          ∙ ap (λ x. option_map (λ (p : Numbered). p.change) (Some (numbered b m (max f (held_floor h)) x))) w.in-Some-Kept.field-0-is
          ∙ ap (option_map (message_change b m)) (sym w.message-is)
      | in-Some-Gone w ↦
          let there : map.get h.messages m ≡ Some w.in-Some-Gone.field-0.now = search rules in
          let around = c.floor_ms-around.ensures ∙ sym (around_is ac bs s c.self.view_is b c.owner.result.now c.own_floor.result c.owner.ensures c.own_floor.ensures) ∙ own_account ac bs s b.account c.self.view_is in
          let floor = c.max-floor_ms.ensures ∙ (λ i. max (around i) (c.floor_ms.ensures i)) in
          message_here ac bs s c.self.view_is b m h (Some w.in-Some-Gone.field-0.now) here there
          ∙ ap (λ x. option_map (λ (p : Numbered). p.change) (Some (numbered b m (max f (held_floor h)) x))) w.in-Some-Gone.field-0-is
          ∙ ap (λ t. Some (value.Redact b m t)) (sym (w.at_or_above.ensures ∙ (λ i. at_or_above (floor i) (w.get-in-Some-Gone.ensures i))))
          ∙ ap (option_map (message_change b m)) (sym w.message-is)
      | in-None w ↦
          let none : map.get h.messages m ≡ None = search rules in
          message_here ac bs s c.self.view_is b m h None here none
          ∙ ap (option_map (message_change b m)) (sym w.message-is)
    ]

pub returns-clause-bears : goal.returns-clause-bears
returns-clause-bears c =
    let bs = c.self.inside.held in
    let b = c.args.buffer.now in
    let m = c.args.id.now in
    let h = c.in-Some.held.now in
    let here : tree.get buffer_cmp bs b ≡ Some h = search rules in
    elim c.match-held_message.branch [
      | in-Some-Kept w ↦
          let there : map.get h.messages m ≡ Some w.in-Some-Kept.field-0.now = search rules in
          subst (λ x. IfSome x (IsMessageOf b m)) (sym w.message-is)
          (record_bears c.self.inside.accounts bs c.self.invariant b m h w.in-Some-Kept.post w.in-Some-Kept.field-0-1 here (there ∙ ap Some w.in-Some-Kept.field-0-is))
      | in-Some-Gone w ↦ subst (λ x. IfSome x (IsMessageOf b m)) (sym w.message-is) tt
      | in-None w ↦ subst (λ x. IfSome x (IsMessageOf b m)) (sym w.message-is) tt
    ]
