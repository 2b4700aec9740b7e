use Rattle.std.proofs.Common.{◌≡◌, ◌∙◌, ◌+◌, sym, subst, length, arith}
use Rattle.chat_buffers.specs.Store.{Store, IsKeyedStore}
use Rattle.chat_state.proofs.AccountSweepLemmas.{AreSwept, IsUpTo, stands_after, handled, passed, account_swept}
use Rattle.chat_state.proofs.store.Store.sweep_account.Goals as goal
use Rattle.chat_state.proofs.store.Store.sweep_account.Goals.{then-is_same, else-is_same}

pub sweep_floor-requires : goal.sweep_floor-requires
sweep_floor-requires c =
    let a = c.args.account.now in
    let d = c.buffer-item.result in
    let its : d.account ≡ a = sym c.owner.ensures ∙ c.is_same.ensures.0 c.if-is_same.true in
    let keyed = subst IsKeyedStore c.self.view_is c.self.invariant.0 in
    record { stands = stands_after a c.args.floor c.args.self.now c.loop-buffer.self c.args.buffers.now c.loop-buffer.buffer-index d c.loop-buffer-test.true (sym c.buffer-item.is) c.loop-buffer.invariant c.sweep.new.self its c.sweep.ensures keyed c.requires.stands }

pub loop-buffer-preserved : goal.loop-buffer-preserved
loop-buffer-preserved c =
    let a = c.args.account.now in
    let d = c.buffer-item.result in
    elim c.if-is_same.branch [
      | then-is_same w ↦
          let its : d.account ≡ a = sym c.owner.ensures ∙ c.is_same.ensures.0 w.if-is_same.true in
          subst (λ (x : Store). IsUpTo a c.args.floor c.args.self.now x c.args.buffers.now (c.loop-buffer.buffer-index + 1)) (sym w.self-is)
          (handled a c.args.floor c.args.self.now c.loop-buffer.self c.args.buffers.now c.loop-buffer.buffer-index d c.loop-buffer-test.true (sym c.buffer-item.is) c.loop-buffer.invariant w.sweep.new.self w.sweep_floor.new.self its w.sweep.ensures w.sweep_floor.ensures)
      | else-is_same w ↦
          let other : d.account ≡ a → ⊥ = λ its. cc (w.if-is_same.false, c.is_same.ensures.1 (c.owner.ensures ∙ its)) in
          subst (λ (x : Store). IsUpTo a c.args.floor c.args.self.now x c.args.buffers.now (c.loop-buffer.buffer-index + 1)) (sym w.self-is)
          (passed a c.args.floor c.args.self.now c.loop-buffer.self c.args.buffers.now c.loop-buffer.buffer-index d c.loop-buffer-test.true (sym c.buffer-item.is) c.loop-buffer.invariant other)
    ]

pub returns : goal.returns
returns c =
    let a = c.args.account.now in
    let all : c.loop-buffer.buffer-index ≡ length c.args.buffers.now = omega (arith, c.loop-buffer-test.false, c.loop-buffer.auto.buffer-index-end) in
    account_swept a c.args.floor c.args.buffers.now c.args.self.now c.loop-buffer.self (subst IsKeyedStore c.self.view_is c.self.invariant.0) c.requires.listed c.loop-buffer.invariant.0
    (subst (AreSwept a c.args.floor c.loop-buffer.self c.args.buffers.now) all c.loop-buffer.invariant.1)
