use Rattle.std.proofs.Common.{◌∙◌, refl, sym, ap, subst, arith}
use Rattle.chat_change.specs.Extent.{OfAccount}
use Rattle.chat_buffers.specs.Store.{Store, IsKeyedStore, own_floor_in}
use Rattle.chat_buffers.specs.Entering.{AreBuffersOf, IsSwept}
use Rattle.chat_state.proofs.SweepLemmas.{floor_placed}
use Rattle.chat_state.proofs.AccountSweepLemmas.{entered_stands, entered_listed}
use Rattle.chat_state.proofs.store.Store.place_account_floor.Goals as goal

pub sweep_account-requires-clause-listed : goal.sweep_account-requires-clause-listed
sweep_account-requires-clause-listed c =
    let mid = c.enter.new.self in
    let before = subst (λ (x : Store). AreBuffersOf x c.args.account c.in-Ok.buffers.items) c.self.view_is c.in-Ok.ensures in
    let after = entered_listed c.args.account c.args.at c.args.number c.args.self.now mid (c.if-not-enter.ensures.entered refl) c.in-Ok.buffers.items before in
    subst (λ xs. AreBuffersOf mid c.in-Ok-try_clone.floored xs) (sym c.deref.ensures.value) (subst (λ x. AreBuffersOf mid x c.in-Ok.buffers.items) (sym c.in-Ok-try_clone.ensures) after)

pub sweep_account-requires-clause-stands : goal.sweep_account-requires-clause-stands
sweep_account-requires-clause-stands c =
    let stands = entered_stands c.args.account c.args.at c.args.number c.args.self.now c.enter.new.self (c.if-not-enter.ensures.entered refl) in
    let is = ap (λ x. own_floor_in c.enter.new.self (OfAccount x)) c.in-Ok-try_clone.ensures ∙ stands in
    omega (arith, is)

pub returns-clause-placed : goal.returns-clause-placed
returns-clause-placed c _ =
    floor_placed (OfAccount c.args.account) c.args.at c.args.number c.args.self.now c.enter.new.self c.sweep_account.new.self
    (subst IsKeyedStore c.self.view_is c.self.invariant.0) (c.if-not-enter.ensures.entered refl)
    (subst (λ x. IsSwept (OfAccount x) c.args.at c.enter.new.self c.sweep_account.new.self) c.in-Ok-try_clone.ensures c.sweep_account.ensures)
