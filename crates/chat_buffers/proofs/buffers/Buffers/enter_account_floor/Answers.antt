use Rattle.std.proofs.Common.{◌≤◌, ◌∙◌, sym, subst}
use Rattle.std.specs.FinMap as map
use Rattle.chat_change.specs.declared.change.Change.TheVariants.{AccountFloor}
use Rattle.ordered_maps.specs.MapView.{held_by}
use Rattle.chat_buffers.specs.Store.{IsKeyedStore}
use Rattle.chat_buffers.specs.Entering.{IsEntered}
use Rattle.chat_buffers.specs.Held.{store_in}
use Rattle.chat_buffers.proofs.SettleLemmas.{seen, own_account, account_number, entered_keyed}
use Rattle.chat_buffers.proofs.AccountLemmas.{account_entered}
use Rattle.chat_buffers.proofs.buffers.Buffers.enter_account_floor.Goals as goal

-- where the floor found no room
pub invariant_of-self : goal.invariant_of-self
invariant_of-self c = subst (λ es. IsKeyedStore (store_in (map.from_entries es) (held_by c.self.inside.held.entries))) (sym c.in_err-before.ensures.refused) c.self.invariant

pub invariant_of-self-2 : goal.invariant_of-self-2
invariant_of-self-2 c =
    let ac = c.self.inside.accounts in
    let bs = c.self.inside.held in
    let new = c.exchange.new.map in
    let a = c.args.account in
    let t = c.args.stamp.at in
    let low = subst (λ x. x ≤ t) (own_account ac bs c.args.self.now a c.self.view_is) c.requires.fits in
    entered_keyed (seen ac bs) c.args.stamp.number (AccountFloor a t) (seen new bs) (account_entered ac new bs a t c.args.stamp.number c.in_ok-before.ensures.put low) c.self.invariant

pub returns-clause-before : goal.returns-clause-before
returns-clause-before c =
    c.number_of.ensures ∙ sym (account_number c.self.inside.accounts c.self.inside.held c.args.self.now c.args.account c.in_ok-before.before c.self.view_is (sym c.in_ok-before.ensures.before))

pub returns-clause-entered : goal.returns-clause-entered
returns-clause-entered c =
    let ac = c.self.inside.accounts in
    let bs = c.self.inside.held in
    let new = c.exchange.new.map in
    let a = c.args.account in
    let t = c.args.stamp.at in
    let low = subst (λ x. x ≤ t) (own_account ac bs c.args.self.now a c.self.view_is) c.requires.fits in
    subst (λ s. IsEntered s c.args.stamp.number (AccountFloor a t) (seen new bs)) c.self.view_is
    (account_entered ac new bs a t c.args.stamp.number c.in_ok-before.ensures.put low)
