use Rattle.std.proofs.Common.{rules, ◌≡◌, ◌≤◌, ◌∙◌, refl, sym, subst, Some, None}
use Rattle.std.specs.BTreeMap as tree
use Rattle.std.specs.Option.{IfSome}
use Rattle.chat_change.specs.Order.{buffer_cmp}
use Rattle.chat_change.proofs.CallerLemmas.{buffer_total}
use Rattle.ordered_maps.specs.MapView.{IsWith}
use Rattle.ordered_maps.proofs.CallerLemmas.{written}
use Rattle.chat_buffers.specs.Stamps.{TakesStamp}
use Rattle.chat_buffers.specs.Store.{IsKeyedStore}
use Rattle.chat_buffers.specs.Entering.{TakesFloor, HasNoFloorTo}
use Rattle.chat_buffers.proofs.SettleLemmas.{seen, own_account, unchanged_store, removed_keyed}
use Rattle.chat_buffers.proofs.AccountLemmas.{takes_floor, floor_above, floor_absent}
use Rattle.chat_buffers.proofs.buffers.Buffers.remove_floor_to.Goals as goal

pub invariant_of-self : goal.invariant_of-self
invariant_of-self c = subst (λ m. IsKeyedStore (seen c.self.inside.accounts m)) (sym c.get_mut.follows.holds-at-none) c.self.invariant

pub returns-in_err-held-clause-done : goal.returns-in_err-held-clause-done
returns-in_err-held-clause-done c _ =
    let ac = c.self.inside.accounts in
    let bs = c.self.inside.held in
    let b = c.args.buffer.now in
    let gone : tree.get buffer_cmp bs b ≡ None = search rules in
    subst (λ m. HasNoFloorTo b c.args.floor (seen ac m)) (sym c.get_mut.follows.holds-at-none) (floor_absent ac bs b gone c.args.floor)

pub invariant_of-self-2 : goal.invariant_of-self-2
invariant_of-self-2 c =
    let ac = c.self.inside.accounts in
    let bs = c.self.inside.held in
    let b = c.args.buffer.now in
    let h = c.in_ok-held.held.now in
    let w = record h { floor = c.take_floor_to.new.own } in
    let new = c.get_mut.follows.lender w in
    let here : tree.get buffer_cmp bs b ≡ Some h = search rules in
    let up : IsWith buffer_cmp bs.entries b w new.entries = ((c.get_mut.follows.holds w).3 (search rules)).0 in
    let reached = subst (λ x. c.args.floor ≤ x) (own_account ac bs c.args.self.now b.account c.self.view_is) c.requires.reached in
    elim c.take_floor_to.result as (λ o. c.take_floor_to.result ≡ o → IsKeyedStore (seen ac new)) [
      | None ↦ λ e. subst IsKeyedStore (sym (unchanged_store ac bs new b w (here ∙ (λ i. Some (record h { floor = sym (c.take_floor_to.ensures.kept e) i }))) up)) c.self.invariant
      | Some n ↦ λ e.
          let one = subst (λ o. IfSome o (λ n. TakesStamp h.floor c.args.floor n c.take_floor_to.new.own)) e c.take_floor_to.ensures.one in
          let store = takes_floor ac bs b h here one.at n c.args.floor one.was one.reached reached new c.take_floor_to.new.own one.left up in
          subst IsKeyedStore (sym store.left) (removed_keyed (seen ac bs) _ c.self.invariant)
    ] refl

pub returns-clause-one : goal.returns-clause-one
returns-clause-one c =
    let ac = c.self.inside.accounts in
    let bs = c.self.inside.held in
    let b = c.args.buffer.now in
    let h = c.in_ok-held.held.now in
    let w = record h { floor = c.take_floor_to.new.own } in
    let new = c.get_mut.follows.lender w in
    let here : tree.get buffer_cmp bs b ≡ Some h = search rules in
    let up : IsWith buffer_cmp bs.entries b w new.entries = ((c.get_mut.follows.holds w).3 (search rules)).0 in
    let reached = subst (λ x. c.args.floor ≤ x) (own_account ac bs c.args.self.now b.account c.self.view_is) c.requires.reached in
    elim c.take_floor_to.result as (λ o. c.take_floor_to.result ≡ o → IfSome o (λ n. TakesFloor c.args.self.now b c.args.floor n (seen ac new))) [
      | None ↦ λ _. tt
      | Some n ↦ λ e.
          let one = subst (λ o. IfSome o (λ n. TakesStamp h.floor c.args.floor n c.take_floor_to.new.own)) e c.take_floor_to.ensures.one in
          subst (λ s. TakesFloor s b c.args.floor n (seen ac new)) c.self.view_is
          (takes_floor ac bs b h here one.at n c.args.floor one.was one.reached reached new c.take_floor_to.new.own one.left up)
    ] refl

pub returns-clause-done : goal.returns-clause-done
returns-clause-done c none =
    let ac = c.self.inside.accounts in
    let bs = c.self.inside.held in
    let b = c.args.buffer.now in
    let h = c.in_ok-held.held.now in
    let w = record h { floor = c.take_floor_to.new.own } in
    let new = c.get_mut.follows.lender w in
    let here : tree.get buffer_cmp bs b ≡ Some h = search rules in
    let up : IsWith buffer_cmp bs.entries b w new.entries = ((c.get_mut.follows.holds w).3 (search rules)).0 in
    floor_above ac new b w (written buffer_total bs.entries new.entries b w up) c.args.floor (c.take_floor_to.ensures.done none)

pub returns-clause-kept : goal.returns-clause-kept
returns-clause-kept c none =
    let ac = c.self.inside.accounts in
    let bs = c.self.inside.held in
    let b = c.args.buffer.now in
    let h = c.in_ok-held.held.now in
    let w = record h { floor = c.take_floor_to.new.own } in
    let new = c.get_mut.follows.lender w in
    let here : tree.get buffer_cmp bs b ≡ Some h = search rules in
    let up : IsWith buffer_cmp bs.entries b w new.entries = ((c.get_mut.follows.holds w).3 (search rules)).0 in
    unchanged_store ac bs new b w (here ∙ (λ i. Some (record h { floor = sym (c.take_floor_to.ensures.kept none) i }))) up ∙ c.self.view_is
