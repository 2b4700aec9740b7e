use Rattle.std.proofs.Common.{rules, ◌≡◌, ◌∙◌, refl, sym, subst, Some, None}
use Rattle.std.specs.BTreeMap as tree
use Rattle.std.specs.Option.{IfSome}
use Rattle.chat_change.specs.Order.{buffer_cmp}
use Rattle.ordered_maps.specs.MapView.{IsWith}
use Rattle.ordered_maps.proofs.CallerLemmas.{written}
use Rattle.chat_buffers.specs.Messages as spec
use Rattle.chat_change.proofs.CallerLemmas.{buffer_total}
use Rattle.chat_buffers.specs.Store.{IsKeyedStore}
use Rattle.chat_buffers.specs.Entering.{TakesOne, IsSweptOf}
use Rattle.chat_buffers.proofs.SettleLemmas.{seen, unchanged_store, removed_keyed, takes_one, swept_here, swept_absent}
use Rattle.chat_buffers.proofs.buffers.Buffers.remove_first_below.Goals as goal

pub invariant_of-self : goal.invariant_of-self
invariant_of-self c = subst (λ m. IsKeyedStore (seen c.self.inside.accounts m)) (sym c.get_mut.follows.holds-at-none) c.self.invariant

pub returns-in_err-held-clause-done : goal.returns-in_err-held-clause-done
returns-in_err-held-clause-done c _ =
    let ac = c.self.inside.accounts in
    let bs = c.self.inside.held in
    let gone : tree.get buffer_cmp bs c.args.buffer.now ≡ None = search rules in
    subst (λ m. IsSweptOf c.args.buffer.now c.args.floor (seen ac m)) (sym c.get_mut.follows.holds-at-none) (swept_absent ac bs c.self.invariant c.args.buffer.now gone c.args.floor)

pub invariant_of-self-2 : goal.invariant_of-self-2
invariant_of-self-2 c =
    let ac = c.self.inside.accounts in
    let bs = c.self.inside.held in
    let b = c.args.buffer.now in
    let h = c.in_ok-held.held.now in
    let w = record h { messages = c.remove_first_below.new.self } in
    let new = c.get_mut.follows.lender w in
    let here : tree.get buffer_cmp bs b ≡ Some h = search rules in
    let up : IsWith buffer_cmp bs.entries b w new.entries = ((c.get_mut.follows.holds w).3 (search rules)).0 in
    elim c.remove_first_below.result as (λ o. c.remove_first_below.result ≡ o → IsKeyedStore (seen ac new)) [
      | None ↦ λ e.
          subst IsKeyedStore (sym (unchanged_store ac bs new b w (here ∙ (λ i. Some (record h { messages = sym (c.remove_first_below.ensures.kept e) i }))) up)) c.self.invariant
      | Some n ↦ λ e.
          let one = subst (λ o. IfSome o (λ n. spec.TakesOne h.messages c.args.floor n c.remove_first_below.new.self)) e c.remove_first_below.ensures.one in
          let store = takes_one ac bs c.self.invariant b h here one.post n one.was c.args.floor new c.remove_first_below.new.self one.low one.left up in
          subst IsKeyedStore (sym store.left) (removed_keyed (seen ac bs) _ c.self.invariant)
    ] refl

pub returns-clause-one : goal.returns-clause-one
returns-clause-one c =
    let ac = c.self.inside.accounts in
    let bs = c.self.inside.held in
    let b = c.args.buffer.now in
    let h = c.in_ok-held.held.now in
    let w = record h { messages = c.remove_first_below.new.self } in
    let new = c.get_mut.follows.lender w in
    let here : tree.get buffer_cmp bs b ≡ Some h = search rules in
    let up : IsWith buffer_cmp bs.entries b w new.entries = ((c.get_mut.follows.holds w).3 (search rules)).0 in
    elim c.remove_first_below.result as (λ o. c.remove_first_below.result ≡ o → IfSome o (λ n. TakesOne c.args.self.now b c.args.floor n (seen ac new))) [
      | None ↦ λ _. tt
      | Some n ↦ λ e.
          let one = subst (λ o. IfSome o (λ n. spec.TakesOne h.messages c.args.floor n c.remove_first_below.new.self)) e c.remove_first_below.ensures.one in
          subst (λ s. TakesOne s b c.args.floor n (seen ac new)) c.self.view_is
          (takes_one ac bs c.self.invariant b h here one.post n one.was c.args.floor new c.remove_first_below.new.self one.low one.left up)
    ] refl

pub returns-clause-done : goal.returns-clause-done
returns-clause-done c none =
    let ac = c.self.inside.accounts in
    let bs = c.self.inside.held in
    let b = c.args.buffer.now in
    let h = c.in_ok-held.held.now in
    let w = record h { messages = c.remove_first_below.new.self } in
    let new = c.get_mut.follows.lender w in
    let here : tree.get buffer_cmp bs b ≡ Some h = search rules in
    let up : IsWith buffer_cmp bs.entries b w new.entries = ((c.get_mut.follows.holds w).3 (search rules)).0 in
    let same = unchanged_store ac bs new b w (here ∙ (λ i. Some (record h { messages = sym (c.remove_first_below.ensures.kept none) i }))) up in
    swept_here ac new (subst IsKeyedStore (sym same) c.self.invariant) b w (written buffer_total bs.entries new.entries b w up) c.args.floor (c.remove_first_below.ensures.done none)

pub returns-clause-kept : goal.returns-clause-kept
returns-clause-kept c none =
    let ac = c.self.inside.accounts in
    let bs = c.self.inside.held in
    let b = c.args.buffer.now in
    let h = c.in_ok-held.held.now in
    let w = record h { messages = c.remove_first_below.new.self } in
    let new = c.get_mut.follows.lender w in
    let here : tree.get buffer_cmp bs b ≡ Some h = search rules in
    let up : IsWith buffer_cmp bs.entries b w new.entries = ((c.get_mut.follows.holds w).3 (search rules)).0 in
    unchanged_store ac bs new b w (here ∙ (λ i. Some (record h { messages = sym (c.remove_first_below.ensures.kept none) i }))) up ∙ c.self.view_is
