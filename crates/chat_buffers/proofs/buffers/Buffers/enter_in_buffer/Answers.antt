use Rattle.std.proofs.Common.{rules, ◌≡◌, ◌∙◌, refl, sym, ap, subst, ℕ, Some, None, Ok, Err, OnOk, OnErr}
use Rattle.std.proofs.lemmas.Result.{IfOk-weaker, on_ok_weaker, on_err_weaker}
use Rattle.std.specs.FinMap as map
use Rattle.std.specs.BTreeMap as tree
use Rattle.chat_change.specs.Buffer.{Buffer}
use Rattle.chat_change.specs.declared.change.Change.{Change}
use Rattle.chat_change.specs.Extent.{OfBuffer, value_of}
use Rattle.chat_change.specs.Order.{buffer_cmp}
use Rattle.chat_change.specs.Key.{key_of, key_extent}
use Rattle.ordered_maps.specs.MapView.{IsWith}
use Rattle.chat_buffers.specs.Store.{Store, IsKeyedStore}
use Rattle.chat_buffers.specs.Entering.{FitsStore, IsEntered}
use Rattle.chat_buffers.specs.Held.{Fits, Settles}
use Rattle.chat_buffers.specs.declared.held.Held.{Held}
use Rattle.chat_buffers.proofs.SettleLemmas.{Accounts, Tree, seen, floor_around, fits_from, has_here, own_account, number_here, number_absent, entered, entered_keyed, unchanged_store}
use Rattle.chat_buffers.proofs.buffers.Buffers.enter_in_buffer.Goals as goal

-- a piece of a buffer of which something was held
held_entered : (ac : Accounts) (bs : Tree) (s : Store) → seen ac bs ≡ s → (x : Change) (n : ℕ) (b : Buffer) → key_extent (key_of x) ≡ OfBuffer b → (h w : Held) → tree.get buffer_cmp bs b ≡ Some h
    → FitsStore s x → ((f : ℕ) → Fits f h x → Settles f (Some h) n x w) → (new : Tree) → IsWith buffer_cmp bs.entries b w new.entries → IsEntered (seen ac bs) n x (seen ac new)
held_entered ac bs s is x n b at h w has fits settles new up =
    let f = floor_around ac b in
    let fit = fits_from s f h b (own_account ac bs s b.account is) (has_here ac bs s b (Some h) is has) x at fits in
    entered ac bs new x n b at (Some h) w has up (settles f fit)

pub invariant_of-self : goal.invariant_of-self
invariant_of-self c = subst (λ m. IsKeyedStore (seen c.self.inside.accounts m)) (sym c.get_mut.follows.holds-at-none) c.self.invariant

pub invariant_of-self-in_default-get_mut : goal.invariant_of-self-in_default-get_mut
invariant_of-self-in_default-get_mut c = subst (λ m. IsKeyedStore (seen c.self.inside.accounts m)) (sym c.get_mut.follows.holds-at-none) c.self.invariant

pub enter_first-requires-clause-absent : goal.enter_first-requires-clause-absent
enter_first-requires-clause-absent c k e =
    let ac = c.self.inside.accounts in
    let bs = c.self.inside.held in
    let b = c.in-Buffer.buffer.now in
    let gone : tree.get buffer_cmp bs b ≡ None = search rules in
    ap (λ m. map.get (seen ac m) k) c.get_mut.follows.holds-at-none ∙ has_here ac bs (seen ac bs) b None refl gone k (e ∙ ap OfBuffer c.in-Ok.ensures)

pub returns-in_default-get_mut-clause-before : goal.returns-in_default-get_mut-clause-before
returns-in_default-get_mut-clause-before c =
    let ac = c.self.inside.accounts in
    let bs = c.self.inside.held in
    let b = c.in-Buffer.buffer.now in
    let at = sym (ap key_extent c.key.ensures) ∙ sym c.extent.ensures ∙ ap value_of c.in-Buffer.is in
    let gone : tree.get buffer_cmp bs b ≡ None = search rules in
    sym (number_absent ac bs c.args.self.now b (key_of c.args.change) c.self.view_is at gone)

pub returns-in_default-get_mut-clause-entered : goal.returns-in_default-get_mut-clause-entered
returns-in_default-get_mut-clause-entered c =
    subst (λ s. IsEntered s c.args.number c.args.change c.enter_first.new.self) (ap (seen c.self.inside.accounts) c.get_mut.follows.holds-at-none ∙ c.self.view_is) c.in_ok-enter_first.ensures.entered

pub invariant_of-self-2 : goal.invariant_of-self-2
invariant_of-self-2 c =
    let ac = c.self.inside.accounts in
    let bs = c.self.inside.held in
    let b = c.in-Buffer.buffer.now in
    let at = sym (ap key_extent c.key.ensures) ∙ sym c.extent.ensures ∙ ap value_of c.in-Buffer.is in
    let x = c.args.change in
    let h = c.in-Some.held.now in
    let w = c.settle.new.held in
    let here : tree.get buffer_cmp bs b ≡ Some h = search rules in
    let new = c.get_mut.follows.lender w in
    let up : IsWith buffer_cmp bs.entries b w new.entries = ((c.get_mut.follows.holds w).3 (search rules)).0 in
    elim c.settle.result as (λ t. c.settle.result ≡ t → IsKeyedStore (seen ac new)) [
      | Ok n ↦ λ e.
          let settled = subst (λ t. OnOk t ((f : ℕ) → Fits f h x → Settles f (Some h) c.args.number x w)) e c.settle.ensures.settled in
          entered_keyed (seen ac bs) c.args.number x (seen ac new) (held_entered ac bs c.args.self.now c.self.view_is x c.args.number b at h w here c.requires.fits settled new up) c.self.invariant
      | Err f ↦ λ e. subst IsKeyedStore (sym (unchanged_store ac bs new b w (here ∙ ap Some (sym (subst (λ t. OnErr t (w ≡ h)) e c.settle.ensures.refused))) up)) c.self.invariant
    ] refl

pub returns-clause-before : goal.returns-clause-before
returns-clause-before c =
    let ac = c.self.inside.accounts in
    let bs = c.self.inside.held in
    let b = c.in-Buffer.buffer.now in
    let at = sym (ap key_extent c.key.ensures) ∙ sym c.extent.ensures ∙ ap value_of c.in-Buffer.is in
    let h = c.in-Some.held.now in
    let here : tree.get buffer_cmp bs b ≡ Some h = search rules in
    IfOk-weaker c.settle.result _ _ (λ _ e. e ∙ sym (number_here ac bs c.args.self.now b (key_of c.args.change) h c.self.view_is at here)) c.settle.ensures.before

pub returns-clause-entered : goal.returns-clause-entered
returns-clause-entered c =
    let ac = c.self.inside.accounts in
    let bs = c.self.inside.held in
    let b = c.in-Buffer.buffer.now in
    let at = sym (ap key_extent c.key.ensures) ∙ sym c.extent.ensures ∙ ap value_of c.in-Buffer.is in
    let x = c.args.change in
    let h = c.in-Some.held.now in
    let w = c.settle.new.held in
    let here : tree.get buffer_cmp bs b ≡ Some h = search rules in
    let new = c.get_mut.follows.lender w in
    let up : IsWith buffer_cmp bs.entries b w new.entries = ((c.get_mut.follows.holds w).3 (search rules)).0 in
    on_ok_weaker c.settle.result
    (λ settled. subst (λ s. IsEntered s c.args.number x (seen ac new)) c.self.view_is (held_entered ac bs c.args.self.now c.self.view_is x c.args.number b at h w here c.requires.fits settled new up)) c.settle.ensures.settled

pub returns-clause-refused : goal.returns-clause-refused
returns-clause-refused c =
    let ac = c.self.inside.accounts in
    let bs = c.self.inside.held in
    let b = c.in-Buffer.buffer.now in
    let at = sym (ap key_extent c.key.ensures) ∙ sym c.extent.ensures ∙ ap value_of c.in-Buffer.is in
    let h = c.in-Some.held.now in
    let w = c.settle.new.held in
    let here : tree.get buffer_cmp bs b ≡ Some h = search rules in
    let new = c.get_mut.follows.lender w in
    let up : IsWith buffer_cmp bs.entries b w new.entries = ((c.get_mut.follows.holds w).3 (search rules)).0 in
    on_err_weaker c.settle.result (λ e. unchanged_store ac bs new b w (here ∙ ap Some (sym e)) up ∙ c.self.view_is) c.settle.ensures.refused
