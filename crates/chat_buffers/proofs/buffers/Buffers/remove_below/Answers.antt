use Rattle.std.proofs.Common.{rules, ◌≡◌, refl, sym, subst, Some, None}
use Rattle.std.specs.BTreeMap as tree
use Rattle.chat_change.specs.Extent.{OfBuffer}
use Rattle.chat_change.specs.Order.{buffer_cmp}
use Rattle.ordered_maps.specs.MapView.{IsWith}
use Rattle.chat_buffers.specs.Store.{IsKeyedStore}
use Rattle.chat_buffers.specs.Entering.{IsSwept}
use Rattle.chat_buffers.proofs.SettleLemmas.{seen}
use Rattle.chat_buffers.proofs.FloorLemmas.{swept_keyed, swept_none, swept_store}
use Rattle.chat_buffers.proofs.buffers.Buffers.remove_below.Goals as goal

pub invariant_of-self : goal.invariant_of-self
invariant_of-self c = subst (λ m. IsKeyedStore (seen c.self.inside.accounts m)) (sym c.get_mut.follows.holds-at-none) c.self.invariant

pub returns-in_default : goal.returns-in_default
returns-in_default c =
    let ac = c.self.inside.accounts in
    let bs = c.self.inside.held in
    let none : tree.get buffer_cmp bs c.args.buffer.now ≡ None = search rules in
    subst (λ m. IsSwept (OfBuffer c.args.buffer.now) c.args.floor c.args.self.now (seen ac m)) (sym c.get_mut.follows.holds-at-none)
    (swept_none c.args.buffer.now c.args.floor ac bs c.self.invariant c.args.self.now none c.self.view_is)

pub invariant_of-self-2 : goal.invariant_of-self-2
invariant_of-self-2 c =
    let ac = c.self.inside.accounts in
    let bs = c.self.inside.held in
    let b = c.args.buffer.now in
    let f = c.args.floor in
    let h = c.in-Some.held.now in
    let w = record h { messages = c.remove_below.new.self } in
    let new = c.get_mut.follows.lender w in
    let here : tree.get buffer_cmp bs b ≡ Some h = search rules in
    let up : IsWith buffer_cmp bs.entries b w new.entries = ((c.get_mut.follows.holds w).3 (search rules)).0 in
    swept_keyed (OfBuffer b) f (seen ac bs) (seen ac new) (swept_store b f ac bs c.self.invariant new h c.remove_below.new.self here up c.remove_below.ensures (seen ac bs) refl) c.self.invariant

pub returns : goal.returns
returns c =
    let ac = c.self.inside.accounts in
    let bs = c.self.inside.held in
    let b = c.args.buffer.now in
    let f = c.args.floor in
    let h = c.in-Some.held.now in
    let w = record h { messages = c.remove_below.new.self } in
    let new = c.get_mut.follows.lender w in
    let here : tree.get buffer_cmp bs b ≡ Some h = search rules in
    let up : IsWith buffer_cmp bs.entries b w new.entries = ((c.get_mut.follows.holds w).3 (search rules)).0 in
    swept_store b f ac bs c.self.invariant new h c.remove_below.new.self here up c.remove_below.ensures c.args.self.now c.self.view_is
