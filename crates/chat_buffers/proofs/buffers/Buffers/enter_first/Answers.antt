use Rattle.std.proofs.Common.{◌≡◌, ◌∙◌, refl, sym, ap, subst, ℕ, Some, None, cond}
use Rattle.std.specs.FinMap as map
use Rattle.std.specs.BTreeMap as tree
use Rattle.chat_change.specs.declared.change.Change.{Change}
use Rattle.chat_change.specs.Buffer.{Buffer}
use Rattle.chat_change.specs.Extent.{OfBuffer}
use Rattle.chat_change.specs.Order.{buffer_cmp}
use Rattle.chat_change.specs.Key.{Key, key_of, key_extent, same_key}
use Rattle.ordered_maps.specs.MapView.{held_by, IsWith}
use Rattle.chat_buffers.specs.Store.{Store, IsKeyedStore}
use Rattle.chat_buffers.specs.Entering.{FitsStore, IsEntered, beside}
use Rattle.chat_buffers.specs.Held.{Fits, Settles, held_piece, store_in}
use Rattle.chat_buffers.specs.declared.held.Held.{Held}
use Rattle.chat_buffers.proofs.SettleLemmas.{Accounts, Tree, seen, floor_around, fits_from, has_here, own_account, entered, entered_keyed}
use Rattle.chat_buffers.proofs.buffers.Buffers.enter_first.Goals as goal

-- a piece of a buffer of which nothing was there before
module _ (ac : Accounts) (bs : Tree) (s : Store) (is : seen ac bs ≡ s) (x : Change) (n : ℕ) (b : Buffer) (at : key_extent (key_of x) ≡ OfBuffer b) (absent : (k : Key) → key_extent k ≡ OfBuffer b → map.get s k ≡ None) (h w : Held) (nothing : (f : ℕ) (k : Key) → held_piece f (Some h) k ≡ None) where
  settles_first : Settles (floor_around ac b) (Some h) n x w → Settles (floor_around ac b) (tree.get buffer_cmp bs b) n x w
  settles_first settles k e =
      settles k e
      ∙ ap (λ p. cond (same_key k (key_of x)) (Some (record { number = n; change = x })) (beside x p))
      (nothing (floor_around ac b) k ∙ sym (absent k (e ∙ at)) ∙ has_here ac bs s b (tree.get buffer_cmp bs b) is refl k (e ∙ at))

  first_entered : FitsStore s x → ((f : ℕ) → Fits f h x → Settles f (Some h) n x w) → (new : Tree) → IsWith buffer_cmp bs.entries b w new.entries → IsEntered (seen ac bs) n x (seen ac new)
  first_entered fits settles new up =
      let f = floor_around ac b in
      let fit = fits_from s f h b (own_account ac bs s b.account is) (λ k e. absent k e ∙ sym (nothing f k)) x at fits in
      entered ac bs new x n b at (tree.get buffer_cmp bs b) w refl up (settles_first (settles f fit))

-- where the buffer found no room
pub invariant_of-self : goal.invariant_of-self
invariant_of-self c = subst (λ es. IsKeyedStore (store_in (held_by c.self.inside.accounts.entries) (map.from_entries es))) (sym (c.if-not-put.ensures.refused refl)) c.self.invariant

pub invariant_of-self-2 : goal.invariant_of-self-2
invariant_of-self-2 c =
    let ac = c.self.inside.accounts in
    let bs = c.self.inside.held in
    let new = c.put.new.map in
    let is = first_entered ac bs c.args.self.now c.self.view_is c.args.change c.args.number c.args.buffer c.requires.of_buffer c.requires.absent c.nothing_held-held.result c.settle.new.held c.nothing_held-held.ensures c.requires.fits c.in-Ok.ensures.settled new (c.if-not-put.ensures.put refl) in
    entered_keyed (seen ac bs) c.args.number c.args.change (seen ac new) is c.self.invariant

pub returns-clause-entered : goal.returns-clause-entered
returns-clause-entered c =
    let ac = c.self.inside.accounts in
    let bs = c.self.inside.held in
    let new = c.put.new.map in
    let is = first_entered ac bs c.args.self.now c.self.view_is c.args.change c.args.number c.args.buffer c.requires.of_buffer c.requires.absent c.nothing_held-held.result c.settle.new.held c.nothing_held-held.ensures c.requires.fits c.in-Ok.ensures.settled new (c.if-not-put.ensures.put refl) in
    subst (λ s. IsEntered s c.args.number c.args.change (seen ac new)) c.self.view_is is
