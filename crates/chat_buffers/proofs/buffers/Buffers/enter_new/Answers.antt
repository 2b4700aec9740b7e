use Rattle.std.proofs.Common.{rules, ◌≡◌, ◌∙◌, refl, sym, ap, subst, max, Some, None, Result, Ok, Err, OnErr, arith}
use Rattle.std.specs.BTreeMap as tree
use Rattle.std.specs.FinMap as map
use Rattle.chat_change.specs.Order.{buffer_cmp}
use Rattle.chat_change.specs.declared.change.Change.TheVariants as value
use Rattle.ordered_maps.specs.MapView.{IsWith}
use Rattle.chat_buffers.specs.declared.held_message.HeldMessage.TheVariants.{Kept}
use Rattle.chat_buffers.specs.Store.{IsKeyedStore}
use Rattle.chat_buffers.specs.Entering.{IsEntered}
use Rattle.chat_buffers.proofs.SettleLemmas.{seen}
use Rattle.chat_buffers.proofs.LookupLemmas.{around_is, own_floor_here}
use Rattle.chat_buffers.proofs.NewPostLemmas.{nothing_there, new_entered, new_keyed, not_entered}
use Rattle.chat_buffers.proofs.buffers.Buffers.enter_new.Goals as goal

on_err : {T E P : Type 0} (r : Result T E) → P → OnErr r P
on_err (Ok x) p = tt
on_err (Err e) p = p

-- nothing is held of the buffer
pub invariant_of-self : goal.invariant_of-self
invariant_of-self c = subst (λ m. IsKeyedStore (seen c.self.inside.accounts m)) (sym c.get_mut.follows.holds-at-none) c.self.invariant

-- it stands below the floor
pub invariant_of-self-then-ms-max : goal.invariant_of-self-then-ms-max
invariant_of-self-then-ms-max c =
    let ac = c.self.inside.accounts in
    let bs = c.self.inside.held in
    let r = c.args.post.now in
    let h = c.in-Some.held.now in
    let here : tree.get buffer_cmp bs r.buffer ≡ Some h = ap (tree.get buffer_cmp bs) (sym c.buffer-2.ensures) ∙ (search rules) in
    let w = record h { messages = h.messages } in
    let new = c.get_mut.follows.lender w in
    let up : IsWith buffer_cmp bs.entries r.buffer w new.entries = subst (λ b. IsWith buffer_cmp bs.entries b w new.entries) c.buffer-2.ensures (((c.get_mut.follows.holds w).3 (search rules)).0) in
    subst IsKeyedStore (sym (not_entered ac bs r c.args.number h here new h.messages up refl)) c.self.invariant

pub returns-then-ms-max-clause-other : goal.returns-then-ms-max-clause-other
returns-then-ms-max-clause-other c _ =
    let ac = c.self.inside.accounts in
    let bs = c.self.inside.held in
    let r = c.args.post.now in
    let h = c.in-Some.held.now in
    let here : tree.get buffer_cmp bs r.buffer ≡ Some h = ap (tree.get buffer_cmp bs) (sym c.buffer-2.ensures) ∙ (search rules) in
    let w = record h { messages = h.messages } in
    let new = c.get_mut.follows.lender w in
    let up : IsWith buffer_cmp bs.entries r.buffer w new.entries = subst (λ b. IsWith buffer_cmp bs.entries b w new.entries) c.buffer-2.ensures (((c.get_mut.follows.holds w).3 (search rules)).0) in
    not_entered ac bs r c.args.number h here new h.messages up refl ∙ c.self.view_is

-- something is held of its message
pub invariant_of-self-then-is_some : goal.invariant_of-self-then-is_some
invariant_of-self-then-is_some c =
    let ac = c.self.inside.accounts in
    let bs = c.self.inside.held in
    let r = c.args.post.now in
    let h = c.in-Some.held.now in
    let here : tree.get buffer_cmp bs r.buffer ≡ Some h = ap (tree.get buffer_cmp bs) (sym c.buffer-2.ensures) ∙ (search rules) in
    let w = record h { messages = h.messages } in
    let new = c.get_mut.follows.lender w in
    let up : IsWith buffer_cmp bs.entries r.buffer w new.entries = subst (λ b. IsWith buffer_cmp bs.entries b w new.entries) c.buffer-2.ensures (((c.get_mut.follows.holds w).3 (search rules)).0) in
    subst IsKeyedStore (sym (not_entered ac bs r c.args.number h here new h.messages up refl)) c.self.invariant

pub returns-then-is_some-clause-other : goal.returns-then-is_some-clause-other
returns-then-is_some-clause-other c _ =
    let ac = c.self.inside.accounts in
    let bs = c.self.inside.held in
    let r = c.args.post.now in
    let h = c.in-Some.held.now in
    let here : tree.get buffer_cmp bs r.buffer ≡ Some h = ap (tree.get buffer_cmp bs) (sym c.buffer-2.ensures) ∙ (search rules) in
    let w = record h { messages = h.messages } in
    let new = c.get_mut.follows.lender w in
    let up : IsWith buffer_cmp bs.entries r.buffer w new.entries = subst (λ b. IsWith buffer_cmp bs.entries b w new.entries) c.buffer-2.ensures (((c.get_mut.follows.holds w).3 (search rules)).0) in
    not_entered ac bs r c.args.number h here new h.messages up refl ∙ c.self.view_is

-- there is no memory for it
pub invariant_of-self-in_err-try_clone : goal.invariant_of-self-in_err-try_clone
invariant_of-self-in_err-try_clone c =
    let ac = c.self.inside.accounts in
    let bs = c.self.inside.held in
    let r = c.args.post.now in
    let h = c.in-Some.held.now in
    let here : tree.get buffer_cmp bs r.buffer ≡ Some h = ap (tree.get buffer_cmp bs) (sym c.buffer-2.ensures) ∙ (search rules) in
    let w = record h { messages = h.messages } in
    let new = c.get_mut.follows.lender w in
    let up : IsWith buffer_cmp bs.entries r.buffer w new.entries = subst (λ b. IsWith buffer_cmp bs.entries b w new.entries) c.buffer-2.ensures (((c.get_mut.follows.holds w).3 (search rules)).0) in
    subst IsKeyedStore (sym (not_entered ac bs r c.args.number h here new h.messages up refl)) c.self.invariant

pub returns-in_err-try_clone-clause-refused : goal.returns-in_err-try_clone-clause-refused
returns-in_err-try_clone-clause-refused c =
    let ac = c.self.inside.accounts in
    let bs = c.self.inside.held in
    let r = c.args.post.now in
    let h = c.in-Some.held.now in
    let here : tree.get buffer_cmp bs r.buffer ≡ Some h = ap (tree.get buffer_cmp bs) (sym c.buffer-2.ensures) ∙ (search rules) in
    let w = record h { messages = h.messages } in
    let new = c.get_mut.follows.lender w in
    let up : IsWith buffer_cmp bs.entries r.buffer w new.entries = subst (λ b. IsWith buffer_cmp bs.entries b w new.entries) c.buffer-2.ensures (((c.get_mut.follows.holds w).3 (search rules)).0) in
    let same = not_entered ac bs r c.args.number h here new h.messages up refl ∙ c.self.view_is in
    on_err c.from_residual.result same

pub invariant_of-self-in_err-post : goal.invariant_of-self-in_err-post
invariant_of-self-in_err-post c =
    let ac = c.self.inside.accounts in
    let bs = c.self.inside.held in
    let r = c.args.post.now in
    let h = c.in-Some.held.now in
    let here : tree.get buffer_cmp bs r.buffer ≡ Some h = ap (tree.get buffer_cmp bs) (sym c.buffer-2.ensures) ∙ (search rules) in
    let w = record h { messages = c.post.new.self } in
    let new = c.get_mut.follows.lender w in
    let up : IsWith buffer_cmp bs.entries r.buffer w new.entries = subst (λ b. IsWith buffer_cmp bs.entries b w new.entries) c.buffer-2.ensures (((c.get_mut.follows.holds w).3 (search rules)).0) in
    subst IsKeyedStore (sym (not_entered ac bs r c.args.number h here new c.post.new.self up c.in_err-post.ensures.refused)) c.self.invariant

pub returns-in_err-post-clause-refused : goal.returns-in_err-post-clause-refused
returns-in_err-post-clause-refused c =
    let ac = c.self.inside.accounts in
    let bs = c.self.inside.held in
    let r = c.args.post.now in
    let h = c.in-Some.held.now in
    let here : tree.get buffer_cmp bs r.buffer ≡ Some h = ap (tree.get buffer_cmp bs) (sym c.buffer-2.ensures) ∙ (search rules) in
    let w = record h { messages = c.post.new.self } in
    let new = c.get_mut.follows.lender w in
    let up : IsWith buffer_cmp bs.entries r.buffer w new.entries = subst (λ b. IsWith buffer_cmp bs.entries b w new.entries) c.buffer-2.ensures (((c.get_mut.follows.holds w).3 (search rules)).0) in
    let same = not_entered ac bs r c.args.number h here new c.post.new.self up c.in_err-post.ensures.refused ∙ c.self.view_is in
    on_err c.from_residual-in_err-post.result same

-- it is entered
pub invariant_of-self-2 : goal.invariant_of-self-2
invariant_of-self-2 c =
    let ac = c.self.inside.accounts in
    let bs = c.self.inside.held in
    let r = c.args.post.now in
    let h = c.in-Some.held.now in
    let here : tree.get buffer_cmp bs r.buffer ≡ Some h = ap (tree.get buffer_cmp bs) (sym c.buffer-2.ensures) ∙ (search rules) in
    let w = record h { messages = c.post.new.self } in
    let new = c.get_mut.follows.lender w in
    let up : IsWith buffer_cmp bs.entries r.buffer w new.entries = subst (λ b. IsWith buffer_cmp bs.entries b w new.entries) c.buffer-2.ensures (((c.get_mut.follows.holds w).3 (search rules)).0) in
    let placed = subst (λ x. c.post.new.self ≡ map.insert h.messages x.id (Kept x c.args.number)) c.in_ok-try_clone.ensures c.in_ok-post.ensures.placed in
    new_keyed ac bs r c.args.number h here new c.post.new.self up placed c.self.invariant

pub returns-clause-new : goal.returns-clause-new
returns-clause-new c _ =
    let ac = c.self.inside.accounts in
    let bs = c.self.inside.held in
    let r = c.args.post.now in
    let h = c.in-Some.held.now in
    let here : tree.get buffer_cmp bs r.buffer ≡ Some h = ap (tree.get buffer_cmp bs) (sym c.buffer-2.ensures) ∙ (search rules) in
    let none : map.get h.messages r.id ≡ None = ap (map.get h.messages) (sym c.id.ensures) ∙ (search rules) in
    nothing_there ac bs r c.args.number h here c.args.self.now c.self.view_is none

pub returns-clause-above : goal.returns-clause-above
returns-clause-above c _ =
    let ac = c.self.inside.accounts in
    let bs = c.self.inside.held in
    let r = c.args.post.now in
    let h = c.in-Some.held.now in
    let here : tree.get buffer_cmp bs r.buffer ≡ Some h = ap (tree.get buffer_cmp bs) (sym c.buffer-2.ensures) ∙ (search rules) in
    let s = c.args.self.now in
    let around = c.floor_ms-around.ensures ∙ sym (around_is ac bs s c.self.view_is r.buffer c.owner.result.now c.own_floor.result (c.owner.ensures ∙ ap (λ b. b.account) c.buffer.ensures) c.own_floor.ensures) in
    let own = c.floor_ms.ensures ∙ sym (own_floor_here ac bs s c.self.view_is r.buffer h here) in
    let floor = c.max.ensures ∙ (λ i. max (around i) (own i)) in
    let at = c.ms.ensures.value ∙ c.at.ensures in
    let below = c.if-ms-max.false in
    omega (arith, floor, at, below)

pub returns-clause-entered : goal.returns-clause-entered
returns-clause-entered c _ =
    let ac = c.self.inside.accounts in
    let bs = c.self.inside.held in
    let r = c.args.post.now in
    let h = c.in-Some.held.now in
    let here : tree.get buffer_cmp bs r.buffer ≡ Some h = ap (tree.get buffer_cmp bs) (sym c.buffer-2.ensures) ∙ (search rules) in
    let w = record h { messages = c.post.new.self } in
    let new = c.get_mut.follows.lender w in
    let up : IsWith buffer_cmp bs.entries r.buffer w new.entries = subst (λ b. IsWith buffer_cmp bs.entries b w new.entries) c.buffer-2.ensures (((c.get_mut.follows.holds w).3 (search rules)).0) in
    let placed = subst (λ x. c.post.new.self ≡ map.insert h.messages x.id (Kept x c.args.number)) c.in_ok-try_clone.ensures c.in_ok-post.ensures.placed in
    subst (λ s. IsEntered s c.args.number (value.Post r) (seen ac new)) c.self.view_is
    (new_entered ac bs r c.args.number h here new c.post.new.self up placed)
