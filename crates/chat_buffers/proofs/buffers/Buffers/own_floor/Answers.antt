use Rattle.std.proofs.Common.{rules, ◌≡◌, ◌∙◌, refl, sym, ap, subst, Option, Some, None}
use Rattle.std.specs.BTreeMap as tree
use Rattle.std.specs.FinMap as map
use Rattle.std.specs.Option.{option_map}
use Rattle.chat_change.specs.Extent.{Extent, OfAccount, OfBuffer, value_of}
use Rattle.byte_text.specs.Order.{text_cmp}
use Rattle.chat_change.specs.Order.{buffer_cmp}
use Rattle.chat_change.specs.Key.{FloorOf}
use Rattle.chat_buffers.specs.Store.{Store}
use Rattle.chat_buffers.specs.Held.{account_piece, floor_piece}
use Rattle.chat_buffers.specs.declared.held.Stamp.{Stamp}
use Rattle.chat_buffers.proofs.SettleLemmas.{get-extent, has_here}
use Rattle.chat_buffers.proofs.buffers.Buffers.own_floor.Goals as goal

-- what is said of an extent, where another name stands for it
said : (s : Store) (e x : Extent) (o : Option Stamp) → x ≡ e → map.get s (FloorOf e) ≡ option_map (floor_piece e) o → map.get s (FloorOf x) ≡ option_map (floor_piece x) o
said s e x o is h = subst (λ y. map.get s (FloorOf y) ≡ option_map (floor_piece y) o) (sym is) h

pub returns-in_err-get-in-Account : goal.returns-in_err-get-in-Account
returns-in_err-get-in-Account c =
    let ac = c.self.inside.accounts in
    let bs = c.self.inside.held in
    let s = c.args.self.now in
    let a = c.in-Account.account.now in
    let none : tree.get text_cmp ac a ≡ None = search rules in
    said s (OfAccount a) (value_of c.args.extent) c.from_residual.result (ap value_of c.in-Account.is)
    (get-extent ac bs s (OfAccount a) c.self.view_is (FloorOf (OfAccount a)) refl ∙ ap (account_piece a) (none ∙ sym c.from_residual.ensures))

pub returns-in_err-get-in-Buffer : goal.returns-in_err-get-in-Buffer
returns-in_err-get-in-Buffer c =
    let ac = c.self.inside.accounts in
    let bs = c.self.inside.held in
    let s = c.args.self.now in
    let b = c.in-Buffer.buffer.now in
    let none : tree.get buffer_cmp bs b ≡ None = search rules in
    said s (OfBuffer b) (value_of c.args.extent) c.from_residual-in_err-get-in-Buffer.result (ap value_of c.in-Buffer.is)
    (has_here ac bs s b None c.self.view_is none (FloorOf (OfBuffer b)) refl ∙ ap (option_map (floor_piece (OfBuffer b))) (sym c.from_residual-in_err-get-in-Buffer.ensures))

pub returns-in_ok-get-in-Account : goal.returns-in_ok-get-in-Account
returns-in_ok-get-in-Account c =
    let ac = c.self.inside.accounts in
    let bs = c.self.inside.held in
    let s = c.args.self.now in
    let a = c.in-Account.account.now in
    let stamp = c.in_ok-get-in-Account.field-0.now in
    let here : tree.get text_cmp ac a ≡ Some stamp = search rules in
    said s (OfAccount a) (value_of c.args.extent) (Some stamp) (ap value_of c.in-Account.is)
    (get-extent ac bs s (OfAccount a) c.self.view_is (FloorOf (OfAccount a)) refl ∙ ap (account_piece a) here)

pub returns-in_ok-get-in-Buffer : goal.returns-in_ok-get-in-Buffer
returns-in_ok-get-in-Buffer c =
    let ac = c.self.inside.accounts in
    let bs = c.self.inside.held in
    let s = c.args.self.now in
    let b = c.in-Buffer.buffer.now in
    let h = c.in_ok-get-in-Buffer.field-0.now in
    let here : tree.get buffer_cmp bs b ≡ Some h = search rules in
    said s (OfBuffer b) (value_of c.args.extent) h.floor (ap value_of c.in-Buffer.is)
    (has_here ac bs s b (Some h) c.self.view_is here (FloorOf (OfBuffer b)) refl)
